-- A list placed over a part of another, a row in a table as well as a text in a buffer. Assumes nothing.
use native.Mathlib.Nat.{add-zero, add_assoc}
use Prim.Native.Nat.{ℕ, ◌+◌, ◌-◌, ◌≤◌}
use mathlib.Core.Path.{◌≡◌, sym, ap, ◌∙◌}
use mathlib.Core.List.{List, [], ◌++◌, append-nil, append_assoc}
use native.Mathlib.Omega.{arith}
use lib.ListN.{length, take, drop, length-append, length-drop, drop_of_length-le, take-append-drop}
use lib.Seq.{length-take-le, take_at, drop_at, sets, sets-eq, drop-drop, take_all}
use borrow.Rule.Slice.PartMut.{put_mid}
use Rattle.words.specs.internal.Placed.{placed}

module _ (t : List ℕ) (at : ℕ) (row : List ℕ) (h : at ≤ length t) where
  head_length : length (take at t ++ row) ≡ at + length row
  head_length = length-append (take at t) row ∙ ap (λ (n : ℕ). n + length row) (length-take-le at t h)

  split : placed t at row ≡ (take at t ++ row) ++ drop (at + length row) t
  unfolding placed
  split = sym (append_assoc (take at t) row (drop (at + length row) t))

  pub take_placed : take (at + length row) (placed t at row) ≡ take at t ++ row
  take_placed = rw split (take_at (take at t ++ row) (drop (at + length row) t) (at + length row) head_length)

pub length_placed : (t : List ℕ) (at : ℕ) (row : List ℕ) → at + length row ≤ length t → length (placed t at row) ≡ length t
length_placed t at row h =
    let g : at ≤ length t = omega arith in
    rw (split t at row g, length-append, head_length t at row g, length-drop) (omega arith)

-- a part that was lent and came back as the row
pub put_placed : (t : List ℕ) (at n : ℕ) (row : List ℕ) → length row ≡ n → put_mid at n t row ≡ placed t at row
unfolding placed
put_placed t at n row l = rw (drop-drop, l)

-- words stored one by one from a place on
pub sets_placed : (t : List ℕ) (at : ℕ) (ws : List ℕ) → at + length ws ≤ length t → sets t at ws ≡ placed t at ws
unfolding placed
sets_placed t at ws h = sets-eq ws t at h ∙ append_assoc (take at t) ws (drop (at + length ws) t)

-- nothing in the place of nothing
pub placed_nothing : (t : List ℕ) (at : ℕ) → placed t at [] ≡ t
unfolding placed
placed_nothing t at = ap (λ (k : ℕ). take at t ++ drop k t) (add-zero at) ∙ take-append-drop at t

-- a row in the place of the whole
pub placed_whole : (t ws : List ℕ) → length t ≡ length ws → placed t 0 ws ≡ ws
unfolding placed
placed_whole t ws e = ap (λ (r : List ℕ). ws ++ r) (drop_of_length-le t {i = 0 + length ws} (omega arith)) ∙ append-nil ws

-- a row after a row is one row
pub placed_append : (t : List ℕ) (at n : ℕ) (ws vs : List ℕ) → at ≤ length t → at + length ws ≡ n → placed (placed t at ws) n vs ≡ placed t at (ws ++ vs)
unfolding placed
placed_append t at n ws vs h e =
    let next = placed t at ws in
    let front : take n next ≡ take at t ++ ws = ap (λ (k : ℕ). take k next) (sym e) ∙ take_placed t at ws h in
    let after : drop (at + length ws) next ≡ drop (at + length ws) t =
    ap (drop (at + length ws)) (split t at ws h) ∙ drop_at (take at t ++ ws) (drop (at + length ws) t) (at + length ws) (head_length t at ws h) in
    let back : drop (n + length vs) next ≡ drop (at + length ws + length vs) t =
    ap (λ (k : ℕ). drop (k + length vs) next) (sym e) ∙ sym (drop-drop (length vs) (at + length ws) next) ∙ ap (drop (length vs)) after ∙ drop-drop (length vs) (at + length ws) t in
    (λ i. front i ++ (vs ++ back i)) ∙ simp (append_assoc, length-append, add_assoc)

-- the part of s from a place to its end, as the code lends it
pub tail_is : (s : List ℕ) (at : ℕ) → take (length s - at) (drop at s) ≡ drop at s
tail_is s at = take_all (length s - at) (drop at s) (omega (arith, length-drop at s))
