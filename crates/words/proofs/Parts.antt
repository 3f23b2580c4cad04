-- Parts of a list: after a part was lent and came back, and after a store. Assumes nothing.
use mathlib.Core.Path.{◌≡◌, refl, sym, ap, ◌∙◌}
use mathlib.Core.List.{List, [], ◌∷◌, ◌++◌}
use Prim.Native.Nat.{ℕ, zero, suc, ◌+◌, ◌-◌, ◌≤◌, ◌<◌}
use native.Mathlib.Nat.{add-zero}
use native.Mathlib.Omega.{arith}
use lib.ListN.{length, take, drop, get_or, set, length-drop}
use lib.Seq.{length-take-le, take_at, drop_at, drop-drop, take-take, drop-set-lt, drop-set-add, take-set-le, get_or-take, get_or-drop}
use borrow.Rule.Slice.PartMut.{put_mid, take_put, drop_put, same_len_mid}
use Rattle.words.specs.internal.Parts.{part}

pub part_length : (b m : ℕ) (xs : List ℕ) → b + m ≤ length xs → length (part b m xs) ≡ m
part_length b m xs h = length-take-le m (drop b xs) (rw length-drop (omega arith))

pub part_get : (b m : ℕ) (xs : List ℕ) (i : ℕ) → i < m → get_or (part b m xs) i 0 ≡ get_or xs (b + i) 0
part_get b m xs i h = get_or-take m (drop b xs) i 0 h ∙ get_or-drop b xs i 0

-- an element as a part of one
get_part : (xs : List ℕ) (j : ℕ) → get_or xs j 0 ≡ get_or (part j 1 xs) 0 0
get_part xs j = sym (part_get j 1 xs 0 (omega arith) ∙ ap (λ (z : ℕ). get_or xs z 0) (add-zero j))

-- a part of a front
pub part_take : (b m a : ℕ) (xs : List ℕ) → b + m ≤ a → part b m (take a xs) ≡ part b m xs
part_take zero m a xs h = take-take m a xs (omega arith)
part_take (suc b) m zero xs h = absurd (omega arith)
part_take (suc b) m (suc a) [] h = refl
part_take (suc b) m (suc a) (x ∷ xs) h = part_take b m a xs (omega arith)

-- ---- a part put back

module _ (a n : ℕ) (xs ys : List ℕ) (h : a + n ≤ length xs) (l : length ys ≡ n) where
  pub part_same : part a n (put_mid a n xs ys) ≡ ys
  part_same =
      ap (take n) (drop_at (take a xs) (ys ++ drop n (drop a xs)) a (length-take-le a xs (omega arith))) ∙ take_at ys (drop n (drop a xs)) n l

  pub part_before : (b m : ℕ) → b + m ≤ a → part b m (put_mid a n xs ys) ≡ part b m xs
  part_before b m g = sym (part_take b m a (put_mid a n xs ys) g) ∙ ap (part b m) (take_put a n xs ys (omega arith)) ∙ part_take b m a xs g

  pub drop_after : (b : ℕ) → a + n ≤ b → drop b (put_mid a n xs ys) ≡ drop b xs
  drop_after b g =
      let e : a + n - a ≡ n = omega arith in
      let f : a + n + (b - (a + n)) ≡ b = omega arith in
      let d : drop (a + n) (put_mid a n xs ys) ≡ drop (a + n) xs = rw e at (drop_put a (a + n) xs ys (omega arith) h (rw e l)) in
      ap (λ (z : ℕ). drop z (put_mid a n xs ys)) (sym f) ∙ sym (drop-drop (b - (a + n)) (a + n) (put_mid a n xs ys))
      ∙ ap (drop (b - (a + n))) d ∙ drop-drop (b - (a + n)) (a + n) xs ∙ ap (λ (z : ℕ). drop z xs) f

  pub part_after : (b m : ℕ) → a + n ≤ b → part b m (put_mid a n xs ys) ≡ part b m xs
  part_after b m g = ap (take m) (drop_after b g)

  pub length_put : length (put_mid a n xs ys) ≡ length xs
  length_put = same_len_mid a n xs ys (l ∙ sym (part_length a n xs h))

  pub get_before : (j : ℕ) → j < a → get_or (put_mid a n xs ys) j 0 ≡ get_or xs j 0
  get_before j g = get_part (put_mid a n xs ys) j ∙ ap (λ (z : List ℕ). get_or z 0 0) (part_before j 1 (omega arith)) ∙ sym (get_part xs j)

  pub get_after : (j : ℕ) → a + n ≤ j → get_or (put_mid a n xs ys) j 0 ≡ get_or xs j 0
  get_after j g = get_part (put_mid a n xs ys) j ∙ ap (λ (z : List ℕ). get_or z 0 0) (part_after j 1 g) ∙ sym (get_part xs j)

-- ---- a part after a store

module _ (b m : ℕ) (xs : List ℕ) (i v : ℕ) where
  pub part_set_before : b + m ≤ i → part b m (set xs i v) ≡ part b m xs
  part_set_before h =
      let e : i ≡ b + (i - b) = omega arith in
      rw e (ap (take m) (drop-set-add b xs (i - b) v) ∙ take-set-le m (drop b xs) (i - b) v (omega arith))

  pub part_set_after : i < b → part b m (set xs i v) ≡ part b m xs
  part_set_after h = ap (take m) (drop-set-lt b xs i v h)
