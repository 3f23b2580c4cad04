-- Folds over a list: the largest, element by element and place by place, and the smallest turn by turn. Assumes nothing.
use Prim.Native.Nat.{ℕ, zero, suc, ◌+◌, ◌<◌, ◌≤◌, min, max}
use mathlib.Core.Path.{◌≡◌, refl, sym, ap, ◌∙◌}
use mathlib.Core.Bool.{Bool, true, false, ◌&&◌, cond}
use mathlib.Core.List.{List, map}
use native.Mathlib.Numerals.{add-one}
use native.Mathlib.Omega.{arith}
use lib.ListN.{get_or, length, take, drop, drop_of_length-le}
use lib.Seq.{drop-cons}
use Rattle.std.specs.List.{fold, range_with_len}
use Rattle.model.specs.Folds.{largest, Limit, infinite, finite, smallest}
use Rattle.model.specs.Folds as folds
use Rattle.edges.specs.internal.Edges.{list_below, no_limit, limit_word, lower, smallest_in}
use Rattle.edges.proofs.Listing.{fold_listed, fold_turn}

-- ---- the largest, element by element: the larger of r and what is left of the n elements, from index j on, is the whole

module _ (p : ℕ → Bool) (f : ℕ → ℕ) (l : List ℕ) (whole : ℕ) where
  -- the list has n elements, and r with those from index j on gives the whole
  abbrev pub LargestLeft : ℕ → ℕ → ℕ → Type 0
  LargestLeft n r j = (n ≡ length l) × (max r (largest p f (drop j l)) ≡ whole)

  -- one element more: r' is the larger of r and what it gives
  pub largest_next : (n r j x r' : ℕ) → LargestLeft n r j → j < n → x ≡ cond (p (get_or l j 0)) (f (get_or l j 0)) 0 → r' ≡ max r x → LargestLeft n r' (j + 1)
  unfolding largest
  largest_next n r j x r' (many, left) h e q =
      let here = drop-cons l j 0 (omega arith) in
      (many, omega (arith, left, e, q, ap (largest p f) here, ap (λ (z : ℕ). largest p f (drop z l)) (add-one j)))

  -- with no element left, r is the whole
  pub largest_done : (n r j : ℕ) → LargestLeft n r j → n ≤ j → r ≡ whole
  unfolding largest
  largest_done n r j (many, left) h = omega (arith, left, ap (largest p f) (drop_of_length-le l {i = j} (omega arith)))

-- ---- the largest, place by place

module _ (p : ℕ → Bool) (f : ℕ → ℕ) (l : List ℕ) where
  -- what one place gives
  abbrev pub given_at : ℕ → ℕ
  given_at j = cond (p (get_or l j 0)) (f (get_or l j 0)) 0

  -- over the places from `a` on, of which n are left, it is the larger of a number and of the largest of what is left of the list
  pub largest_by_place : (r a n : ℕ) → a + n ≡ length l → fold (λ x y. max x y) r (map given_at (range_with_len a n)) ≡ max r (largest p f (drop a l))
  largest_by_place r a zero e = largest_done p f l (max r (largest p f (drop a l))) (length l) r a (refl, refl) (omega arith)
  largest_by_place r a (suc n) e =
      let whole = max r (largest p f (drop a l)) in
      let x = max r (given_at a) in
      let turned = largest_next p f l whole (length l) r a (given_at a) x (refl, refl) (omega arith) refl refl in
      largest_by_place x (a + 1) n (omega arith) ∙ turned.1

-- ---- the smallest of those in a list that pass: r is that of the elements before index t

module _ (q : ℕ → Bool) (f : ℕ → ℕ) where
  -- in words, an element that passes lowers the smallest to its own, and another leaves it
  pub lower_word : (x : Limit) (j : ℕ) → f j ≤ no_limit → limit_word (lower q f x j) ≡ cond (q j) (min (limit_word x) (f j)) (limit_word x)
  lower_word x j h = go (q j) x
    where
      go : (b : Bool) (x : Limit) → limit_word (cond b (folds.smaller (f j) x) x) ≡ cond b (min (limit_word x) (f j)) (limit_word x)
      go false x = refl
      go true infinite = omega arith
      go true (finite y) = omega arith

  module _ (l : List ℕ) (t r : ℕ) (h : t < length l) (so_far : r ≡ limit_word (smallest_in q f (take t l))) where
    turned : limit_word (smallest_in q f (take (t + 1) l)) ≡ limit_word (lower q f (smallest_in q f (take t l)) (get_or l t 0))
    turned = ap limit_word (fold_turn (lower q f) infinite l t h)

    -- an element that passes lowers the limit to its own
    pub smallest_with : q (get_or l t 0) ≡ true → f (get_or l t 0) ≤ no_limit → min r (f (get_or l t 0)) ≡ limit_word (smallest_in q f (take (t + 1) l))
    smallest_with e b =
        let x = smallest_in q f (take t l) in
        let value = f (get_or l t 0) in
        ap (λ (z : ℕ). min z value) so_far ∙ sym (turned ∙ lower_word x (get_or l t 0) b ∙ ap (λ c. cond c (min (limit_word x) value) (limit_word x)) e)

    -- another leaves it
    pub smallest_without : q (get_or l t 0) ≡ false → r ≡ limit_word (smallest_in q f (take (t + 1) l))
    smallest_without e =
        let x = smallest_in q f (take t l) in
        so_far ∙ sym (turned ∙ ap (λ c. limit_word (cond c (folds.smaller (f (get_or l t 0)) x) x)) e)

-- over the numbers that pass p, in a list, it is the smallest over the numbers that pass both
pub smallest_listed : (p q b : ℕ → Bool) (f : ℕ → ℕ) → ((j : ℕ) → b j ≡ (p j && q j)) → (n : ℕ) → smallest_in q f (list_below p n) ≡ smallest b f n
unfolding smallest
smallest_listed p q b f both = fold_listed p (lower q f) (smallest b f) (λ j e. rw (both j, e)) (λ j e. rw (both j, e))
