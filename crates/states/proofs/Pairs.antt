-- Two lists side by side, from an index on. Assumes nothing.
use Prim.Native.Nat.{ℕ, zero, suc, ◌+◌, ◌≤◌, ◌<◌}
use mathlib.Core.Path.{◌≡◌, refl, sym, ap, ◌∙◌}
use mathlib.Core.Bool.{Bool, true, false, ◌&&◌, and-false}
use mathlib.Core.List.{List, [], ◌∷◌, ◌++◌, zip_with, append_assoc, append-nil}
use native.Mathlib.Nat.{le_of_suc-le-suc, not-suc-le-zero}
use native.Mathlib.Numerals.{add-one}
use native.Mathlib.Omega.{arith}
use lib.Dec.{leb}
use lib.ListN.{length, take, drop, get_or, set, length-set, drop_of_length-le}
use lib.Seq.{drop-cons, take-suc-set, drop-set-lt, take_all}
use borrow.Author.Tests.{le-leb, lt-leb}
use Rattle.std.specs.Bool.{MatchBool}
use Rattle.std.specs.List.{zip, AllWithin, HoldsAt}
use Rattle.model.specs.Folds.{every_two}
use Rattle.words.specs.Tabulate.{tabulate}

-- ---- every element is at most its counterpart

all_pairs : (x y : List ℕ) → length x ≡ length y → AllWithin (λ (p : ℕ × ℕ). p.0 ≤ p.1) (zip x y) 0 (length (zip x y)) → every_two leb x y ≡ true
unfolding every_two
all_pairs [] [] n h = refl
all_pairs [] (b ∷ y) n h = absurd (omega arith)
all_pairs (a ∷ x) [] n h = absurd (omega arith)
all_pairs (a ∷ x) (b ∷ y) n h = rw (le-leb a b (h 0 (0, 0) (omega arith) (omega arith))) (all_pairs x y (omega arith) (λ k d l u. h (suc k) d (omega arith) (omega arith)))

one_pair : (x y : List ℕ) (k : ℕ) → k < length (zip x y) → HoldsAt (λ (p : ℕ × ℕ). p.1 < p.0) (zip x y) k → every_two leb x y ≡ false
unfolding every_two
one_pair [] y k l h = absurd (omega arith)
one_pair (a ∷ x) [] k l h = absurd (omega arith)
one_pair (a ∷ x) (b ∷ y) zero l h = rw (lt-leb a b (h (0, 0))) refl
one_pair (a ∷ x) (b ∷ y) (suc k) l h = ap (λ t. leb a b && t) (one_pair x y k (omega arith) h) ∙ and-false (leb a b)

-- a test of all pairs tells whether every element is at most its counterpart
pub every_tested : (x y : List ℕ) (r : Bool) → length x ≡ length y
    → MatchBool r (AllWithin (λ (p : ℕ × ℕ). p.0 ≤ p.1) (zip x y) 0 (length (zip x y))) ((k : ℕ) × (k < length (zip x y)) × HoldsAt (λ (p : ℕ × ℕ). p.1 < p.0) (zip x y) k)
    → r ≡ every_two leb x y
every_tested x y true n h = sym (all_pairs x y n h)
every_tested x y false n h = sym (one_pair x y h.0 h.1 h.2)

-- ---- two lists made one, element by element: d₀ and s, where d is d₀ with the elements before index i done

module _ (f : ℕ → ℕ → ℕ) (d₀ s : List ℕ) where
  -- the elements before index i are done, and the others as they were
  abbrev pub ZippedUpTo : List ℕ → ℕ → Type 0
  ZippedUpTo d i = (i ≤ length d) × (length d ≡ length d₀) × (zip_with f d₀ s ≡ take i d ++ zip_with f (drop i d) (drop i s))

  -- one element more
  pub zip_next : (d : List ℕ) (i v : ℕ) → length d₀ ≡ length s → ZippedUpTo d i → i < length d → v ≡ f (get_or d i 0) (get_or s i 0) → ZippedUpTo (set d i v) (i + 1)
  unfolding zip_with
  zip_next d i v n (b, l, done) h e =
      let h₂ : i < length s = omega arith in
      let p : take (suc i) (set d i v) ≡ take i d ++ (v ∷ []) = take-suc-set d i v h in
      let q : drop (suc i) (set d i v) ≡ drop (suc i) d = drop-set-lt (suc i) d i v (omega arith) in
      let step : take i d ++ zip_with f (drop i d) (drop i s) ≡ take (i + 1) (set d i v) ++ zip_with f (drop (i + 1) (set d i v)) (drop (i + 1) s) =
      rw (add-one, p, q, e, drop-cons d i 0 h, drop-cons s i 0 h₂) (sym (append_assoc (take i d) (f (get_or d i 0) (get_or s i 0) ∷ []) (zip_with f (drop (suc i) d) (drop (suc i) s)))) in
      (simp length-set (omega arith), simp length-set l, done ∙ step)

  -- with all elements done
  pub zip_end : (d : List ℕ) (i : ℕ) → ZippedUpTo d i → length d ≤ i → d ≡ zip_with f d₀ s
  unfolding zip_with
  zip_end d i (b, l, done) h =
      sym (take_all i d h) ∙ sym (append-nil (take i d)) ∙ ap (λ (z : List ℕ). take i d ++ zip_with f z (drop i s)) (sym (drop_of_length-le d {i = i} h)) ∙ sym done

-- an element of two lists made one
pub get_or_zip : (f : ℕ → ℕ → ℕ) (d s : List ℕ) (i : ℕ) → i < length d → length d ≡ length s → get_or (zip_with f d s) i 0 ≡ f (get_or d i 0) (get_or s i 0)
unfolding zip_with
get_or_zip f [] s i h n = absurd (not-suc-le-zero h)
get_or_zip f (x ∷ xs) [] i h n = absurd (omega arith)
get_or_zip f (x ∷ xs) (y ∷ ys) zero h n = refl
get_or_zip f (x ∷ xs) (y ∷ ys) (suc i) h n = get_or_zip f xs ys i (le_of_suc-le-suc h) (omega arith)

-- two listed functions made one
pub zip_tabulate : {A : Type 0} (h : A → A → A) (f g : ℕ → A) (a n : ℕ) → zip_with h (tabulate f a n) (tabulate g a n) ≡ tabulate (λ i. h (f i) (g i)) a n
unfolding zip_with tabulate
zip_tabulate h f g a zero = refl
zip_tabulate {A} h f g a (suc n) = ap (λ (l : List A). h (f a) (g a) ∷ l) (zip_tabulate h f g (suc a) n)
