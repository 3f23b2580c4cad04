-- Laws of lists given by a function of the index. Assumes nothing.
use Prim.Native.Nat.{ℕ, zero, suc, ◌+◌, ◌<◌}
use mathlib.Core.Path.{◌≡◌, refl, sym, ap, ◌∙◌}
use mathlib.Core.List.{List, [], ◌∷◌, ◌++◌}
use native.Mathlib.Nat.{add-zero, add-suc, suc-add, le_of_suc-le-suc, not-suc-le-zero}
use native.Mathlib.Omega.{arith}
use lib.ListN.{length, get_or}
use lib.Seq.{ext_get_or}
use Rattle.words.specs.Tabulate.{tabulate}

module _ {A : Type 0} where
  pub length_tabulate : (f : ℕ → A) (a n : ℕ) → length (tabulate f a n) ≡ n
  unfolding tabulate
  length_tabulate f a zero = refl
  length_tabulate f a (suc n) = ap suc (length_tabulate f (suc a) n)

  pub get_or_tabulate : (f : ℕ → A) (a n i : ℕ) (d : A) → i < n → get_or (tabulate f a n) i d ≡ f (a + i)
  unfolding tabulate
  get_or_tabulate f a zero i d h = absurd (not-suc-le-zero h)
  get_or_tabulate f a (suc n) zero d h = rw add-zero
  get_or_tabulate f a (suc n) (suc i) d h = get_or_tabulate f (suc a) n i d (le_of_suc-le-suc h) ∙ ap f (omega arith)

  pub tabulate_ext : (f g : ℕ → A) (a n : ℕ) → ((i : ℕ) → i < n → f (a + i) ≡ g (a + i)) → tabulate f a n ≡ tabulate g a n
  unfolding tabulate
  tabulate_ext f g a zero h = refl
  tabulate_ext f g a (suc n) h =
      let p : f a ≡ g a = rw add-zero at (h 0 (omega arith)) in
      let q : tabulate f (suc a) n ≡ tabulate g (suc a) n = tabulate_ext f g (suc a) n (λ i b. rw (suc-add, ← add-suc) (h (suc i) (omega arith))) in
      cc

  -- two lists of one length that agree at every index
  pub tabulate_is : (f : ℕ → A) (n : ℕ) (l : List A) (d : A) → length l ≡ n → ((i : ℕ) → i < n → f i ≡ get_or l i d) → tabulate f 0 n ≡ l
  tabulate_is f n l d e h =
      ext_get_or d (tabulate f 0 n) l (length_tabulate f 0 n ∙ sym e)
      (λ i b. let b₁ : i < n = omega (arith, length_tabulate f 0 n, b) in get_or_tabulate f 0 n i d b₁ ∙ ap f (omega arith) ∙ h i b₁)

  pub tabulate_snoc : (f : ℕ → A) (a n : ℕ) → tabulate f a (suc n) ≡ tabulate f a n ++ (f (a + n) ∷ [])
  unfolding tabulate
  tabulate_snoc f a zero = rw add-zero
  tabulate_snoc f a (suc n) = ap (λ (l : List A). f a ∷ l) (tabulate_snoc f (suc a) n ∙ ap (λ (k : ℕ). tabulate f (suc a) n ++ (f k ∷ [])) (omega arith))
