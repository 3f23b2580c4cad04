-- The numbers below a bound that pass, in a list: how a loop lists them, what its elements are, and folds over it. Assumes nothing.
use Prim.Native.Nat.{ℕ, zero, suc, ◌+◌, ◌<◌, ◌≤◌}
use mathlib.Core.Path.{◌≡◌, refl, sym, ap, ◌∙◌, subst}
use mathlib.Core.Logic.{◌⊎◌, inl, inr}
use mathlib.Core.Bool.{Bool, true, false, cond}
use mathlib.Core.List.{List, [], ◌∷◌, ◌++◌, foldl, foldl-append}
use native.Mathlib.Nat.{add-zero, le_of_suc-le-suc, eq-or-lt_of_le}
use native.Mathlib.Numerals.{add-one}
use native.Mathlib.Omega.{arith}
use lib.ListN.{get_or, length, set, take, length-append, get_or-append}
use lib.Seq.{take-suc, take-set-le, take-suc-set, get_or_at}
use Rattle.model.specs.Folds.{ind}
use Rattle.model.specs.Jobs.{Job}
use Rattle.model.specs.States.{State}
use Rattle.model.specs.Edges.{candidate}
use Rattle.edges.specs.internal.Edges.{list_below, candidates}

-- what holds of each element, and of one put behind them, holds of each
pub each_snoc : (P : ℕ → Type 0) (l : List ℕ) (x : ℕ) → ((t : ℕ) → t < length l → P (get_or l t 0)) → P x
    → (t : ℕ) → t < length (l ++ (x ∷ [])) → P (get_or (l ++ (x ∷ [])) t 0)
each_snoc P l x f b t h = go (eq-or-lt_of_le (le_of_suc-le-suc (subst (λ (n : ℕ). suc t ≤ n) (length-append l (x ∷ []) ∙ add-one (length l)) h)))
  where
    go : (t ≡ length l) ⊎ (t < length l) → P (get_or (l ++ (x ∷ [])) t 0)
    go (inl e) = subst P (sym (get_or_at l x [] 0 t (sym e))) b
    go (inr g) = subst P (sym (get_or-append l (x ∷ []) 0 t g)) (f t g)

-- a word is written behind the first n, and stays if the test is true
pub written_behind : (l : List ℕ) (n x : ℕ) (b : Bool) → n < length l → take (n + ind b) (set l n x) ≡ cond b (take n l ++ (x ∷ [])) (take n l)
written_behind l n x true h = rw (add-one n) (take-suc-set l n x h)
written_behind l n x false h = rw (add-zero n) (take-set-le n l n x (omega arith))

module _ (p : ℕ → Bool) where
  -- a number is written behind the n listed ones, and stays if it passes
  pub list_next : (l : List ℕ) (n j : ℕ) (b : Bool) → n < length l → take n l ≡ list_below p j → b ≡ p j
      → take (n + ind b) (set l n j) ≡ list_below p (j + 1)
  unfolding list_below
  list_next l n j b h e q = rw (add-one j, ← q) (written_behind l n j b h ∙ ap (λ (x : List ℕ). cond b (x ++ (j ∷ [])) x) e)

  -- each element is below the bound, and passes
  passing : (n t : ℕ) → t < length (list_below p n) → (get_or (list_below p n) t 0 < n) × (p (get_or (list_below p n) t 0) ≡ true)
  unfolding list_below
  passing zero t h = absurd (omega arith)
  passing (suc n) t h = go (p n) refl (λ u g. (omega (arith, (passing n u g).0), (passing n u g).1)) h
    where
      Good : ℕ → Type 0
      Good x = (x < suc n) × (p x ≡ true)

      go : (b : Bool) → p n ≡ b → ((u : ℕ) → u < length (list_below p n) → Good (get_or (list_below p n) u 0))
          → t < length (cond b (list_below p n ++ (n ∷ [])) (list_below p n)) → Good (get_or (cond b (list_below p n ++ (n ∷ [])) (list_below p n)) t 0)
      go true e f = each_snoc Good (list_below p n) n f (omega arith, e) t
      go false e f = f t

  -- where none passes, none is listed
  pub none_listed : (n : ℕ) → ((w : ℕ) → w < n → p w ≡ false) → list_below p n ≡ []
  unfolding list_below
  none_listed zero h = refl
  none_listed (suc n) h = rw (h n (omega arith)) (none_listed n (λ w b. h w (omega arith)))

  -- no more are listed than there are
  pub few_listed : (n : ℕ) → length (list_below p n) ≤ n
  unfolding list_below
  few_listed zero = omega arith
  few_listed (suc n) = go (p n) (few_listed n)
    where
      go : (b : Bool) → length (list_below p n) ≤ n → length (cond b (list_below p n ++ (n ∷ [])) (list_below p n)) ≤ suc n
      go true h = omega (arith, h, length-append (list_below p n) (n ∷ []))
      go false h = omega (arith, h)

  -- a fold over the list is a fold over the numbers that leaves out what does not pass
  pub fold_listed : {A : Type 0} (g : A → ℕ → A) (r : ℕ → A)
      → ((j : ℕ) → p j ≡ true → r (suc j) ≡ g (r j) j) → ((j : ℕ) → p j ≡ false → r (suc j) ≡ r j)
      → (n : ℕ) → foldl g (r 0) (list_below p n) ≡ r n
  unfolding list_below
  fold_listed g r with_it without zero = refl
  fold_listed g r with_it without (suc n) = go (p n) refl (fold_listed g r with_it without n)
    where
      go : (b : Bool) → p n ≡ b → foldl g (r 0) (list_below p n) ≡ r n → foldl g (r 0) (cond b (list_below p n ++ (n ∷ [])) (list_below p n)) ≡ r (suc n)
      go true e i = foldl-append g (r 0) (list_below p n) (n ∷ []) ∙ ap (λ a. g a n) i ∙ sym (with_it n e)
      go false e i = i ∙ sym (without n e)

-- one turn of a loop over a list
pub fold_turn : {A : Type 0} (g : A → ℕ → A) (a : A) (l : List ℕ) (t : ℕ) → t < length l
    → foldl g a (take (t + 1) l) ≡ g (foldl g a (take t l)) (get_or l t 0)
fold_turn g a l t h = rw (add-one t, take-suc l t 0 h) (foldl-append g a (take t l) (get_or l t 0 ∷ []))

-- each job of the list is a candidate
pub listed_candidate : (js : List Job) (σ : State) (k : ℕ) (list : List ℕ) → list ≡ candidates js σ k → (t : ℕ) → t < length list
    → (get_or list t 0 < k) × (candidate js σ (get_or list t 0) ≡ true)
listed_candidate js σ k list e = rw e (passing (candidate js σ) k)
