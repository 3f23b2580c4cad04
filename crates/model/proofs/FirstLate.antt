-- The first late job of a run: none is late; or this one is, it is one of those that start first, and none of them goes before it. Assumes nothing.
use Prim.Native.Nat.{ℕ, ◌≤◌, ◌<◌}
use mathlib.Core.Path.{◌≡◌, refl, sym, ap, ◌∙◌}
use mathlib.Core.Bool.{Bool, true, ◌&&◌}
use mathlib.Core.List.{List}
use mathlib.Core.Option.{Option, none, some}
use native.Mathlib.Nat.{le_antisymm}
use native.Mathlib.Omega.{arith}
use lib.Dec.{eqb}
use lib.ListN.{length}
use borrow.Author.Tests.{eqb-true, eq-eqb}
use Rattle.model.specs.Folds.{Limit, infinite, finite, smallest}
use Rattle.model.specs.Jobs.{Job, before}
use Rattle.model.specs.Dispatch.{Scenario, first_of}
use Rattle.model.specs.Playing.{start_time}
use Rattle.model.specs.Certain.{is_late, first_at, first_late}
use Rattle.model.proofs.Booleans.{and_left, and_right, and_both}
use Rattle.model.proofs.Folds.{Smallest, smallest_is}
use Rattle.model.proofs.Priority.{First, first_of_holds, same_place}

module _ (js : List Job) (m : ℕ) (s : Scenario) where
  -- the run does not start job k before job i
  abbrev pub NotBefore : ℕ → ℕ → Type 0
  NotBefore k i = (start_time js m s i ≤ start_time js m s k) × (start_time js m s k ≡ start_time js m s i → before js k i ≡ true → ⊥)

  abbrev pub FirstLate : Option ℕ → Type 0
  FirstLate none = (k : ℕ) → k < length js → is_late js m s k ≡ true → ⊥
  FirstLate (some i) = (i < length js) × (is_late js m s i ≡ true) × ((k : ℕ) → k < length js → is_late js m s k ≡ true → NotBefore k i)

  -- that is what is found
  pub first_late_holds : FirstLate (first_late js m s)
  unfolding first_late
  first_late_holds = go (smallest (is_late js m s) (start_time js m s) (length js)) (smallest_is (is_late js m s) (start_time js m s) (length js))
    where
      at : ℕ → ℕ → Bool
      at t k = is_late js m s k && eqb (start_time js m s k) t

      at_start : (t k : ℕ) → at t k ≡ true → start_time js m s k ≡ t
      at_start t k e = eqb-true (start_time js m s k) t (and_right (is_late js m s k) (eqb (start_time js m s k) t) e)

      at_in : (t k : ℕ) → is_late js m s k ≡ true → start_time js m s k ≡ t → at t k ≡ true
      at_in t k l e = and_both (is_late js m s k) (eqb (start_time js m s k) t) l (eq-eqb (start_time js m s k) t e)

      go : (x : Limit) → Smallest (is_late js m s) (start_time js m s) (length js) x → FirstLate (first_at js m s x)
      go infinite nobody = nobody
      go (finite t) least = by (first_of js (at t) (length js)) (first_of_holds js (at t) (length js))
        where
          by : (o : Option ℕ) → First js (at t) (length js) o → FirstLate o
          by none f = absurd (f least.0.0 least.0.1 (at_in t least.0.0 least.0.2 least.0.3))
          by (some i) f = (
            f.0,
            and_left (is_late js m s i) (eqb (start_time js m s i) t) f.1,
            λ k l e. (omega (arith, least.1 k l e, at_start t i f.1), λ d b. f.2 k l (at_in t k e (d ∙ at_start t i f.1)) b),
          )

  -- and there is only one such answer
  pub first_late_is : (o : Option ℕ) → FirstLate o → first_late js m s ≡ o
  first_late_is o f = go (first_late js m s) first_late_holds o f
    where
      go : (p : Option ℕ) → FirstLate p → (o : Option ℕ) → FirstLate o → p ≡ o
      go none g none f = refl
      go none g (some i) f = absurd (g i f.0 f.1)
      go (some j) g none f = absurd (f j g.0 g.1)
      go (some j) g (some i) f =
          let a = f.2 j g.0 g.1 in
          let b = g.2 i f.0 f.1 in
          let same : start_time js m s j ≡ start_time js m s i = le_antisymm b.0 a.0 in
          ap some (same_place js j i (a.1 same) (b.1 (sym same)))
