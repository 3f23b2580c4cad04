-- One comparison for two: the earliest start of a job is at most its latest, as integers, exactly when document 01's two comparisons hold. Then its latest
-- start is document 01's, a time. Assumes nothing.
use Prim.Native.Nat.{ℕ, zero, suc, min}
use mathlib.Core.Path.{◌≡◌, refl, sym, ap, ◌∙◌}
use mathlib.Core.Bool.{Bool, true, false, ◌&&◌, cond, and-true, and-false}
use mathlib.Core.List.{List}
use native.Mathlib.Omega.{arith}
use lib.Dec.{leb, ltb}
use lib.IntN.{pos, ◌-ℤ◌}
use lib.Signed.{le_z}
use borrow.Author.Tests.{leb-true, leb-false, ltb-true, ltb-false, le-leb, lt-leb, le-ltb}
use Rattle.model.specs.Folds.{Limit, infinite, finite}
use Rattle.model.specs.Jobs.{Job}
use Rattle.model.specs.States.{State}
use Rattle.model.specs.Edges.{is_below, last_below, candidate, earliest_start, work_conserving_bound, higher_priority_bound, eligible, latest_start}
use Rattle.model.specs.Eligibility.{min_z, last_before, latest_start_z, in_order}
use Rattle.model.proofs.Booleans.{and_right}

-- the moment before one that is not 0
pub before_suc : (y : ℕ) → pos (suc y) -ℤ pos 1 ≡ pos y
before_suc y = rw (le-ltb (suc y) 1 (omega arith)) (ap pos (omega arith))

-- the smaller of two numbers
pub min_pos : (x y : ℕ) → min_z (pos x) (pos y) ≡ pos (min x y)
min_pos x y = go (leb x y) refl
  where
    go : (b : Bool) → leb x y ≡ b → cond b (pos x) (pos y) ≡ pos (min x y)
    go true e = ap pos (omega (arith, leb-true x y e))
    go false e = ap pos (omega (arith, leb-false x y e))

-- a number is at most a number, and below a limit, exactly when it is at most the last before both
at_most_last : (e x : ℕ) (l : Limit) → le_z (pos e) (last_before x l) ≡ (leb e x && is_below e l)
at_most_last e x infinite = sym (and-true (leb e x))
at_most_last e x (finite zero) = sym (rw (le-ltb e 0 (omega arith), and-false))
at_most_last e x (finite (suc y)) = rw (before_suc y, min_pos x y) (go (leb e x) refl (ltb e (suc y)) refl)
  where
    go : (a : Bool) → leb e x ≡ a → (b : Bool) → ltb e (suc y) ≡ b → leb e (min x y) ≡ (a && b)
    go true p true q = le-leb e (min x y) (omega (arith, leb-true e x p, ltb-true e (suc y) q))
    go true p false q = lt-leb e (min x y) (omega (arith, ltb-false e (suc y) q))
    go false p b q = lt-leb e (min x y) (omega (arith, leb-false e x p))

-- where a number lies below the limit, the last before it is no less than 0
last_is : (e x : ℕ) (l : Limit) → is_below e l ≡ true → last_before x l ≡ pos (last_below x l)
last_is e x infinite h = refl
last_is e x (finite zero) h = absurd (omega (arith, ltb-true e 0 h))
last_is e x (finite (suc y)) h = rw (before_suc y, min_pos x y) (ap pos (omega arith))

module _ (js : List Job) (σ : State) (i : ℕ) where
  -- The earliest start is at most the latest exactly when it is at most the work-conserving bound and below the higher-priority bound.
  pub in_order_is : in_order js σ i ≡ (leb (earliest_start js σ i) (work_conserving_bound js σ) && is_below (earliest_start js σ i) (higher_priority_bound js σ i))
  unfolding in_order latest_start_z
  in_order_is = at_most_last (earliest_start js σ i) (work_conserving_bound js σ) (higher_priority_bound js σ i)

  -- So a candidate is eligible exactly when its earliest start is at most its latest.
  pub eligible_in_order : candidate js σ i ≡ true → eligible js σ i ≡ in_order js σ i
  unfolding eligible
  eligible_in_order e = rw e (sym in_order_is)

  -- Then its latest start is no less than 0, and that of document 01.
  pub latest_start_is : in_order js σ i ≡ true → latest_start_z js σ i ≡ pos (latest_start js σ i)
  unfolding latest_start_z latest_start
  latest_start_is h =
      last_is (earliest_start js σ i) (work_conserving_bound js σ) (higher_priority_bound js σ i)
      (and_right (leb (earliest_start js σ i) (work_conserving_bound js σ)) _ (sym in_order_is ∙ h))
