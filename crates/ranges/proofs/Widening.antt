-- A range widened is the hull of it and the edge's. Assumes nothing.
use Prim.Native.Nat.{ℕ, ◌≤◌, max}
use mathlib.Core.Path.{◌≡◌, refl}
use mathlib.Core.Bool.{Bool, true, false}
use native.Mathlib.Omega.{arith}
use lib.Dec.{eqb}
use borrow.Author.Tests.{ne_eqb, eqb-false}
use Rattle.model.specs.States.{range}
use Rattle.model.specs.Exploration.{hull}
use Rattle.ranges.specs.internal.Ranges.{range_of, widened_by}
use Rattle.ranges.specs.declared.FinishRange.{FinishRange}

-- the widened range is the hull of the range and that of the edge
pub widened_hull : (r : FinishRange) (e f : ℕ) → 1 ≤ f → range_of (widened_by r e f) ≡ hull (range_of r) (range e f)
unfolding widened_by
widened_hull r e f h = go (eqb r.latest 0) refl
  where
    go : (b : Bool) → eqb r.latest 0 ≡ b → range_of (widened_by r e f) ≡ hull (range_of r) (range e f)
    go true q = rw (q, ne_eqb f 0 (λ w. omega arith))
    go false q = rw (q, ne_eqb (max r.latest f) 0 (λ w. eqb-false r.latest 0 q (omega arith)))
