-- `observe`: one range is stored, widened, and the others stay.
use mathlib.Core.Path.{sym, ap, ◌∙◌}
use Prim.Native.Nat.{◌+◌}
use lib.ListN.{get_or, set}
use Rattle.model.specs.States.{Range, range}
use Rattle.model.specs.Exploration.{hull}
use Rattle.model.specs.Limits.{most_jobs}
use Rattle.ranges.specs.internal.Ranges.{range_of}
use Rattle.ranges.proofs.Widening.{widened_hull}
use Rattle.steps.specs.internal.Observed.{observed_of}
use Rattle.steps.proofs.Ranges.{observed_at_holds, observed_set, observed_kept}
use Rattle.steps.proofs.observed.observe.Goals as goal

pub returns : goal.returns
returns c = let a = c.args in
    let p = c.requires in (
      observed_set a.k a.seen.now a.i c.widen.new.r.earliest c.widen.new.r.latest p.0 p.1 p.3
          ∙ ap (λ (z : Range). set (observed_of a.k a.seen.now) a.i z)
          (ap range_of c.widen.ensures ∙ widened_hull (record { earliest = get_or a.seen.now a.i 0; latest = get_or a.seen.now (most_jobs + a.i) 0 }) a.e a.f p.2 ∙ ap (λ (z : Range). hull z (range a.e a.f)) (sym (observed_at_holds a.k a.seen.now a.i p.0))),
      observed_kept a.k a.seen.now a.i c.widen.new.r.earliest c.widen.new.r.latest p.0 p.1 p.3,
    )
