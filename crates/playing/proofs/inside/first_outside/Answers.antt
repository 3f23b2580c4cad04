use mathlib.Core.Path.{refl, sym, ◌∙◌}
use Rattle.jobs.specs.internal.JobRow.{jobs_of_rows}
use Rattle.playing.specs.Playing.{scenario_in, first_in_ranges}
use Rattle.playing.proofs.Playings.{one_more}
use Rattle.playing.proofs.inside.first_outside.Goals as goal

pub loop-i-init : goal.loop-i-init
unfolding first_in_ranges
loop-i-init c = refl

pub loop-i-preserved : goal.loop-i-preserved
loop-i-preserved c = let a = c.args in
    let i = c.loop-i in
    let r = c.in_ranges in
    let inside = sym r.ensures ∙ c.if-not-in_ranges.false in
    one_more (jobs_of_rows a.rows.now a.k) (scenario_in a.playing.now) i.i i.invariant inside
