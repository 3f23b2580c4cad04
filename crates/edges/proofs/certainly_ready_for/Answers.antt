use mathlib.Core.Path.{◌∙◌}
use lib.ListN.{get_or}
use Rattle.jobs.specs.internal.JobRow.{jobs_of_rows}
use Rattle.states.specs.internal.Slots.{state_of}
use Rattle.edges.proofs.Sharing.{ready_beside}
use Rattle.edges.proofs.certainly_ready_for.Goals as goal

pub returns-then-sets-i-eq0 : goal.returns-then-sets-i-eq0
returns-then-sets-i-eq0 c = let a = c.args in
    c.requires.5
    ∙ ready_beside (jobs_of_rows a.rows.now a.k) a.i a.j (get_or a.sets.now a.i 0) (get_or a.sets.now a.j 0)
    (c.requires.4 a.i c.requires.0) (c.requires.4 a.j c.requires.1) c.if-sets-i-eq0.true (state_of a.m a.k a.s.now)
