-- The loop's invariant: the predecessors looked at so far have started, and with what is left their latest finish time is that of all.
use mathlib.Core.Path.{◌≡◌}
use lib.ListN.{length}
use Rattle.model.specs.Jobs.{predecessors}
use Rattle.jobs.specs.internal.JobRow.{jobs_of_rows}
use Rattle.playing.specs.Playing.{scenario_in}
use Rattle.dispatch.proofs.Waking.{LookedAt}
use Rattle.dispatch.proofs.wakes.wake.Given as goal

abbrev pub invariant-loop-l : goal.invariant-loop-l
invariant-loop-l l = (l.count ≡ length (predecessors (jobs_of_rows l.rows l.k) l.j))
    × LookedAt l.finishes (predecessors (jobs_of_rows l.rows l.k) l.j) ((scenario_in l.playing).release l.j) l.l l.from
