use Rattle.jobs.specs.internal.JobRow.{jobs_of_rows}
use Rattle.playing.specs.Playing.{scenario_in}
use Rattle.dispatch.specs.internal.Wakes.{woken_by}
use Rattle.dispatch.proofs.Waking.{WokenUpTo}
use Rattle.dispatch.proofs.wakes.wake_after.Given as goal

abbrev pub invariant-loop-j : goal.invariant-loop-j
invariant-loop-j l = WokenUpTo (woken_by (jobs_of_rows l.rows l.k) (scenario_in l.playing) l.finishes l.initial.wakes l.i) l.initial.wakes l.j l.wakes
