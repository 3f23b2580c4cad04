-- The loop's invariant: the jobs below i are inside their ranges.
use mathlib.Core.Path.{◌≡◌}
use Rattle.format.specs.Outcome.{ok}
use Rattle.jobs.specs.internal.JobRow.{jobs_of_rows}
use Rattle.playing.specs.Playing.{scenario_in, first_in_ranges}
use Rattle.playing.proofs.inside.first_outside.Given as goal

abbrev pub invariant-loop-i : goal.invariant-loop-i
invariant-loop-i l = first_in_ranges (jobs_of_rows l.rows l.k) (scenario_in l.playing) l.i ≡ ok tt
