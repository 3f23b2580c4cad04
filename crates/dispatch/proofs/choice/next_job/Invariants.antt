-- The loop's invariant: of the jobs looked at, the one kept has the least key.
use Rattle.jobs.specs.internal.JobRow.{jobs_of_rows}
use Rattle.dispatch.specs.internal.Choice.{key_of}
use Rattle.dispatch.proofs.Choosing.{Seen}
use Rattle.dispatch.proofs.choice.next_job.Given as goal

abbrev pub invariant-loop-j : goal.invariant-loop-j
invariant-loop-j l = Seen (key_of (jobs_of_rows l.rows l.k) l.wakes l.from) l.j l.next l.least
