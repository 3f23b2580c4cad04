use Rattle.jobs.specs.internal.JobRow.{jobs_of_rows}
use Rattle.edges.specs.internal.Edges.{PredecessorSets}
use Rattle.edges.proofs.write_predecessor_sets.Given as goal

abbrev pub invariant-loop-i : goal.invariant-loop-i
invariant-loop-i l = PredecessorSets (jobs_of_rows l.rows l.k) l.i l.set-items
