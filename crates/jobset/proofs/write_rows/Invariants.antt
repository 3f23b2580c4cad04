use Prim.Native.Nat.{◌*◌}
use mathlib.Core.Path.{◌≡◌}
use mathlib.Core.List.{◌++◌}
use lib.ListN.{length, drop}
use Rattle.jobs.specs.internal.JobRow.{row_words, job_rows}
use Rattle.jobset.specs.internal.Making.{jobs_held}
use Rattle.jobset.proofs.write_rows.Given as goal

abbrev pub invariant-loop-i : goal.invariant-loop-i
invariant-loop-i l = (l.count ≡ length (jobs_held l.phrase)) × (l.rows ≡ job_rows (jobs_held l.phrase) l.i ++ drop (l.i * row_words) l.initial.rows)
