use mathlib.Core.Path.{◌≡◌}
use Rattle.model.specs.Jobs.{nearest}
use Rattle.jobset.specs.internal.Making.{jobs_held}
use Rattle.jobset.proofs.nearest_job.Given as goal

abbrev pub invariant-loop-n : goal.invariant-loop-n
invariant-loop-n l = nearest (jobs_held l.phrase) l.bell l.n ≡ nearest (jobs_held l.phrase) l.bell l.own
