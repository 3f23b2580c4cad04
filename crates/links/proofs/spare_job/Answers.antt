use mathlib.Core.Path.{refl}
use Rattle.links.specs.internal.Spare.{spare_of}
use Rattle.links.proofs.spare_job.Goals as goal

pub returns : goal.returns
unfolding spare_of
returns c = refl
