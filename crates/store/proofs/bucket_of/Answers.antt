use mathlib.Core.Path.{refl}
use Rattle.store.specs.internal.Index.{bucket_of}
use Rattle.store.proofs.bucket_of.Goals as goal

pub returns : goal.returns
unfolding bucket_of
returns c = refl
