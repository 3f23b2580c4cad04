-- `started_set` meets its contract.
use mathlib.Core.Path.{refl}
use Rattle.states.specs.internal.Slots.{set_of}
use Rattle.states.proofs.reading.started_set.Goals as goal

pub returns : goal.returns
unfolding set_of
returns c = refl
