-- `put_digit` meets its contract.
use native.Mathlib.Omega.{arith}
use mathlib.Core.Path.{refl}
use mathlib.Core.List.{[], ◌∷◌}
use Rattle.words.proofs.Placing.{sets_placed}
use Rattle.text.specs.Decimal.{digit}
use Rattle.text.proofs.put_digit.Goals as goal

pub returns : goal.returns
returns c = let a = c.args in
    record { ended = refl; holds = sets_placed a.buffer.now a.at (digit a.n ∷ []) (omega arith) }
