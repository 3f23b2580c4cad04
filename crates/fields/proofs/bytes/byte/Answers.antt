use native.Mathlib.Omega.{arith}
use Rattle.format.proofs.Digits.{number_one}
use Rattle.fields.proofs.bytes.byte.Goals as goal

pub returns : goal.returns
returns c = let a = c.args in
    (omega (arith, number_one a.at a.part.now), omega arith)
