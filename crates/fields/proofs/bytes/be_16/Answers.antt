use native.Mathlib.Omega.{arith}
use Rattle.format.proofs.Digits.{number_two}
use Rattle.fields.proofs.bytes.be_16.Goals as goal

pub returns : goal.returns
returns c = let a = c.args in
    (omega (arith, number_two a.at a.part.now), omega arith)
