-- `late_length` meets its contract.
use native.Mathlib.Omega.{arith}
use Rattle.model.specs.Refusals.{late_job}
use Rattle.text.proofs.Lengths.{decimal_length}
use Rattle.lines.proofs.LineLengths.{late_length}
use Rattle.lines.proofs.lengths.late_length.Goals as goal

pub returns : goal.returns
returns c = let a = c.args in
    let w0 = c.digits-number.ensures in
    let w1 = c.digits.ensures in
    let w2 = c.digits-2.ensures in
    let w3 = c.digits-3.ensures in
    let two = decimal_length 1 late_job (omega arith) in
    (omega (arith, late_length a.job a.earliest a.latest, w0.0, w1.0, w2.0, w3.0), omega (arith, two, w0.0, w1.1, w2.1, w3.1))
