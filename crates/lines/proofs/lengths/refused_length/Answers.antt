-- `refused_length` meets its contract.
use native.Mathlib.Omega.{arith}
use Rattle.lines.proofs.LineLengths.{refused_length}
use Rattle.lines.proofs.lengths.refused_length.Goals as goal

pub returns : goal.returns
returns c = let a = c.args in
    let w0 = c.digits.ensures in
    let w1 = c.place_label_length.ensures in
    let w2 = c.digits-2.ensures in
    (omega (arith, refused_length a.number a.place, w0.0, w1.0, w2.0), omega (arith, w0.1, w1.1, w2.1))
