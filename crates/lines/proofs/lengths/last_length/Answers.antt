-- `last_length` meets its contract.
use native.Mathlib.Omega.{arith}
use Rattle.lines.proofs.LineLengths.{accepted_length}
use Rattle.lines.proofs.lengths.last_length.Goals as goal

pub returns : goal.returns
returns c = let a = c.args in
    let w0 = c.digits.ensures in
    let w1 = c.digits-2.ensures in
    let w2 = c.digits-3.ensures in
    (omega (arith, accepted_length a.jobs a.states a.hold, w0.0, w1.0, w2.0), omega (arith, w0.1, w1.1, w2.1))
