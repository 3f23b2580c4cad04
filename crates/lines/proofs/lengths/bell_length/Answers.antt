-- `bell_length` meets its contract.
use native.Mathlib.Omega.{arith}
use Rattle.lines.proofs.LineLengths.{bell_length}
use Rattle.lines.proofs.lengths.bell_length.Goals as goal

pub returns : goal.returns
returns c = let b = c.args.b in
    let number = c.digits.ensures in
    let strokes = c.digits-2.ensures in
    let hold = c.digits-3.ensures in
    (omega (arith, bell_length b, number.0, strokes.0, hold.0), omega (arith, number.1, strokes.1, hold.1))
