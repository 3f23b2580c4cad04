-- `stroke_length` meets its contract.
use native.Mathlib.Omega.{arith}
use Rattle.lines.proofs.LineLengths.{stroke_length}
use Rattle.lines.proofs.lengths.stroke_length.Goals as goal

pub returns : goal.returns
returns c = let number = c.digits.ensures in
    let key = c.key_length.ensures in
    let bell = c.digits-2.ensures in
    let earliest = c.digits-3.ensures in
    let latest = c.digits-4.ensures in
    let best = c.digits-5.ensures in
    let worst = c.digits-6.ensures in
    let deadline = c.digits-7.ensures in (
      omega (arith, stroke_length c.args.s, number.0, key.0, bell.0, earliest.0, latest.0, best.0, worst.0, deadline.0),
      omega (arith, number.1, key.1, bell.1, earliest.1, latest.1, best.1, worst.1, deadline.1),
    )
