-- `digits` meets its contract: those counted and those of the rest are all.
use native.Mathlib.Omega.{arith}
use Rattle.text.proofs.Lengths.{length_ten_thousand, decimal_length}
use Rattle.text.proofs.digits.Goals as goal

pub loop-rest-init : goal.loop-rest-init
loop-rest-init c = (omega arith, decimal_length 19 c.args.n (omega (arith, c.ranges.n.fits)))

pub loop-rest-preserved : goal.loop-rest-preserved
loop-rest-preserved c = let v = c.loop-rest in
    (omega (arith, v.invariant.0, length_ten_thousand v.rest (omega arith)), v.invariant.1)
