-- `few_digits` meets its contract.
use native.Mathlib.Omega.{arith}
use Prim.Native.Nat.{◌/◌}
use Rattle.text.proofs.Lengths.{length_low, length_high}
use Rattle.text.proofs.few_digits.Goals as goal

pub returns-then-n-ge1000 : goal.returns-then-n-ge1000
returns-then-n-ge1000 c = let n = c.args.n in
    omega (
      arith,
      length_high n (omega arith),
      length_high (n / 10) (omega arith),
      length_high (n / 10 / 10) (omega arith),
      length_low (n / 10 / 10 / 10) (omega (arith, c.requires)),
    )

pub returns-then-n-ge100 : goal.returns-then-n-ge100
returns-then-n-ge100 c = let n = c.args.n in
    omega (arith, length_high n (omega arith), length_high (n / 10) (omega arith), length_low (n / 10 / 10) (omega arith))

pub returns-then-n-ge10 : goal.returns-then-n-ge10
returns-then-n-ge10 c = let n = c.args.n in
    omega (arith, length_high n (omega arith), length_low (n / 10) (omega arith))

pub returns : goal.returns
returns c = omega (arith, length_low c.args.n (omega arith))
