use mathlib.Core.Path.{◌≡◌, ap}
use Prim.Native.Nat.{◌+◌}
use native.Mathlib.Omega.{arith}
use Rattle.format.specs.Bytes.{byte_at}
use Rattle.format.proofs.Digits.{number_two, number_four}
use Rattle.fields.proofs.bytes.be_32.Goals as goal

pub returns : goal.returns
returns c = let a = c.args in
    let p = a.part.now in
    let place : a.at + 2 + 1 ≡ a.at + 3 = omega arith in
    let last : byte_at p (a.at + 2 + 1) ≡ byte_at p (a.at + 3) = ap (byte_at p) place in
    omega (arith, number_four a.at p, number_two a.at p, number_two (a.at + 2) p, last)
