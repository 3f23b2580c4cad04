-- `key_length` meets its contract.
use mathlib.Core.Path.{ap}
use native.Mathlib.Omega.{arith}
use lib.ListN.{length}
use Rattle.text.proofs.Lengths.{key_parts}
use Rattle.text.proofs.Lengths.{key_length as short}
use Rattle.text.proofs.key_length.Goals as goal

pub returns : goal.returns
returns c = let key = c.args.key in
    let whole = key_parts key in
    let name = ap length c.name_of.ensures in
    let octave = c.digits.ensures.0 in
    (omega (arith, whole, name, octave), omega (arith, whole, name, octave, short key c.ranges.key.fits))
