-- A key wider than a byte is moved past the marks.
use native.Mathlib.Omega.{arith}
use Rattle.format.proofs.Ranges.{transposition_small}
use Rattle.rules.proofs.sounded.is_struck.Goals as goal

pub transposed-requires : goal.transposed-requires
transposed-requires c = (omega arith, transposition_small c.args.shift c.requires.1)
