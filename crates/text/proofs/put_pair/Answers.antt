-- `put_pair` meets its contract: a digit and the next.
use native.Mathlib.Omega.{arith}
use Rattle.text.proofs.Writing.{more}
use Rattle.text.proofs.put_pair.Goals as goal

pub returns : goal.returns
returns c = more (omega (arith, c.requires)) c.put_digit-last.ensures c.put_digit.ensures
