-- the lines of the strokes, and then the totals
use native.Mathlib.Omega.{arith}
use Rattle.text.proofs.Writing.{more}
use Rattle.report.proofs.accepted.put_accepted.Goals as goal

pub returns : goal.returns
returns c = more (omega arith) c.put-at.ensures c.put_totals.ensures
