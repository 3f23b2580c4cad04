use native.Mathlib.Omega.{arith}
use Rattle.fields.proofs.Shifts.{none_in}
use Rattle.fields.proofs.header.shift_in.Goals as goal

pub returns-then-l-eq0 : goal.returns-then-l-eq0
returns-then-l-eq0 c = (none_in c.args.l c.if-l-eq0.true c.args.file.now, omega arith)
