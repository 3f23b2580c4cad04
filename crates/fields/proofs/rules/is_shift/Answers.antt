use mathlib.Core.Path.{◌∙◌}
use Rattle.fields.proofs.Sizes.{sized}
use Rattle.fields.proofs.Shifts.{none_is, some_is}
use Rattle.fields.proofs.rules.is_shift.Goals as goal

pub returns-then-l-eq0 : goal.returns-then-l-eq0
returns-then-l-eq0 c = none_is c.args.l c.if-l-eq0.true c.args.shift

pub returns : goal.returns
returns c = c.is_transposition.ensures ∙ some_is c.args.l (sized c.args.l) c.if-l-eq0.false c.args.shift
