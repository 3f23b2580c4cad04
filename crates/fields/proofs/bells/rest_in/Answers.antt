use mathlib.Core.Path.{◌∙◌}
use Rattle.fields.proofs.Sizes.{sized}
use Rattle.fields.proofs.Rests.{none_in, some_in}
use Rattle.fields.proofs.bells.rest_in.Goals as goal

pub returns-then-l-eq0 : goal.returns-then-l-eq0
returns-then-l-eq0 c = let a = c.args in
    none_in a.l c.if-l-eq0.true a.part.now

pub returns : goal.returns
returns c = c.be_16.ensures.0 ∙ some_in c.args.l (sized c.args.l) c.if-l-eq0.false c.args.part.now
