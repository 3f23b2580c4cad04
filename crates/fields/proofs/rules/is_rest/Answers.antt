use Rattle.fields.proofs.Sizes.{sized}
use Rattle.fields.proofs.Rests.{none_is, some_is}
use Rattle.fields.proofs.rules.is_rest.Goals as goal

pub returns-then-l-eq0 : goal.returns-then-l-eq0
returns-then-l-eq0 c = let a = c.args in
    none_is a.l c.if-l-eq0.true a.rest

pub returns : goal.returns
returns c = some_is c.args.l (sized c.args.l) c.if-l-eq0.false c.args.rest
