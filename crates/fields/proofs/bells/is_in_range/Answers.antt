use mathlib.Core.Path.{◌∙◌}
use Rattle.format.specs.Bytes.{fields_in}
use Rattle.format.specs.Rules.{bell_in_range}
use Rattle.format.specs.Reading.{bell_in}
use Rattle.fields.specs.internal.BellWith.{bell_with}
use Rattle.fields.specs.internal.Layouts.{layout_of}
use Rattle.fields.proofs.bells.is_in_range.Goals as goal

pub returns : goal.returns
unfolding bell_in fields_in
returns c = let l = layout_of c.args.l in
    c.is_bell.ensures
    ∙ (λ i. bell_in_range l (bell_with
    (c.byte.ensures.0 i)
    (c.byte-2.ensures.0 i)
    (c.be_16.ensures.0 i)
    (c.be_16-2.ensures.0 i)
    (c.rest_in.ensures i)
    (c.priority_in.ensures i)))
