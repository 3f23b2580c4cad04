use mathlib.Core.Path.{◌∙◌}
use Rattle.format.specs.Bytes.{fields_in}
use Rattle.format.specs.Phrase.{transposed, sounding}
use Rattle.format.specs.Reading.{bell_in}
use Rattle.fields.proofs.bells.sounding_key.Goals as goal

pub returns : goal.returns
unfolding sounding bell_in fields_in
returns c = c.transposed.ensures ∙ (λ i. transposed (c.byte.ensures.0 i) (c.byte-2.ensures.0 i))
