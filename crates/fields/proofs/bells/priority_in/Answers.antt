use Rattle.format.specs.Bytes.{fields_in}
use Rattle.format.specs.Reading.{bell_in}
use Rattle.fields.proofs.bells.priority_in.Goals as goal

pub returns : goal.returns
unfolding bell_in fields_in
returns c = c.byte.ensures.0
