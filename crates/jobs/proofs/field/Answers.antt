use mathlib.Core.Path.{sym, ◌∙◌}
use Rattle.jobs.proofs.Jobs.{field_of}
use Rattle.jobs.proofs.field.Goals as goal

pub returns : goal.returns
returns c = c.word_at.ensures ∙ sym (field_of c.args.rows.now c.args.k c.args.i c.args.at c.requires.0 c.requires.1)
