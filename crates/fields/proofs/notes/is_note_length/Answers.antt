-- The lengths of notes that list at most four are a range.
use mathlib.Core.Path.{sym, ◌∙◌}
use Rattle.format.proofs.First.{note_length_holds}
use Rattle.fields.proofs.notes.is_note_length.Goals as goal

pub returns : goal.returns
returns c = c.is_within.ensures ∙ sym (note_length_holds c.args.size)
