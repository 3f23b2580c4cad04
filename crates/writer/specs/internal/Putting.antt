-- Bells and notes that can be put into their bytes. Assumes nothing.
use Rattle.std.specs.Prelude.{◌≤◌, List, length}
use Rattle.format.specs.Layout.{Layout, first, bell_widths, note_widths, most_listed}
use Rattle.format.specs.Phrase.{Bell, Note}
use Rattle.format.specs.Fits.{FieldsFit, All}
use Rattle.format.specs.Writing.{bell_fields, note_fields}

-- every field fits its bytes
abbrev pub BellsFit : Layout → List Bell → Type 0
BellsFit l = All (λ b. FieldsFit (bell_widths l) (bell_fields b))

-- every field fits its bytes, and no note lists more than its row has room for
abbrev pub NotesFit : List Note → Type 0
NotesFit = All (λ n. (length n.listed ≤ most_listed) × FieldsFit (note_widths first (length n.listed)) (note_fields first n))
