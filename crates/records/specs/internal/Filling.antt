-- The table of a phrase while the rows of bells and of notes are filled. Assumes nothing.
use Rattle.std.specs.Prelude.{ℕ, ◌+◌, ◌*◌, List, [], drop}
use Rattle.words.specs.internal.Placed.{placed}
use Rattle.format.specs.Outcome.{Outcome, ok, refused}
use Rattle.format.specs.Phrase.{Bell, Note}
use Rattle.rows.specs.internal.Rows.{BeginsWith, Holds}
use Rattle.rows.specs.BellRow.{bell_words, bell_row, bell_of_row, bells_of_rows}
use Rattle.rows.specs.NoteRow.{note_words, note_row}
use Rattle.rows.specs.PhraseTable.{bell_rows_at, note_rows_at}

-- what was read, nothing on a refusal
abbrev pub list_of : {A : Type 0} → Outcome (List A) → List A
list_of (ok l) = l
list_of (refused n at) = []

-- ---- bells

-- the bells of the first n rows
abbrev pub bells_held : List ℕ → ℕ → List Bell
bells_held t = bells_of_rows (drop bell_rows_at t)

-- the first n rows are those of bells
abbrev pub BellTable : List ℕ → ℕ → Type 0
BellTable t = Holds bell_row bell_of_row bell_words (drop bell_rows_at t)

-- the table once the i-th bell record has been read
abbrev pub bell_put : Outcome Bell → List ℕ → ℕ → List ℕ
bell_put (ok b) t i = placed t (bell_rows_at + i * bell_words) (bell_row b)
bell_put (refused n at) t i = t

-- the rows of bells begin with those of these
abbrev pub HoldsBells : List Bell → List ℕ → Type 0
HoldsBells bells t = BeginsWith bell_row bell_words bells (drop bell_rows_at t)

-- ---- notes

-- the table once the record of note `own` has been read
abbrev pub note_put : ℕ → List Bell → Outcome Note → List ℕ → ℕ → List ℕ
note_put shift bells (ok n) t own = placed t (note_rows_at + own * note_words) (note_row shift bells n)
note_put shift bells (refused r at) t own = t

-- the rows of notes begin with those of these
abbrev pub HoldsNotes : ℕ → List Bell → List Note → List ℕ → Type 0
HoldsNotes shift bells notes t = BeginsWith (note_row shift bells) note_words notes (drop note_rows_at t)
