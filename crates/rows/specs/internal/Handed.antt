-- The words of a table by row, and a table that was handed on by a reader. Assumes nothing.
use Rattle.std.specs.Prelude.{ℕ, ◌+◌, ◌*◌, ◌≡◌, List, get_or}
use Rattle.format.specs.Outcome.{ok}
use Rattle.format.specs.Phrase.{Phrase}
use Rattle.format.specs.Valid.{Valid}
use Rattle.rows.specs.BellRow.{bell_words}
use Rattle.rows.specs.NoteRow.{note_words}
use Rattle.rows.specs.PhraseTable.{bell_rows_at, note_rows_at, phrase_table}

-- a word of the row of bell i, and of the row of note i
abbrev pub bell_word : List ℕ → ℕ → ℕ → ℕ
bell_word t i at = get_or t (bell_rows_at + (i * bell_words + at)) 0

abbrev pub note_word : List ℕ → ℕ → ℕ → ℕ
note_word t i at = get_or t (note_rows_at + (i * note_words + at)) 0

-- The table is that of a phrase that a file may hold.
pub record HandedOn (t : List ℕ) : Type 0 where
  pub phrase : Phrase
  pub valid : Valid phrase
  pub is : t ≡ phrase_table (ok phrase)
