-- A phrase in words, as readers hand it on and writers take it, in the order of the C struct: a header, a row for each bell and a row for each note that a
-- phrase can have; zeros after the rows that are filled, and zeros only on a refusal. Assumes nothing.
use Rattle.std.specs.Prelude.{ℕ, ◌+◌, ◌*◌, List, [], ◌∷◌, ◌++◌, length, get_or, drop, replicate}
use Rattle.model.specs.Limits.{most_jobs}
use Rattle.words.specs.Padded.{padded}
use Rattle.format.specs.Layout.{most_bells}
use Rattle.format.specs.Outcome.{Outcome, ok, refused}
use Rattle.format.specs.Phrase.{Phrase}
use Rattle.rows.specs.BellRow.{bell_words, bell_rows, bells_of_rows}
use Rattle.rows.specs.NoteRow.{note_words, note_rows, notes_of_rows}

abbrev pub version_word : ℕ
version_word = 0

abbrev pub cores_word : ℕ
cores_word = 1

abbrev pub bell_count_word : ℕ
bell_count_word = 2

abbrev pub note_count_word : ℕ
note_count_word = 3

-- the shift, as the file's byte
abbrev pub shift_word : ℕ
shift_word = 4

-- where the rows of the bells begin, and those of the notes
abbrev pub bell_rows_at : ℕ
bell_rows_at = 5

abbrev pub note_rows_at : ℕ
note_rows_at = bell_rows_at + most_bells * bell_words

abbrev pub phrase_words : ℕ
phrase_words = note_rows_at + most_jobs * note_words

abbrev pub header : Phrase → List ℕ
header x = x.version ∷ x.cores ∷ length x.bells ∷ length x.notes ∷ x.shift ∷ []

abbrev pub phrase_table : Outcome Phrase → List ℕ
phrase_table (ok x) = header x ++ (padded (most_bells * bell_words) (bell_rows x.bells) ++ padded (most_jobs * note_words) (note_rows x.shift x.bells x.notes))
phrase_table (refused n at) = replicate phrase_words 0

-- The phrase that any table holds: its header says how many rows are read; derived words are not.
abbrev pub phrase_of : List ℕ → Phrase
phrase_of t =
    record {
      version = get_or t version_word 0;
      cores = get_or t cores_word 0;
      shift = get_or t shift_word 0;
      bells = bells_of_rows (drop bell_rows_at t) (get_or t bell_count_word 0);
      notes = notes_of_rows (drop note_rows_at t) (get_or t note_count_word 0);
    }
