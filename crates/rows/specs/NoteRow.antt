-- The row of a note: what its record holds, in the order of the file, and the number of the bell that it strikes, which is derived. Assumes nothing.
use Rattle.std.specs.Prelude.{ℕ, List, [], ◌∷◌, ◌++◌, length, get_or, take, drop}
use Rattle.words.specs.Padded.{padded}
use Rattle.format.specs.Bytes.{records}
use Rattle.format.specs.Layout.{most_listed}
use Rattle.format.specs.Phrase.{Bell, Note}
use Rattle.format.specs.Jobs.{struck}
use Rattle.rows.specs.Rows.{rows_in}

abbrev pub note_words : ℕ
note_words = 10

abbrev pub key_word : ℕ
key_word = 0

abbrev pub earliest_release_word : ℕ
earliest_release_word = 1

abbrev pub latest_release_word : ℕ
latest_release_word = 2

abbrev pub deadline_word : ℕ
deadline_word = 3

-- how many jobs it lists, then these, and zeros up to the most
abbrev pub listed_count_word : ℕ
listed_count_word = 4

abbrev pub listed_word : ℕ
listed_word = 5

abbrev pub struck_word : ℕ
struck_word = 9

-- of a note that strikes the bell
unfoldable pub note_row_on : ℕ → Note → List ℕ
note_row_on bell n =
    n.key ∷ n.earliest_release ∷ n.latest_release ∷ n.deadline ∷ length n.listed ∷ padded most_listed n.listed ++ bell ∷ []

abbrev pub note_row : ℕ → List Bell → Note → List ℕ
note_row shift bells n = note_row_on (struck shift bells n) n

abbrev pub note_rows : ℕ → List Bell → List Note → List ℕ
note_rows shift bells = records (note_row shift bells)

-- the note whose row the words begin with
abbrev pub note_of_row : List ℕ → Note
note_of_row t =
    record {
      key = get_or t key_word 0;
      earliest_release = get_or t earliest_release_word 0;
      latest_release = get_or t latest_release_word 0;
      deadline = get_or t deadline_word 0;
      listed = take (get_or t listed_count_word 0) (drop listed_word t);
    }

-- the notes of the first n rows
abbrev pub notes_of_rows : List ℕ → ℕ → List Note
notes_of_rows = rows_in note_of_row note_words
