-- The row of a bell: what its record holds, and the key that it sounds for, which is derived. Assumes nothing.
use Rattle.std.specs.Prelude.{ℕ, List, [], ◌∷◌, get_or}
use Rattle.format.specs.Bytes.{records}
use Rattle.format.specs.Phrase.{Bell, sounding}
use Rattle.rows.specs.Rows.{rows_in}

abbrev pub bell_words : ℕ
bell_words = 7

abbrev pub written_word : ℕ
written_word = 0

abbrev pub transposition_word : ℕ
transposition_word = 1

abbrev pub least_execution_word : ℕ
least_execution_word = 2

abbrev pub most_execution_word : ℕ
most_execution_word = 3

abbrev pub priority_word : ℕ
priority_word = 4

abbrev pub rest_word : ℕ
rest_word = 5

abbrev pub sounding_word : ℕ
sounding_word = 6

unfoldable pub bell_row : Bell → List ℕ
unfolding sounding
bell_row b = b.written ∷ b.transposition ∷ b.least_execution ∷ b.most_execution ∷ b.priority ∷ b.rest ∷ sounding b ∷ []

abbrev pub bell_rows : List Bell → List ℕ
bell_rows = records bell_row

-- the bell whose row the words begin with
abbrev pub bell_of_row : List ℕ → Bell
bell_of_row t =
    record {
      written = get_or t written_word 0;
      transposition = get_or t transposition_word 0;
      least_execution = get_or t least_execution_word 0;
      most_execution = get_or t most_execution_word 0;
      rest = get_or t rest_word 0;
      priority = get_or t priority_word 0;
    }

-- the bells of the first n rows
abbrev pub bells_of_rows : List ℕ → ℕ → List Bell
bells_of_rows = rows_in bell_of_row bell_words
