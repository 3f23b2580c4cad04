-- The name of a key: its note, then its octave. Assumes nothing.
use Rattle.std.specs.Prelude.{ℕ, ◌-◌, ◌/◌, ◌%◌, List, [], ◌∷◌, ◌++◌, get_or}
use Rattle.text.specs.Bytes.{bytes}
use Rattle.text.specs.Decimal.{decimal}

-- the notes of an octave
abbrev pub names : List (List ℕ)
names =
    bytes "C" ∷ bytes "C#" ∷ bytes "D" ∷ bytes "D#" ∷ bytes "E" ∷ bytes "F" ∷
    bytes "F#" ∷ bytes "G" ∷ bytes "G#" ∷ bytes "A" ∷ bytes "A#" ∷ bytes "B" ∷ []

-- octave 0 starts with key 12: only keys from there on have a name
unfoldable pub key_text : ℕ → List ℕ
key_text key = get_or names (key % 12) [] ++ decimal (key / 12 - 1)
