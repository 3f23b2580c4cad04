-- The record of a note in the file. Assumes nothing.
use Rattle.std.specs.Prelude.{ℕ, ◌<◌, ◌≡◌, true, List, length}
use Rattle.format.specs.Bytes.{number}
use Rattle.format.specs.Layout.{first, is_note_length}

-- a note record that is there
pub record WholeNote (p : List ℕ) : Type 0 where
  pub size : is_note_length first (number 1 0 p) ≡ true
  pub whole : number 1 0 p < length p
