-- Rows that a table begins with. Assumes nothing.
use Rattle.std.specs.Prelude.{ℕ, ◌*◌, ◌≤◌, ◌≡◌, List, length, take}
use Rattle.format.specs.Bytes.{records}
use Rattle.rows.specs.Rows.{rows_in}

-- the words begin with the rows of these
abbrev pub BeginsWith : {A : Type 0} → (A → List ℕ) → ℕ → List A → List ℕ → Type 0
BeginsWith row w xs t = take (length xs * w) t ≡ records row xs

-- the words begin with n rows, and these are rows of what is read from them
pub record Holds {A : Type 0} (row : A → List ℕ) (one : List ℕ → A) (w : ℕ) (t : List ℕ) (n : ℕ) : Type 0 where
  pub room : n * w ≤ length t
  pub rows : take (n * w) t ≡ records row (rows_in one w t n)
