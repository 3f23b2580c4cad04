-- The numbers that values of a type are converted to. Assumes nothing.
use Rattle.std.specs.Prelude.{◌≡◌, ℕ, ◌<◌, List, length, get_or}

-- each value is converted to the number at its place, and to no other
pub record AreNumbers {T : Type 0} (converts : T → ℕ → Type 0) (values : List T) (numbers : List ℕ) : Type 0 where
  pub many : length numbers ≡ length values
  pub each : (k n : ℕ) (d : T) → k < length values → converts (get_or values k d) n → n ≡ get_or numbers k 0
