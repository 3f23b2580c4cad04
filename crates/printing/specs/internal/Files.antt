-- A number, and a file, at the front of the input of an example program. Assumes nothing.
use Rattle.std.specs.Prelude.{ℕ, ◌+◌, ◌≤◌, ◌≡◌, List, ◌++◌, length, drop}

-- after the two bytes of a number this is left
abbrev pub NumberIn : List ℕ → List ℕ → Type 0
NumberIn input rest = (length rest + 2 ≡ length input) × (rest ≡ drop 2 input)

-- after a head of so many bytes a file begins, which lies in the input, and after it this is left
abbrev pub FileIn : ℕ → List ℕ → List ℕ → List ℕ → Type 0
FileIn head input file rest = (head ≤ length input) × (drop head input ≡ file ++ rest)
