-- A text written into a buffer. Assumes nothing.
use Rattle.std.specs.Prelude.{ℕ, ◌+◌, ◌≤◌, ◌≡◌, List, length}
use Rattle.words.specs.internal.Placed.{placed}

-- the buffer has room for the text from `at` on
pub record Room (buffer : List ℕ) (at : ℕ) (text : List ℕ) : Type 0 where
  pub fits : at + length text ≤ length buffer

-- the buffer after: the text stands from `at` on and ends at `end`, all else is as before
pub record Written (before : List ℕ) (at : ℕ) (text after : List ℕ) (end : ℕ) : Type 0 where
  pub ended : end ≡ at + length text
  pub holds : after ≡ placed before at text
