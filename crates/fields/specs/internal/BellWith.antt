-- A bell by its fields. Assumes nothing.
use Rattle.std.specs.Prelude.{ℕ}
use Rattle.format.specs.Phrase.{Bell}

abbrev pub bell_with : ℕ → ℕ → ℕ → ℕ → ℕ → ℕ → Bell
bell_with written transposition least most rest priority =
    record { written = written; transposition = transposition; least_execution = least; most_execution = most; rest = rest; priority = priority }
