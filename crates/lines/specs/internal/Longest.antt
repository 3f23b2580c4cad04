-- How long the lines of a report can be, whatever their numbers of 64 bits are. Assumes nothing.
use Rattle.std.specs.Prelude.{ℕ}

-- a stroke's line: 44 fixed bytes, seven numbers, and a key of 32 bits
abbrev pub longest_stroke : ℕ
longest_stroke = 195

-- a bell's line: 21 fixed bytes and three numbers
abbrev pub longest_bell : ℕ
longest_bell = 81

-- a last or only line: of these the one that accepts is the longest, with 32 fixed bytes and three numbers
abbrev pub longest_last : ℕ
longest_last = 92
