-- How long the lines after those of the strokes can be, whatever their numbers of 64 bits are. Assumes nothing.
use Rattle.std.specs.Prelude.{ℕ, ◌+◌, ◌*◌}
use Rattle.format.specs.Layout.{most_bells}
use Rattle.lines.specs.internal.Longest.{longest_bell, longest_last}

-- a line of every bell and the last
abbrev pub longest_totals : ℕ
longest_totals = most_bells * longest_bell + longest_last
