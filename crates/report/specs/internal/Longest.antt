-- How long the text of a report can be, whatever its numbers of 64 bits are. Assumes nothing.
use Rattle.std.specs.Prelude.{ℕ, ◌+◌, ◌*◌}
use Rattle.model.specs.Limits.{most_jobs}
use Rattle.lines.specs.internal.Longest.{longest_stroke}
use Rattle.tally.specs.internal.Longest.{longest_totals}

-- a line of every stroke, and the totals
abbrev pub longest_text : ℕ
longest_text = most_jobs * longest_stroke + longest_totals
