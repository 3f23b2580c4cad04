-- The text of a report, from a check's result and the table of its phrase. Assumes nothing.
use Rattle.std.specs.Prelude.{ℕ, ◌≤◌, List, ◌++◌, get_or}
use Rattle.model.specs.Limits.{most_jobs}
use Rattle.format.specs.Layout.{most_bells}
use Rattle.rows.specs.PhraseTable.{bell_count_word}
use Rattle.checking.specs.declared.Answer.{Answer}
use Rattle.checking.specs.declared.Answer.TheVariants.{Accepted, Refused, Late}
use Rattle.checking.specs.declared.Checked.{Checked}
use Rattle.lines.specs.Lines.{refused_line, late_line}
use Rattle.strokes.specs.internal.Rows.{strokes_text, Keyed}
use Rattle.tally.specs.internal.Counted.{totals_text_in}

-- its strokes have lines, and there are no more jobs and bells than rows
abbrev pub Composable : List ℕ → ℕ → Type 0
Composable t k = (k ≤ most_jobs) × (get_or t bell_count_word 0 ≤ most_bells) × Keyed t k

abbrev pub accepted_text : Checked → List ℕ → List ℕ
accepted_text r t =
    strokes_text t r.earliest r.latest r.best r.worst r.jobs
    ++ totals_text_in t r.jobs r.states

abbrev pub text_in : Answer → Checked → List ℕ → List ℕ
text_in Accepted r t = accepted_text r t
text_in (Refused n at) r t = refused_line n at
text_in (Late i e f) r t = late_line i e f
