-- The strokes bell by bell, from the table of a phrase. Assumes nothing.
use Rattle.std.specs.Prelude.{ℕ, ◌*◌, ◌≤◌, ◌<◌, cond, List, ◌++◌, eqb, get_or}
use Rattle.words.specs.Tabulate.{tabulate}
use Rattle.model.specs.Folds.{sum}
use Rattle.model.specs.Limits.{most_jobs}
use Rattle.format.specs.Layout.{most_bells}
use Rattle.rows.specs.BellRow.{most_execution_word}
use Rattle.rows.specs.NoteRow.{struck_word}
use Rattle.rows.specs.PhraseTable.{bell_count_word}
use Rattle.rows.specs.internal.Handed.{bell_word, note_word}
use Rattle.lines.specs.Lines.{lines, accepted_line}
use Rattle.lines.specs.declared.lines.BellTotal.{BellTotal}
use Rattle.tally.specs.Tally.{bell_text}

-- every bell that the first k notes strike has a row
abbrev pub Struck : List ℕ → ℕ → Type 0
Struck t k = (i : ℕ) → i < k → note_word t i struck_word < most_bells

-- how many of the first k notes strike bell b, and this for every bell
abbrev pub struck_in : List ℕ → ℕ → ℕ → ℕ
struck_in t k b = sum (λ i. cond (eqb (note_word t i struck_word) b) 1 0) k

abbrev pub tallied : List ℕ → ℕ → List ℕ
tallied t k = tabulate (struck_in t k) 0 most_bells

-- no bell has more strokes than a phrase can have
abbrev pub Few : List ℕ → Type 0
Few counts = (b : ℕ) → b < most_bells → get_or counts b 0 ≤ most_jobs

-- what the line of bell b shows
abbrev pub total_in : List ℕ → List ℕ → ℕ → BellTotal
total_in t counts b = record { number = b; strokes = get_or counts b 0; hold = get_or counts b 0 * bell_word t b most_execution_word }

abbrev pub bells_text_in : List ℕ → List ℕ → ℕ → List ℕ
bells_text_in t counts = lines (λ b. bell_text (total_in t counts b))

abbrev pub all_hold_in : List ℕ → List ℕ → ℕ → ℕ
all_hold_in t counts = sum (λ b. (total_in t counts b).hold)

abbrev pub totals_text_in : List ℕ → ℕ → ℕ → List ℕ
totals_text_in t k c =
    bells_text_in t (tallied t k) (get_or t bell_count_word 0) ++ accepted_line k c (all_hold_in t (tallied t k) (get_or t bell_count_word 0))

-- there are no more notes and bells than rows
abbrev pub Countable : List ℕ → ℕ → Type 0
Countable t k = (k ≤ most_jobs) × (get_or t bell_count_word 0 ≤ most_bells) × Struck t k
