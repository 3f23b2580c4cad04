-- The strokes of a phrase bell by bell. Assumes nothing.
use Rattle.std.specs.Prelude.{ℕ, cond, List, [], ◌++◌, eqb, length}
use Rattle.model.specs.Folds.{sum}
use Rattle.model.specs.Jobs.{Job, job}
use Rattle.lines.specs.Lines.{bell_line, lines, accepted_line}
use Rattle.lines.specs.declared.lines.BellTotal.{BellTotal}

-- the sum of w over the jobs of bell b
abbrev pub on_bell : List Job → (Job → ℕ) → ℕ → ℕ
on_bell js w b = sum (λ i. cond (eqb (job js i).bell b) (w (job js i)) 0) (length js)

-- What the line of bell b shows: the number of its strokes, and the sum of their longest executions (cb).
abbrev pub bell_total : List Job → ℕ → BellTotal
bell_total js b = record { number = b; strokes = on_bell js (λ j. 1) b; hold = on_bell js (λ j. j.most_execution) b }

-- Its text: a line, where the bell has any stroke.
abbrev pub bell_text : BellTotal → List ℕ
bell_text b = cond (eqb b.strokes 0) [] (bell_line b)

-- The lines of n bells, bells rising.
abbrev pub bells_text : List Job → ℕ → List ℕ
bells_text js n = lines (λ b. bell_text (bell_total js b)) n

-- The hold of all strokes, formed from these lines: a bell without a line has none (`unlisted`).
abbrev pub all_hold : List Job → ℕ → ℕ
all_hold js n = sum (λ b. (bell_total js b).hold) n

-- What follows the lines of the strokes: the lines of n bells, and the last, with c states stored.
abbrev pub totals_text : List Job → ℕ → ℕ → List ℕ
totals_text js n c = bells_text js n ++ accepted_line (length js) c (all_hold js n)
