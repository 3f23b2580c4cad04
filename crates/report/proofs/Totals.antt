-- What the bells' lines of every accepted file add up to. Assumes nothing.
use Prim.Native.Nat.{ℕ}
use mathlib.Core.Path.{◌≡◌, ap, ◌∙◌}
use mathlib.Core.List.{List, ◌++◌}
use lib.ListN.{length}
use Rattle.model.specs.Folds.{sum}
use Rattle.model.specs.Jobs.{Job, job}
use Rattle.model.specs.States.{Range}
use Rattle.model.specs.Exploration.{accepted}
use Rattle.format.specs.Bytes.{AreBytes}
use Rattle.format.specs.Outcome.{ok}
use Rattle.format.specs.Phrase.{Phrase}
use Rattle.format.specs.Reading.{reading}
use Rattle.format.specs.Jobs.{jobs_of}
use Rattle.format.specs.Valid.{Valid}
use Rattle.format.proofs.Theorems.{sound}
use Rattle.checking.specs.Checking.{verdict}
use Rattle.lines.specs.Lines.{stroke_line, lines, accepted_line}
use Rattle.tally.specs.Tally.{bell_total, bells_text}
use Rattle.tally.proofs.Tables.{strokes_add_up, total_in_order}
use Rattle.report.specs.Report.{stroke_of, text_for, text_of}

module _ (file : List ℕ) (bytes : AreBytes file) (x : Phrase) (read : reading file ≡ ok x) where
  valid : Valid x
  valid = sound file x bytes read

  abbrev js : List Job
  js = jobs_of x

  -- The numbers of strokes in the bells' lines add up to the number of strokes.
  pub strokes_together : sum (λ b. (bell_total js b).strokes) (length x.bells) ≡ length js
  strokes_together = strokes_add_up x valid

  -- The last line of an accepted file, whose total is formed from the bells' lines, has the sum in the order of the strokes.
  pub text_in_order : (words : ℕ) (bounds : List Range) (c : ℕ) → verdict (ok x) words ≡ accepted bounds c
      → text_of (reading file) words
      ≡ lines (λ i. stroke_line (stroke_of x bounds i)) (length js)
      ++ (bells_text js (length x.bells) ++ accepted_line (length js) c (sum (λ i. (job js i).most_execution) (length js)))
  text_in_order words bounds c e =
      ap (λ o. text_of o words) read
      ∙ ap (text_for x) e
      ∙ ap (λ (h : ℕ). lines (λ i. stroke_line (stroke_of x bounds i)) (length js) ++ (bells_text js (length x.bells) ++ accepted_line (length js) c h))
      (total_in_order x valid)
