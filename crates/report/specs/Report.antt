-- The report of a phrase file: its text, what it leaves in a buffer, and its result. Assumes nothing.
use Rattle.std.specs.Prelude.{ℕ, ◌-◌, Bool, cond, List, ◌++◌, leb, get_or, length, drop}
use Rattle.model.specs.Refusals.{short_buffer}
use Rattle.model.specs.Jobs.{job}
use Rattle.model.specs.States.{Range, empty, earliest, latest}
use Rattle.model.specs.Exploration.{accepted, refused, late}
use Rattle.model.specs.Exploration.{Verdict}
use Rattle.format.specs.Phrase.{Phrase}
use Rattle.format.specs.Jobs.{shifted_key, jobs_of}
use Rattle.format.specs.Outcome.{Outcome, ok}
use Rattle.format.specs.Outcome.{refused as unread}
use Rattle.checking.specs.Checking.{verdict, refusing, checked_of, answer_for}
use Rattle.checking.specs.declared.Answer.{Answer}
use Rattle.checking.specs.declared.Answer.TheVariants.{Refused}
use Rattle.checking.specs.declared.Checked.{Checked}
use Rattle.lines.specs.Lines.{stroke_line, lines, refused_line, late_line}
use Rattle.lines.specs.declared.lines.Stroke.{Stroke}
use Rattle.tally.specs.Tally.{totals_text}
use Rattle.report.specs.declared.Reported.{Reported}

-- ---- the text

-- What the line of a stroke shows: its number, the key of its note, moved by the shift, its bell, the bounds of its finish time (its ends) and of its
-- response, which is the finish time minus the earliest release (ra), and its deadline.
abbrev pub stroke_of : Phrase → List Range → ℕ → Stroke
stroke_of x bounds i =
    record {
      number = i;
      key = shifted_key x i;
      bell = (job (jobs_of x) i).bell;
      earliest = earliest (get_or bounds i empty);
      latest = latest (get_or bounds i empty);
      best = earliest (get_or bounds i empty) - (job (jobs_of x) i).earliest_release;
      worst = latest (get_or bounds i empty) - (job (jobs_of x) i).earliest_release;
      deadline = (job (jobs_of x) i).deadline;
    }

-- A line for each stroke, one for each bell with any stroke, and a last one, where all are in time; else the line of the refusal.
abbrev pub text_for : Phrase → Verdict → List ℕ
text_for x (accepted bounds c) = lines (λ i. stroke_line (stroke_of x bounds i)) (length (jobs_of x)) ++ totals_text (jobs_of x) (length x.bells) c
text_for x (refused n at) = refused_line n at
text_for x (late i e f) = late_line i e f

-- The text of a report: a file that was not read has the line of its refusal.
abbrev pub text_of : Outcome Phrase → ℕ → List ℕ
text_of (ok x) words = text_for x (verdict (ok x) words)
text_of (unread n at) words = refused_line n at

-- ---- the buffer and the result

-- a text of so many bytes has room in a buffer of so many
abbrev pub fits : List ℕ → List ℕ → Bool
fits text buffer = leb (length text) (length buffer)

-- The text and what was there after it; a buffer that is shorter than the text is left as it was.
abbrev pub delivered : List ℕ → List ℕ → List ℕ
delivered text buffer = cond (fits text buffer) (text ++ drop (length text) buffer) buffer

-- so many bytes of the buffer hold the text
abbrev pub length_in : List ℕ → List ℕ → ℕ
length_in text buffer = cond (fits text buffer) (length text) 0

-- The check's result, with the text's length; refusal 15 in its place where the buffer is shorter than the text.
abbrev pub reported_in : Checked → List ℕ → List ℕ → Reported
reported_in r text buffer = record { checked = cond (fits text buffer) r (refusing (Refused short_buffer 0)); length = length_in text buffer }

-- The result of a report.
abbrev pub reported_of : Outcome Phrase → ℕ → List ℕ → Reported
reported_of o words buffer = reported_in (checked_of o words) (text_of o words) buffer

-- its answer: the verdict's, or refusal 15
abbrev pub answer_in : Outcome Phrase → ℕ → List ℕ → Answer
answer_in o words buffer = cond (fits (text_of o words) buffer) (answer_for (verdict o words)) (Refused short_buffer 0)
