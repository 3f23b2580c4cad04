-- The bells' lines of phrases and the total that they form, in one table with one result. Worked out by hand. Assumes nothing.
use Rattle.std.specs.Prelude.{ℕ, ◌≡◌, refl, List, [], ◌∷◌, map, replicate}
use Rattle.model.specs.Folds.{sum}
use Rattle.model.specs.Jobs.{Job}
use Rattle.model.proofs.examples.Marked.{stroke, phrase_p}
use Rattle.text.specs.Bytes.{bytes}
use Rattle.text.specs.Decimal.{decimal_within}
use Rattle.lines.specs.Lines.{bell_line, lines, accepted_line}
use Rattle.tally.specs.Tally.{bell_total, bells_text, all_hold, totals_text}

-- jobs on so many bells; the bells' lines, their numbers of strokes together, and the hold of all
pub record Case : Type 0 where
  pub jobs : List Job
  pub bells : ℕ
  pub text : List ℕ
  pub strokes : ℕ
  pub hold : ℕ

abbrev case : List Job → ℕ → List ℕ → ℕ → ℕ → Case
case js n text strokes hold = record { jobs = js; bells = n; text = text; strokes = strokes; hold = hold }

-- a job that executes for ca..cb; its bell comes last
abbrev holding : ℕ → ℕ → ℕ → Job
holding ca cb = stroke 0 0 ca cb 1

-- bell 3, the last of four, four times
abbrev four : List Job
four = replicate 4 (holding 11 22 3)

-- bells 5, 2 and 4 of seven, struck in this order; 5 and 2 more than once, not in a row
abbrev falling : List Job
falling = holding 3 22 5 ∷ holding 1 9 2 ∷ holding 3 22 5 ∷ holding 6 7 4 ∷ holding 1 9 2 ∷ holding 3 22 5 ∷ []

abbrev pub cases : List Case
cases =
    case (phrase_p 7) 2 (bytes "bell 0 strokes 1 hold 2\nbell 1 strokes 1 hold 4\n") 2 6
    ∷ case four 4 (bytes "bell 3 strokes 4 hold 88\n") 4 88
    -- bells rising, and none of 0, 1, 3 and 6
    ∷ case falling 7 (bytes "bell 2 strokes 2 hold 18\nbell 4 strokes 1 hold 7\nbell 5 strokes 3 hold 66\n") 6 91
    -- more than a digit
    ∷ case (replicate 12 (holding 1 5000 10)) 11 (bytes "bell 10 strokes 12 hold 60000\n") 12 60000
    -- bells, and no stroke
    ∷ case [] 2 [] 0 0
    ∷ []

abbrev due : Case → Case
due c =
    record {
      jobs = c.jobs;
      bells = c.bells;
      text = bells_text c.jobs c.bells;
      strokes = sum (λ b. (bell_total c.jobs b).strokes) c.bells;
      hold = all_hold c.jobs c.bells;
    }

pub as_due : map due cases ≡ cases
unfolding sum bell_line lines decimal_within
as_due = refl

-- the last line follows, with the total
pub with_last :
    totals_text falling 7 8
    ≡ bytes "bell 2 strokes 2 hold 18\nbell 4 strokes 1 hold 7\nbell 5 strokes 3 hold 66\naccepted strokes 6 states 8 hold 91\n"
unfolding sum bell_line lines accepted_line decimal_within
with_last = refl
