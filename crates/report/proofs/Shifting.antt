-- What is heard of a phrase decides its report: written with a shift and its keys moved the other way, a phrase has the report that it had. Assumes nothing.
use Prim.Native.Nat.{ℕ, ◌-◌, ◌<◌}
use mathlib.Core.Path.{◌≡◌, refl, sym, ap, ◌∙◌}
use mathlib.Core.Bool.{true}
use mathlib.Core.List.{List, ◌++◌}
use native.Mathlib.Omega.{arith}
use lib.ListN.{get_or, length}
use Rattle.model.specs.Jobs.{Job, job}
use Rattle.model.specs.States.{Range, empty, earliest, latest}
use Rattle.model.specs.Exploration.{accepted, refused, late, analysis, capacity}
use Rattle.model.specs.Exploration.{Verdict}
use Rattle.format.specs.Bytes.{AreBytes}
use Rattle.format.specs.Outcome.{Outcome, ok}
use Rattle.format.specs.Phrase.{Phrase}
use Rattle.format.specs.Rules.{is_transposition}
use Rattle.format.specs.Reading.{reading}
use Rattle.format.specs.Jobs.{shifted_key, jobs_of}
use Rattle.format.specs.Writing.{written}
use Rattle.format.specs.Shifting.{heard, shifted_by, Movable}
use Rattle.format.proofs.Theorems.{sound}
use Rattle.format.proofs.Jobs.{jobs_length}
use Rattle.format.proofs.Shifting.{heard_jobs, heard_keys, shifted_heard, shifted_read}
use Rattle.checking.specs.Checking.{verdict, result_of, checked_of}
use Rattle.lines.specs.Lines.{stroke_line, lines}
use Rattle.lines.proofs.Series.{lines_ext}
use Rattle.tally.specs.Tally.{totals_text}
use Rattle.report.specs.Report.{stroke_of, text_for, text_of, reported_in, reported_of}

-- ---- phrases of which the same is heard

module _ (x y : Phrase) (cores : x.cores ≡ y.cores) (bells : x.bells ≡ y.bells) (same : heard x ≡ heard y) where
  js : jobs_of x ≡ jobs_of y
  js = heard_jobs x y same bells

  key : (i : ℕ) → i < length (jobs_of x) → shifted_key x i ≡ shifted_key y i
  key i h = heard_keys x y same i (omega (arith, jobs_length x))

  stroke : (bounds : List Range) (i : ℕ) → i < length (jobs_of x) → stroke_of x bounds i ≡ stroke_of y bounds i
  stroke bounds i h =
      let k = key i h in
      λ n. record {
        number = i;
        key = k n;
        bell = (job (js n) i).bell;
        earliest = earliest (get_or bounds i empty);
        latest = latest (get_or bounds i empty);
        best = earliest (get_or bounds i empty) - (job (js n) i).earliest_release;
        worst = latest (get_or bounds i empty) - (job (js n) i).earliest_release;
        deadline = (job (js n) i).deadline;
      }

  text_for_holds : (v : Verdict) → text_for x v ≡ text_for y v
  text_for_holds (accepted bounds c) =
      let p =
      lines_ext (λ i. stroke_line (stroke_of x bounds i)) (λ i. stroke_line (stroke_of y bounds i)) (length (jobs_of x)) (λ i h. ap stroke_line (stroke bounds i h))
      ∙ ap (λ (ks : List Job). lines (λ i. stroke_line (stroke_of y bounds i)) (length ks)) js in
      λ n. p n ++ totals_text (js n) (length (bells n)) c
  text_for_holds (refused r at) = refl
  text_for_holds (late i e f) = refl

  module _ (words : ℕ) where
    -- On equal cores, with the same bells, their verdicts are the same.
    pub heard_verdict : verdict (ok x) words ≡ verdict (ok y) words
    heard_verdict = λ n. analysis (js n) (cores n) (capacity words (cores n) (length (js n)))

    -- The results of their checks are the same.
    pub heard_checked : checked_of (ok x) words ≡ checked_of (ok y) words
    heard_checked = λ n. result_of (js n) (heard_verdict n)

    -- The texts of their reports are the same.
    pub heard_text : text_of (ok x) words ≡ text_of (ok y) words
    heard_text = ap (text_for x) heard_verdict ∙ text_for_holds (verdict (ok y) words)

    -- The results of their reports are the same, for every buffer.
    pub heard_reported : (buffer : List ℕ) → reported_of (ok x) words buffer ≡ reported_of (ok y) words buffer
    heard_reported buffer = λ n. reported_in (heard_checked n) (heard_text n) buffer

-- ---- a phrase with a shift of 0, written with another

module _ (t : ℕ) (e : is_transposition t ≡ true) (x : Phrase) (none : x.shift ≡ 0) (movable : Movable t x) (words : ℕ) where
  same_heard : heard (shifted_by t x) ≡ heard x
  same_heard = shifted_heard t e x none movable

  -- Its verdict is the same.
  pub shifted_verdict : verdict (ok (shifted_by t x)) words ≡ verdict (ok x) words
  shifted_verdict = heard_verdict (shifted_by t x) x refl refl same_heard words

  -- The result of its check is the same.
  pub shifted_checked : checked_of (ok (shifted_by t x)) words ≡ checked_of (ok x) words
  shifted_checked = heard_checked (shifted_by t x) x refl refl same_heard words

  -- The text of its report is the same.
  pub shifted_text : text_of (ok (shifted_by t x)) words ≡ text_of (ok x) words
  shifted_text = heard_text (shifted_by t x) x refl refl same_heard words

  -- The result of its report is the same, for every buffer.
  pub shifted_reported : (buffer : List ℕ) → reported_of (ok (shifted_by t x)) words buffer ≡ reported_of (ok x) words buffer
  shifted_reported = heard_reported (shifted_by t x) x refl refl same_heard words

  -- ---- its file, in place of one that held the phrase

  module _ (s : List ℕ) (bytes : AreBytes s) (held : reading s ≡ ok x) where
    is_read : reading (written (shifted_by t x)) ≡ ok (shifted_by t x)
    is_read = shifted_read t e x none movable (sound s x bytes held)

    instead : {A : Type 0} (f : Outcome Phrase → A) → f (ok (shifted_by t x)) ≡ f (ok x) → f (reading (written (shifted_by t x))) ≡ f (reading s)
    instead f same = ap f is_read ∙ same ∙ ap f (sym held)

    -- The file of the phrase so written has the verdict of the file that was read.
    pub file_verdict : verdict (reading (written (shifted_by t x))) words ≡ verdict (reading s) words
    file_verdict = instead (λ o. verdict o words) shifted_verdict

    -- It has the same result of a check.
    pub file_checked : checked_of (reading (written (shifted_by t x))) words ≡ checked_of (reading s) words
    file_checked = instead (λ o. checked_of o words) shifted_checked

    -- It has the same text of a report.
    pub file_text : text_of (reading (written (shifted_by t x))) words ≡ text_of (reading s) words
    file_text = instead (λ o. text_of o words) shifted_text

    -- It has the same result of a report, for every buffer.
    pub file_reported : (buffer : List ℕ) → reported_of (reading (written (shifted_by t x))) words buffer ≡ reported_of (reading s) words buffer
    file_reported buffer = instead (λ o. reported_of o words buffer) (shifted_reported buffer)
