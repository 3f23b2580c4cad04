-- The text that is composed from a check's result and the table of its phrase is the report's. Assumes nothing.
use Prim.Native.Nat.{ℕ, ◌-◌, ◌≤◌, ◌<◌}
use mathlib.Core.Path.{◌≡◌, refl, sym, ap, ◌∙◌, subst₂}
use mathlib.Core.List.{List, [], ◌++◌}
use native.Mathlib.Omega.{arith}
use lib.ListN.{get_or, length, length-append}
use Rattle.model.specs.Jobs.{Job, job}
use Rattle.model.specs.States.{Range, empty, earliest, latest}
use Rattle.model.specs.Exploration.{accepted, refused, late}
use Rattle.model.specs.Exploration.{Verdict}
use Rattle.format.specs.Layout.{layout}
use Rattle.format.specs.Phrase.{Phrase, transposed}
use Rattle.format.specs.Jobs.{no_bell, no_note, note, shifted_key, struck, jobs_of}
use Rattle.format.specs.Outcome.{Outcome, ok}
use Rattle.format.specs.Reading.{reading}
use Rattle.format.specs.Outcome.{refused as unread}
use Rattle.format.specs.Bytes.{AreBytes}
use Rattle.format.specs.Valid.{ValidNote, Valid}
use Rattle.format.proofs.Theorems.{sound}
use Rattle.format.proofs.Jobs.{each_at, strikes, job_is, analysable}
use Rattle.format.proofs.Ranges.{transposition_small, bell_ranges, shift_fits, key_small}
use Rattle.rows.specs.NoteRow.{key_word, deadline_word, note_row_on}
use Rattle.rows.specs.PhraseTable.{shift_word, phrase_table}
use Rattle.rows.specs.internal.Handed.{note_word}
use Rattle.rows.proofs.PhraseTable.{header_word, note_word_holds}
use Rattle.checking.specs.Checking.{verdict, per_job, result_of, checked_of}
use Rattle.checking.specs.declared.Checked.{Checked}
use Rattle.checking.proofs.PerJob.{per_job_at}
use Rattle.lines.specs.Lines.{labelled, stroke_line, lines, accepted_line, refused_line, late_line}
use Rattle.report.specs.Report.{stroke_of, text_for, text_of}
use Rattle.strokes.specs.internal.Rows.{key_in, stroke_in, SmallKey}
use Rattle.report.specs.internal.Composed.{Composable, accepted_text, text_in}
use Rattle.lines.proofs.Series.{lines_ext}
use Rattle.tally.specs.Tally.{bells_text, all_hold, totals_text}
use Rattle.tally.proofs.Tables.{noted, bell_is, countable, totals_are}

-- what is asked of a result and of the table of its phrase before they are composed, and what comes of it
pub record Composed (r : Checked) (t text : List ℕ) : Type 0 where
  pub can : Composable t r.jobs
  pub text_is : text_in r.answer r t ≡ text

module _ (x : Phrase) (v : Valid x) where
  abbrev js : List Job
  js = jobs_of x

  abbrev t : List ℕ
  t = phrase_table (ok x)

  module _ (i : ℕ) (b : i < length js) where
    here : i < length x.notes
    here = noted x v i b

    written_is : note_word t i key_word ≡ (note x i).key
    unfolding note_row_on
    written_is = note_word_holds x v i key_word here (omega arith)

    shift_is : get_or t shift_word 0 ≡ x.shift
    shift_is = header_word x v shift_word (omega arith)

    key_is : key_in t i ≡ shifted_key x i
    key_is n = transposed (written_is n) (shift_is n)

    small_key : SmallKey t i
    small_key =
        let rule = each_at (ValidNote x.shift x.bells) [] x.notes v.fields.notes i no_note here in
        let bell = strikes (layout x.version) x.shift x.bells (note x i) v.fields.bells rule.sounds in
        let sounds = (bell_ranges (layout x.version) (get_or x.bells (struck x.shift x.bells (note x i)) no_bell) bell.1).sounds in
        let shift = (shift_fits (layout x.version) x.shift v.fields.shift).0 in
        let key = key_small (note x i).key x.shift shift (rw bell.2 at sounds.1) in
        (omega (arith, written_is, key), omega (arith, shift_is, transposition_small x.shift shift))

    deadline_is : note_word t i deadline_word ≡ (note x i).deadline
    unfolding note_row_on
    deadline_is = note_word_holds x v i deadline_word here (omega arith)

  module _ (bounds : List Range) (c : ℕ) where
    abbrev result : Checked
    result = result_of js (accepted bounds c)

    stroke_is : (i : ℕ) → i < length js → stroke_in t result.earliest result.latest result.best result.worst i ≡ stroke_of x bounds i
    stroke_is i b =
        let at : (f : ℕ → ℕ) → get_or (per_job (length js) f) i 0 ≡ f i = λ f. per_job_at (length js) f (countable x v).0 i b in
        let key = key_is i b in
        let bell = bell_is x v i b in
        let deadline = deadline_is i b ∙ ap (λ (j : Job). j.deadline) (sym (job_is x i b)) in
        λ n. record {
          number = i;
          key = key n;
          bell = bell n;
          earliest = at (λ j. earliest (get_or bounds j empty)) n;
          latest = at (λ j. latest (get_or bounds j empty)) n;
          best = at (λ j. earliest (get_or bounds j empty) - (job js j).earliest_release) n;
          worst = at (λ j. latest (get_or bounds j empty) - (job js j).earliest_release) n;
          deadline = deadline n;
        }

    accepted_is : accepted_text result t ≡ text_for x (accepted bounds c)
    accepted_is =
        let p =
        lines_ext (λ i. stroke_line (stroke_in t result.earliest result.latest result.best result.worst i)) (λ i. stroke_line (stroke_of x bounds i))
        (length js) (λ i b. ap stroke_line (stroke_is i b)) in
        let q = totals_are x v c in
        λ n. p n ++ q n

  composable : Composable t (length js)
  composable =
      let h = countable x v in
      (h.0, h.1, λ i b. (omega (arith, key_is i b, (analysable x v).keys i b), h.2 i b, small_key i b))

  composed_for : (w : Verdict) → Composed (result_of js w) t (text_for x w)
  composed_for (accepted bounds c) = record { can = composable; text_is = accepted_is bounds c }
  composed_for (refused n at) = record { can = (omega arith, (countable x v).1, λ i b. absurd (omega arith)); text_is = refl }
  composed_for (late i e f) = record { can = (omega arith, (countable x v).1, λ j b. absurd (omega arith)); text_is = refl }

module _ (file : List ℕ) (bytes : AreBytes file) (words : ℕ) where
  composed_from : (o : Outcome Phrase) → reading file ≡ o → Composed (checked_of o words) (phrase_table o) (text_of o words)
  composed_from (ok x) e = composed_for x (sound file x bytes e) (verdict (ok x) words)
  composed_from (unread n at) e = record { can = (omega arith, omega arith, λ i b. absurd (omega arith)); text_is = refl }

  -- A check's result and the table that it leaves can be composed, to the report's text.
  pub composed : (r : Checked) (t : List ℕ) → r ≡ checked_of (reading file) words → t ≡ phrase_table (reading file)
      → Composed r t (text_of (reading file) words)
  composed r t p q = subst₂ (λ (s : Checked) (l : List ℕ). Composed s l (text_of (reading file) words)) (sym p) (sym q) (composed_from (reading file) refl)

-- ---- no text is empty

text_for_long : (x : Phrase) (v : Verdict) → 1 ≤ length (text_for x v)
unfolding labelled accepted_line refused_line late_line
text_for_long x (accepted bounds c) =
    let js = jobs_of x in
    let bells = bells_text js (length x.bells) in
    let last = accepted_line (length js) c (all_hold js (length x.bells)) in
    let h : 1 ≤ length last = omega arith in
    omega (arith, h, length-append bells last, length-append (lines (λ i. stroke_line (stroke_of x bounds i)) (length js)) (totals_text js (length x.bells) c))
text_for_long x (refused n at) = omega arith
text_for_long x (late i e f) = omega arith

-- Every text has a byte.
pub text_long : (o : Outcome Phrase) (words : ℕ) → 1 ≤ length (text_of o words)
unfolding labelled refused_line
text_long (ok x) words = text_for_long x (verdict (ok x) words)
text_long (unread n at) words = omega arith
