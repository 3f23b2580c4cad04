-- What the table of a phrase says of its jobs, and that the lines composed from it are those of the definition. Assumes nothing.
use Prim.Native.Nat.{ℕ, ◌*◌, ◌<◌}
use mathlib.Core.Path.{◌≡◌, refl, sym, ap, ◌∙◌}
use mathlib.Core.Bool.{Bool, true, false, cond}
use mathlib.Core.List.{List, ◌++◌}
use native.Mathlib.Nat.{zero-mul, one-mul}
use native.Mathlib.Omega.{arith}
use lib.Dec.{eqb}
use lib.ListN.{get_or, length}
use borrow.Author.Tests.{eqb-true}
use Rattle.model.specs.Folds.{sum}
use Rattle.model.specs.Jobs.{Job, job}
use Rattle.model.proofs.Folds.{sum_ext}
use Rattle.format.specs.Phrase.{Phrase}
use Rattle.format.specs.Jobs.{note, struck, jobs_of}
use Rattle.format.specs.Outcome.{ok}
use Rattle.format.specs.Valid.{Valid}
use Rattle.format.proofs.Jobs.{jobs_length, job_is}
use Rattle.rows.specs.BellRow.{most_execution_word, bell_row}
use Rattle.rows.specs.NoteRow.{struck_word}
use Rattle.rows.specs.PhraseTable.{bell_count_word, phrase_table}
use Rattle.rows.specs.internal.Handed.{bell_word, note_word}
use Rattle.rows.proofs.NoteRow.{row_words_holds}
use Rattle.rows.proofs.PhraseTable.{few_bells_holds, few_notes_holds, few_listed, struck_below, header_word, bell_word_holds, note_word_holds}
use Rattle.lines.specs.Lines.{accepted_line}
use Rattle.lines.specs.declared.lines.BellTotal.{BellTotal}
use Rattle.lines.proofs.Series.{lines_ext}
use Rattle.tally.specs.Tally.{bell_total, bell_text, all_hold, totals_text}
use Rattle.tally.specs.internal.Counted.{Countable, struck_in, tallied, total_in, bells_text_in, all_hold_in, totals_text_in}
use Rattle.tally.proofs.Sums.{sum_scaled}
use Rattle.tally.proofs.Counted.{tallied_at}
use Rattle.tally.proofs.Totals.{counts_add_up, hold_in_order}

module _ (x : Phrase) (v : Valid x) where
  abbrev js : List Job
  js = jobs_of x

  abbrev t : List ℕ
  t = phrase_table (ok x)

  count_is : get_or t bell_count_word 0 ≡ length x.bells
  count_is = header_word x v bell_count_word (omega arith)

  -- every job is of a note
  pub noted : (i : ℕ) → i < length js → i < length x.notes
  noted i b = omega (arith, jobs_length x)

  module _ (i : ℕ) (b : i < length js) where
    struck_is : note_word t i struck_word ≡ struck x.shift x.bells (note x i)
    struck_is =
        note_word_holds x v i struck_word (noted i b) (omega arith)
        ∙ ap (λ (r : List ℕ). get_or r struck_word 0) (row_words_holds (struck x.shift x.bells (note x i)) (note x i) (few_listed x v i (noted i b)))

    pub bell_is : note_word t i struck_word ≡ (job js i).bell
    bell_is = struck_is ∙ ap (λ (j : Job). j.bell) (sym (job_is x i b))

    -- its bell has a row
    bell_below : (job js i).bell < length x.bells
    bell_below = omega (arith, sym struck_is ∙ bell_is, struck_below x v i (noted i b))

    execution_is : bell_word t (job js i).bell most_execution_word ≡ (job js i).most_execution
    unfolding bell_row
    execution_is =
        ap (λ (n : ℕ). bell_word t n most_execution_word) (sym bell_is ∙ struck_is)
        ∙ bell_word_holds x v (struck x.shift x.bells (note x i)) most_execution_word (struck_below x v i (noted i b)) (omega arith)
        ∙ ap (λ (j : Job). j.most_execution) (sym (job_is x i b))

  -- The table is such that its strokes can be counted.
  pub countable : Countable t (length js)
  countable =
      let bells = few_bells_holds x v in
      (omega (arith, jobs_length x, few_notes_holds x v), omega (arith, count_is, bells), λ i b. omega (arith, bell_is i b, bell_below i b, bells))

  -- ---- the totals of a bell

  module _ (b : ℕ) (h : b < length x.bells) where
    strokes_are : struck_in t (length js) b ≡ (bell_total js b).strokes
    strokes_are =
        sum_ext (λ i. cond (eqb (note_word t i struck_word) b) 1 0) (λ i. cond (eqb (job js i).bell b) 1 0) (length js)
        (λ i l. ap (λ (n : ℕ). cond (eqb n b) 1 0) (bell_is i l))

    scaled : (i : ℕ) → i < length js → (e : Bool) → eqb (job js i).bell b ≡ e
        → cond e 1 0 * bell_word t b most_execution_word ≡ cond e (job js i).most_execution 0
    scaled i l true q =
        one-mul (bell_word t b most_execution_word)
        ∙ ap (λ (n : ℕ). bell_word t n most_execution_word) (sym (eqb-true (job js i).bell b q))
        ∙ execution_is i l
    scaled i l false q = zero-mul (bell_word t b most_execution_word)

    hold_is : (bell_total js b).strokes * bell_word t b most_execution_word ≡ (bell_total js b).hold
    hold_is =
        sym (sum_scaled (λ i. cond (eqb (job js i).bell b) 1 0) (bell_word t b most_execution_word) (length js))
        ∙ sum_ext (λ i. cond (eqb (job js i).bell b) 1 0 * bell_word t b most_execution_word) (λ i. cond (eqb (job js i).bell b) (job js i).most_execution 0)
        (length js) (λ i l. scaled i l (eqb (job js i).bell b) refl)

    total_is : total_in t (tallied t (length js)) b ≡ bell_total js b
    total_is =
        let strokes = tallied_at t (length js) b (omega (arith, h, few_bells_holds x v)) ∙ strokes_are in
        let hold = ap (λ (n : ℕ). n * bell_word t b most_execution_word) strokes ∙ hold_is in
        λ n. record { number = b; strokes = strokes n; hold = hold n }

  -- ---- the lines

  -- The lines that are composed from the table are those of the phrase.
  pub totals_are : (c : ℕ) → totals_text_in t (length js) c ≡ totals_text js (length x.bells) c
  totals_are c =
      let counts = tallied t (length js) in
      let bells = ap (bells_text_in t counts) count_is
      ∙ lines_ext (λ b. bell_text (total_in t counts b)) (λ b. bell_text (bell_total js b)) (length x.bells) (λ b h. ap bell_text (total_is b h)) in
      let hold = ap (all_hold_in t counts) count_is
      ∙ sum_ext (λ b. (total_in t counts b).hold) (λ b. (bell_total js b).hold) (length x.bells) (λ b h. ap (λ (s : BellTotal). s.hold) (total_is b h)) in
      λ n. bells n ++ accepted_line (length js) c (hold n)

  -- ---- what they add up to

  -- The bells' numbers of strokes add up to the number of strokes.
  pub strokes_add_up : sum (λ b. (bell_total js b).strokes) (length x.bells) ≡ length js
  strokes_add_up = counts_add_up js (length x.bells) bell_below

  -- The total of the last line, formed from the bells' lines, is the sum in the order of the strokes.
  pub total_in_order : all_hold js (length x.bells) ≡ sum (λ i. (job js i).most_execution) (length js)
  total_in_order = hold_in_order js (length x.bells) bell_below
