use Prim.Native.Nat.{◌+◌, ◌≤◌, ◌<◌}
use mathlib.Core.Path.{◌≡◌, refl, sym, ap, ◌∙◌}
use mathlib.Core.List.{[]}
use native.Mathlib.Omega.{arith}
use lib.ListN.{length, get_or, drop}
use borrow.Author.Rules.{rules}
use Rattle.fields.proofs.Sizes.{sized}
use Rattle.std.specs.Prelude.{Err}
use Rattle.model.specs.Refusals.{too_many_notes}
use Rattle.format.specs.Layout.{first, most_bells, note_count_at, longest_file}
use Rattle.format.specs.Rules.{notes_rules}
use Rattle.fields.specs.internal.Layouts.{layout_of}
use Rattle.rows.specs.NoteRow.{note_words, note_of_row}
use Rattle.rows.specs.PhraseTable.{bell_count_word, note_count_word, note_rows_at, phrase_of}
use Rattle.rows.proofs.BellRow.{bells_length}
use Rattle.rows.proofs.Records.{rows_length}
use Rattle.rules.specs.internal.Answers.{end_of}
use Rattle.rules.specs.internal.Asking.{notes_end, body_end}
use Rattle.rules.proofs.Counting.{count_within, too_many, few_enough}
use Rattle.rules.proofs.notes.ask_notes.Goals as goal
use Rattle.rules.proofs.notes.ask_notes.Goals.{After-note_count_at-at, Start}

-- its counts are those of the header
bells_counted : (s : Start) → length (phrase_of s.args.phrase.now).bells ≡ get_or s.args.phrase.now bell_count_word 0
bells_counted s = bells_length s.args.phrase.now (get_or s.args.phrase.now bell_count_word 0)

notes_counted : (s : Start) → length (phrase_of s.args.phrase.now).notes ≡ get_or s.args.phrase.now note_count_word 0
notes_counted s =
    let t = s.args.phrase.now in
    rows_length note_of_row note_words (drop note_rows_at t) (get_or t note_count_word 0)

few : (s : Start) → get_or s.args.phrase.now bell_count_word 0 ≤ most_bells
few s = omega (arith, s.requires.0, bells_counted s)

-- the place of the number of notes
place : (c : After-note_count_at-at) → c.note_count_at-at.result ≡ note_count_at (layout_of c.args.l) (length (phrase_of c.args.phrase.now).bells)
place c = c.note_count_at-at.ensures ∙ ap (note_count_at (layout_of c.args.l)) (sym (bells_length c.args.phrase.now (get_or c.args.phrase.now bell_count_word 0)))

-- it lies in the longest file
within : (c : After-note_count_at-at) → c.note_count_at-at.result < longest_file
within c =
    omega (arith, c.note_count_at-at.ensures, count_within (layout_of c.args.l) (sized c.args.l) (get_or c.args.phrase.now bell_count_word 0) (omega (arith, c.requires.0, (bells_length c.args.phrase.now (get_or c.args.phrase.now bell_count_word 0)))))

pub note_count_at-at-requires : goal.note_count_at-at-requires
note_count_at-at-requires c = few (goal.at.note_count_at-at-requires c).Start

pub returns-then-count : goal.returns-then-count
returns-then-count c = let x = (phrase_of c.args.phrase.now) in
    let many = too_many (layout_of c.args.l) x.shift x.bells x.notes (note_count_at (layout_of c.args.l) (length x.bells)) (omega (arith, notes_counted (goal.at.returns-then-count c).Start, c.if-count.true)) in
    c.refuse.ensures ∙ ap (λ at. Err (record { number = too_many_notes; place = at })) (place (goal.at.returns-then-count c).After-note_count_at-at) ∙ ap (λ o. end_of o (body_end (layout_of c.args.l) x)) (sym many)

pub notes_from-requires : goal.notes_from-requires
notes_from-requires c = (search rules, c.if-count.false, omega (arith, within (goal.at.notes_from-requires c).After-note_count_at-at), c.requires.1, c.requires.2, c.requires.3)

pub returns : goal.returns
returns c = let x = (phrase_of c.args.phrase.now) in
    let at = note_count_at (layout_of c.args.l) (length x.bells) in
    let all = few_enough (layout_of c.args.l) x.shift x.bells x.notes at refl (omega (arith, notes_counted (goal.at.returns c).Start, c.if-count.false)) in
    c.notes_from.ensures
    ∙ ap (λ p. end_of (notes_rules first x.shift x.bells x.notes (p + 1) []) (notes_end (p + 1) x.notes)) (place (goal.at.returns c).After-note_count_at-at)
    ∙ ap (λ o. end_of o (body_end (layout_of c.args.l) x)) (sym all)
