-- Asking on from here gives the whole, and the place is where the notes before end.
use mathlib.Core.Path.{◌≡◌, refl, sym, ap, ◌∙◌}
use Prim.Native.Nat.{ℕ, ◌+◌, ◌-◌, ◌*◌, ◌≤◌, ◌<◌}
use native.Mathlib.Omega.{arith}
use borrow.Author.Tests.{leb-true}
use lib.ListN.{length, get_or, take, drop, length-take, length-drop}
use lib.Seq.{take_all, get_or-take}
use Rattle.format.specs.Bytes.{records}
use Rattle.format.specs.Jobs.{no_note}
use Rattle.format.specs.Layout.{first, most_listed, note_length}
use Rattle.format.specs.Outcome.{ok}
use Rattle.format.specs.Phrase.{Note}
use Rattle.format.specs.Rules.{notes_rules}
use Rattle.format.specs.Writing.{note_file}
use Rattle.rows.specs.NoteRow.{note_words, listed_count_word, listed_word, note_of_row, notes_of_rows}
use Rattle.rows.specs.PhraseTable.{note_rows_at, phrase_of}
use Rattle.rows.proofs.Records.{rows_length}
use Rattle.rows.proofs.RowsRead.{note_lent}
use Rattle.records.specs.internal.Answers.{reading_of}
use Rattle.records.proofs.Outcomes.{was_ok, was_refused, passed_on}
use Rattle.rules.specs.internal.Answers.{end_of}
use Rattle.rules.specs.internal.Asking.{note_asked, notes_end}
use Rattle.rules.proofs.Turns.{same_note, next_note, stop_note, last_note_holds}
use Rattle.rules.proofs.NoteLent.{asked_lent, no_bytes, more_bytes}
use Rattle.rules.proofs.notes.notes_from.Goals as goal
use Rattle.rules.proofs.notes.notes_from.Goals.{After-ask_note, In_ok-ask_note}

note_length_first : (k : ℕ) → note_length first k ≡ 13 + k
unfolding note_length
note_length_first k = omega arith

wide : (c : After-ask_note) → note_words ≤ length (drop (note_rows_at + c.loop-i.i * note_words) c.args.phrase.now)
wide c =
    let test = c.loop-i-test.true in
    omega (arith, c.requires.0, c.requires.1, length-drop (note_rows_at + c.loop-i.i * note_words) c.args.phrase.now)

lent : (c : After-ask_note) → note_of_row (drop (note_rows_at + c.loop-i.i * note_words) c.args.phrase.now) ≡ (get_or (notes_of_rows (drop note_rows_at c.args.phrase.now) c.args.count) c.loop-i.i no_note)
lent c = note_lent c.args.phrase.now c.args.count c.loop-i.i c.loop-i-test.true

answer : (c : After-ask_note) → c.ask_note.result ≡ reading_of (note_asked ((phrase_of c.args.phrase.now).shift) ((phrase_of c.args.phrase.now).bells) c.loop-i.i c.loop-i.at (get_or (notes_of_rows (drop note_rows_at c.args.phrase.now) c.args.count) c.loop-i.i no_note))
answer c =
    let v = c.loop-i in
    let from = note_rows_at + v.i * note_words in
    let width : from + note_words - from ≡ note_words = omega arith in
    c.ask_note.ensures ((phrase_of c.args.phrase.now).bells) c.requires.5
    ∙ ap (λ k. reading_of (note_asked ((phrase_of c.args.phrase.now).shift) ((phrase_of c.args.phrase.now).bells) v.i v.at (note_of_row (take k (drop (note_rows_at + c.loop-i.i * note_words) c.args.phrase.now))))) width
    ∙ ap reading_of (asked_lent ((phrase_of c.args.phrase.now).shift) ((phrase_of c.args.phrase.now).bells) v.i v.at (drop (note_rows_at + c.loop-i.i * note_words) c.args.phrase.now) (wide c))
    ∙ ap (λ n. reading_of (note_asked ((phrase_of c.args.phrase.now).shift) ((phrase_of c.args.phrase.now).bells) v.i v.at n)) (lent c)

taken : (c : In_ok-ask_note) → (n : Note) × ((note_asked ((phrase_of c.args.phrase.now).shift) ((phrase_of c.args.phrase.now).bells) c.loop-i.i c.loop-i.at (get_or (notes_of_rows (drop note_rows_at c.args.phrase.now) c.args.count) c.loop-i.i no_note)) ≡ ok n)
taken c = was_ok _ (sym (let v = c.loop-i in let from = note_rows_at + v.i * note_words in let width : from + note_words - from ≡ note_words = omega arith in c.ask_note.ensures ((phrase_of c.args.phrase.now).bells) c.requires.5 ∙ ap (λ k. reading_of (note_asked ((phrase_of c.args.phrase.now).shift) ((phrase_of c.args.phrase.now).bells) v.i v.at (note_of_row (take k (drop (note_rows_at + c.loop-i.i * note_words) c.args.phrase.now))))) width ∙ ap reading_of (asked_lent ((phrase_of c.args.phrase.now).shift) ((phrase_of c.args.phrase.now).bells) v.i v.at (drop (note_rows_at + c.loop-i.i * note_words) c.args.phrase.now) (let test = c.loop-i-test.true in omega (arith, c.requires.0, c.requires.1, length-drop (note_rows_at + c.loop-i.i * note_words) c.args.phrase.now))) ∙ ap (λ n. reading_of (note_asked ((phrase_of c.args.phrase.now).shift) ((phrase_of c.args.phrase.now).bells) v.i v.at n)) (note_lent c.args.phrase.now c.args.count c.loop-i.i c.loop-i-test.true)) ∙ c.in_ok-ask_note.was)

-- it is that of the jobs that the note lists, and these are few
sized : (c : In_ok-ask_note)
    → ((let from = note_rows_at + c.loop-i.i * note_words in get_or (take (from + note_words - from) (drop (note_rows_at + c.loop-i.i * note_words) c.args.phrase.now)) listed_count_word 0) ≡ length (get_or (notes_of_rows (drop note_rows_at c.args.phrase.now) c.args.count) c.loop-i.i no_note).listed) × (length (get_or (notes_of_rows (drop note_rows_at c.args.phrase.now) c.args.count) c.loop-i.i no_note).listed ≤ most_listed)
sized c =
    let v = c.loop-i in
    let from = note_rows_at + v.i * note_words in
    let few : length (get_or (notes_of_rows (drop note_rows_at c.args.phrase.now) c.args.count) c.loop-i.i no_note).listed ≤ most_listed = leb-true (length (get_or (notes_of_rows (drop note_rows_at c.args.phrase.now) c.args.count) c.loop-i.i no_note).listed) most_listed (same_note ((phrase_of c.args.phrase.now).shift) ((phrase_of c.args.phrase.now).bells) v.i v.at (get_or (notes_of_rows (drop note_rows_at c.args.phrase.now) c.args.count) c.loop-i.i no_note) (taken c).0 (taken c).1).0 in
    let same : length (note_of_row (drop (note_rows_at + c.loop-i.i * note_words) c.args.phrase.now)).listed ≡ length (get_or (notes_of_rows (drop note_rows_at c.args.phrase.now) c.args.count) c.loop-i.i no_note).listed = ap (λ n. length n.listed) (note_lent c.args.phrase.now c.args.count c.loop-i.i c.loop-i-test.true) in
    let kept : (let from = note_rows_at + c.loop-i.i * note_words in get_or (take (from + note_words - from) (drop (note_rows_at + c.loop-i.i * note_words) c.args.phrase.now)) listed_count_word 0) ≡ get_or (drop (note_rows_at + c.loop-i.i * note_words) c.args.phrase.now) listed_count_word 0 = get_or-take (from + note_words - from) (drop (note_rows_at + c.loop-i.i * note_words) c.args.phrase.now) listed_count_word 0 (omega arith) in
    let taken-length = length-take (get_or (drop (note_rows_at + c.loop-i.i * note_words) c.args.phrase.now) listed_count_word 0) (drop listed_word (drop (note_rows_at + c.loop-i.i * note_words) c.args.phrase.now)) in
    let rest = length-drop listed_word (drop (note_rows_at + c.loop-i.i * note_words) c.args.phrase.now) in
    let test = c.loop-i-test.true in
    let wide : note_words ≤ length (drop (note_rows_at + c.loop-i.i * note_words) c.args.phrase.now) =
    omega (arith, c.requires.0, c.requires.1, length-drop (note_rows_at + c.loop-i.i * note_words) c.args.phrase.now) in
    (omega (arith, few, same, kept, taken-length, rest, wide), few)

short : (c : After-ask_note) → c.loop-i.i < length (notes_of_rows (drop note_rows_at c.args.phrase.now) c.args.count)
short c =
    let test = c.loop-i-test.true in
    omega (arith, rows_length note_of_row note_words (drop note_rows_at c.args.phrase.now) c.args.count)

pub loop-i-init : goal.loop-i-init
loop-i-init c = let a = c.args in
    (omega (arith, no_bytes (notes_of_rows (drop note_rows_at a.phrase.now) a.count)), omega arith, refl)

pub returns-in_err-ask_note : goal.returns-in_err-ask_note
returns-in_err-ask_note c = let a = c.args in
    let v = c.loop-i in
    let q = was_refused (note_asked ((phrase_of c.args.phrase.now).shift) ((phrase_of c.args.phrase.now).bells) c.loop-i.i c.loop-i.at (get_or (notes_of_rows (drop note_rows_at c.args.phrase.now) c.args.count) c.loop-i.i no_note)) _ (sym (answer (goal.at.returns-in_err-ask_note c).After-ask_note) ∙ c.in_err-ask_note.was) in
    let w = sym v.invariant.2 ∙ stop_note first ((phrase_of c.args.phrase.now).shift) ((phrase_of c.args.phrase.now).bells) (notes_of_rows (drop note_rows_at c.args.phrase.now) c.args.count) v.i v.at (short (goal.at.returns-in_err-ask_note c).After-ask_note) _ _ q in
    passed_on c.from_residual.ensures.1
    ∙ ap (λ o. end_of o (notes_end a.start (notes_of_rows (drop note_rows_at c.args.phrase.now) c.args.count))) (sym w)

pub loop-i-preserved : goal.loop-i-preserved
loop-i-preserved c = let v = c.loop-i in
    let z = sized (goal.at.loop-i-preserved c).In_ok-ask_note in
    let k = length (get_or (notes_of_rows (drop note_rows_at c.args.phrase.now) c.args.count) c.loop-i.i no_note).listed in
    let more = more_bytes (notes_of_rows (drop note_rows_at c.args.phrase.now) c.args.count) v.i (short (goal.at.loop-i-preserved c).After-ask_note) in
    let next = next_note first ((phrase_of c.args.phrase.now).shift) ((phrase_of c.args.phrase.now).bells) (notes_of_rows (drop note_rows_at c.args.phrase.now) c.args.count) v.i v.at (short (goal.at.loop-i-preserved c).After-ask_note) (taken (goal.at.loop-i-preserved c).In_ok-ask_note).0 (taken (goal.at.loop-i-preserved c).In_ok-ask_note).1 in
    let step : v.at + (14 + (let from = note_rows_at + c.loop-i.i * note_words in get_or (take (from + note_words - from) (drop (note_rows_at + c.loop-i.i * note_words) c.args.phrase.now)) listed_count_word 0)) ≡ v.at + (1 + note_length first k) = omega (arith, z.0, note_length_first k) in (
      omega (arith, v.invariant.0, more, step),
      omega (arith, z.0, z.1),
      ap (λ p. notes_rules first ((phrase_of c.args.phrase.now).shift) ((phrase_of c.args.phrase.now).bells) (drop (v.i + 1) (notes_of_rows (drop note_rows_at c.args.phrase.now) c.args.count)) p (take (v.i + 1) (notes_of_rows (drop note_rows_at c.args.phrase.now) c.args.count))) step ∙ sym next ∙ v.invariant.2,
    )

pub returns : goal.returns
returns c = let a = c.args in
    let v = c.loop-i in
    let t = notes_of_rows (drop note_rows_at a.phrase.now) a.count in
    let x = phrase_of a.phrase.now in
    let end : length t ≤ v.i = omega (arith, rows_length note_of_row note_words (drop note_rows_at a.phrase.now) a.count) in
    let w = sym v.invariant.2 ∙ last_note_holds first x.shift x.bells t v.i v.at end in
    let place : v.at ≡ notes_end a.start t = v.invariant.0 ∙ ap (λ l. a.start + length (records (note_file first) l)) (take_all v.i t end) in
    (λ k. end_of (sym w k) (place k))
