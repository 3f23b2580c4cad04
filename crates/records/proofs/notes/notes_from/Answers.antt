-- `Noted` holds at every turn.
use mathlib.Core.Path.{◌≡◌, refl, sym, ap, subst, ◌∙◌}
use Prim.Native.Nat.{◌+◌, ◌*◌, ◌≤◌}
use native.Mathlib.Omega.{arith}
use lib.ListN.{length, drop}
use Rattle.words.specs.internal.Placed.{placed}
use Rattle.words.proofs.Placing.{tail_is}
use Rattle.format.specs.Bytes.{number}
use Rattle.format.specs.Layout.{first}
use Rattle.format.specs.Outcome.{ok}
use Rattle.format.specs.Phrase.{Note}
use Rattle.format.specs.Reading.{note_record}
use Rattle.rows.specs.NoteRow.{note_words, note_row}
use Rattle.rows.specs.PhraseTable.{note_rows_at}
use Rattle.rows.proofs.NoteRow.{begins_none}
use Rattle.records.specs.internal.Answers.{reading_of}
use Rattle.records.specs.internal.Filling.{list_of, bells_held, note_put, HoldsBells, HoldsNotes}
use Rattle.records.proofs.Outcomes.{was_ok, was_refused, passed_on, carried}
use Rattle.records.proofs.NoteReading.{Noted, none_noted, noted_bells, noted_stop, noted_more, noted_fits, noted_remain, noted_done}
use Rattle.records.proofs.notes.notes_from.Goals as goal
use Rattle.records.proofs.notes.notes_from.Goals.{After-read_note, In_ok-read_note}

-- what the record's answer says of it
answer : (c : After-read_note) → c.read_note.result ≡ reading_of (let v = c.loop-i in note_record first c.args.shift (bells_held c.args.phrase.now c.args.n) v.i v.at (drop v.at c.args.file.now))
answer c =
    let s = c.args.file.now in
    let v = c.loop-i in
    c.read_note.ensures.value ∙ (λ k. reading_of (note_record first c.args.shift (v.invariant.2.same k) v.i v.at (tail_is s v.at k)))

-- and what it leaves in the table
left : (c : After-read_note) → let v = c.loop-i in c.read_note.new.phrase ≡ note_put c.args.shift (bells_held c.args.phrase.now c.args.n) (let v = c.loop-i in note_record first c.args.shift (bells_held c.args.phrase.now c.args.n) v.i v.at (drop v.at c.args.file.now)) v.phrase v.i
left c =
    let s = c.args.file.now in
    let v = c.loop-i in
    let same = v.invariant.2.same in
    c.read_note.ensures.phrase_after ∙ (λ k. note_put c.args.shift (same k) (note_record first c.args.shift (same k) v.i v.at (tail_is s v.at k)) v.phrase v.i)

taken : (c : In_ok-read_note) → (a : Note) × ((let v = c.loop-i in note_record first c.args.shift (bells_held c.args.phrase.now c.args.n) v.i v.at (drop v.at c.args.file.now)) ≡ ok a)
taken c = was_ok _ (sym (let s = c.args.file.now in let v = c.loop-i in c.read_note.ensures.value ∙ (λ k. reading_of (note_record first c.args.shift (v.invariant.2.same k) v.i v.at (tail_is s v.at k)))) ∙ c.in_ok-read_note.was)

fits : (c : In_ok-read_note) → let s = c.args.file.now in let at = c.loop-i.at in at + (1 + number 1 at s) ≤ length s
fits c =
    let a = c.args in
    let v = c.loop-i in
    let b = taken c in
    noted_fits a.file.now a.shift (bells_held c.args.phrase.now c.args.n) a.n a.count a.start v.i v.at v.phrase v.invariant.2 c.loop-i-test.true b.0 b.1

pub loop-i-init : goal.loop-i-init
loop-i-init c = (c.requires.0, refl, none_noted c.args.file.now c.args.shift c.args.n c.args.count c.args.start c.args.phrase.now c.requires.4)

pub returns-in_err-read_note : goal.returns-in_err-read_note
returns-in_err-read_note c = let a = c.args in
    let v = c.loop-i in
    let s = a.file.now in
    let bs = bells_held a.phrase.now a.n in
    let x = v.invariant.2 in
    let next = c.read_note.new.phrase in
    let q = was_refused (note_record first a.shift bs v.i v.at (drop v.at s)) _ (sym (answer (goal.at.returns-in_err-read_note c).After-read_note) ∙ c.in_err-read_note.was) in
    let kept : next ≡ v.phrase =
    left (goal.at.returns-in_err-read_note c).After-read_note ∙ ap (λ o. note_put a.shift bs o v.phrase v.i) q in
    let stop = noted_stop s a.shift bs a.n a.count a.start v.i v.at v.phrase x c.loop-i-test.true _ _ q in
    let r = carried (λ o. HoldsNotes a.shift bs (list_of o) next) stop (begins_none a.shift bs next) in
    record { value = passed_on c.from_residual.ensures.1 ∙ r.0; holds_bells = subst (HoldsBells bs) (sym kept) (noted_bells s a.shift bs a.n a.count a.start v.i v.at v.phrase x); holds_notes = r.1 }

pub byte-requires : goal.byte-requires
byte-requires c = omega (arith, fits c)

pub loop-i-preserved : goal.loop-i-preserved
loop-i-preserved c = let a = c.args in
    let v = c.loop-i in
    let s = a.file.now in
    let bs = bells_held a.phrase.now a.n in
    let x = v.invariant.2 in
    let b = taken (goal.at.loop-i-preserved c).In_ok-read_note in
    let next = placed v.phrase (note_rows_at + v.i * note_words) (note_row a.shift bs b.0) in
    let put : c.read_note.new.phrase ≡ next =
    left (goal.at.loop-i-preserved c).After-read_note ∙ ap (λ o. note_put a.shift bs o v.phrase v.i) b.1 in
    let more = noted_more s a.shift bs a.n a.count a.start v.i v.at v.phrase x c.loop-i-test.true b.0 b.1 (omega arith) c.requires.2 in (
      omega (arith, fits (goal.at.loop-i-preserved c).In_ok-read_note, c.byte.ensures.0),
      c.read_note.auto.phrase ∙ v.invariant.1,
      subst (λ t. Noted s a.shift bs a.n a.count a.start (v.i + 1) (v.at + (1 + c.byte.result)) t) (sym put)
          (subst (λ size. Noted s a.shift bs a.n a.count a.start (v.i + 1) (v.at + (1 + size)) next) (sym c.byte.ensures.0) more),
    )

pub returns-then-at-file : goal.returns-then-at-file
returns-then-at-file c = let a = c.args in
    let v = c.loop-i in
    let s = a.file.now in
    let bs = bells_held a.phrase.now a.n in
    let x = v.invariant.2 in
    let r = carried (λ o. HoldsNotes a.shift bs (list_of o) v.phrase) (noted_remain s a.shift bs a.n a.count a.start v.i v.at v.phrase x c.loop-i-test.false c.if-at-file.true) (begins_none a.shift bs v.phrase) in
    record { value = c.refuse.ensures ∙ r.0; holds_bells = noted_bells s a.shift bs a.n a.count a.start v.i v.at v.phrase x; holds_notes = r.1 }

pub returns : goal.returns
returns c = let a = c.args in
    let v = c.loop-i in
    let s = a.file.now in
    let bs = bells_held a.phrase.now a.n in
    let x = v.invariant.2 in
    let r = carried (λ o. HoldsNotes a.shift bs (list_of o) v.phrase) (noted_done s a.shift bs a.n a.count a.start v.i v.at v.phrase x c.loop-i-test.false c.if-at-file.false) x.rows in
    record { value = r.0; holds_bells = noted_bells s a.shift bs a.n a.count a.start v.i v.at v.phrase x; holds_notes = r.1 }
