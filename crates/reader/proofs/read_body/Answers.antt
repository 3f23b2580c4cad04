-- Each way out is a case of `body_of`.
use mathlib.Core.Path.{◌≡◌, sym, ap, subst, ◌∙◌}
use Prim.Native.Nat.{◌≤◌}
use native.Mathlib.Omega.{arith}
use mathlib.Core.List.{List}
use lib.ListN.{length}
use Rattle.format.specs.Bytes.{number}
use Rattle.format.specs.Layout.{bell_count_at, most_bells, note_count_at}
use Rattle.format.specs.Outcome.{ok}
use Rattle.format.specs.Phrase.{Bell}
use Rattle.format.specs.Reading.{shift_in, bells_in, notes_in}
use Rattle.rows.specs.PhraseTable.{phrase_words}
use Rattle.fields.specs.internal.Layouts.{layout_of}
use Rattle.reader.specs.internal.Parts.{body_of}
use Rattle.records.specs.internal.Filling.{list_of, bells_held, BellTable, HoldsBells, HoldsNotes}
use Rattle.records.proofs.Outcomes.{was_ok, was_refused, passed_on}
use Rattle.reader.proofs.FileReading.{bells_stop, bells_read_holds, bells_ready, refused_filled, body_filled}
use Rattle.reader.proofs.read_body.Goals as goal
use Rattle.reader.proofs.read_body.Goals.{After-byte-n, In_ok-read_bells}

-- what is known once the bells are read
bells_taken : (c : In_ok-read_bells) → (bells : List Bell) × (bells_in (layout_of c.args.l) c.args.file.now ≡ ok bells)
bells_taken c = was_ok (bells_in (layout_of c.args.l) c.args.file.now) (sym c.read_bells.ensures.value ∙ c.in_ok-read_bells.was)

-- the table still has its length
room : (c : In_ok-read_bells) → phrase_words ≤ length c.read_bells.new.phrase
room c = omega (arith, c.read_bells.auto.phrase, c.requires.1)

-- the bells counted
counted : (c : After-byte-n) → c.byte-n.result ≡ number 1 (bell_count_at (layout_of c.args.l)) c.args.file.now
counted c =
    c.byte-n.ensures.0 ∙ ap (λ at. number 1 at c.args.file.now) c.bell_count_at.ensures

-- they are no more than the table has rows for
few : (c : After-byte-n) → c.byte-n.result ≤ most_bells
few c =
    let bells = (was_ok (bells_in (layout_of c.args.l) c.args.file.now) (sym c.read_bells.ensures.value ∙ c.in_ok-read_bells.was)) in
    let read = bells_read_holds c.args.l c.args.file.now bells.0 bells.1 in
    omega (arith, read.1, read.2, counted c)

-- the bells of the file are those of the table
ready : (c : After-byte-n) → (bells_in (layout_of c.args.l) c.args.file.now ≡ ok (bells_held c.read_bells.new.phrase c.byte-n.result)) × BellTable c.read_bells.new.phrase c.byte-n.result
ready c =
    let bells = (was_ok (bells_in (layout_of c.args.l) c.args.file.now) (sym c.read_bells.ensures.value ∙ c.in_ok-read_bells.was)) in
    let there = subst (λ o. HoldsBells (list_of o) c.read_bells.new.phrase) bells.1 c.read_bells.ensures.holds_bells in
    bells_ready c.args.l c.args.file.now c.read_bells.new.phrase bells.0 bells.1 there c.byte-n.result (counted c) (omega (arith, c.read_bells.auto.phrase, c.requires.1))

pub returns-in_err-read_bells : goal.returns-in_err-read_bells
returns-in_err-read_bells c = let a = c.args in
    let l = layout_of a.l in
    let s = a.file.now in
    let bells = c.read_bells in
    let e = was_refused (bells_in l s) _ (sym bells.ensures.value ∙ c.in_err-read_bells.was) in
    let r = refused_filled (body_of l s) _ _ bells.new.phrase (bells_stop a.l s _ _ e) in
    record { value = passed_on c.from_residual.ensures.1 ∙ r.0; filled = r.1 }

pub byte-n-requires : goal.byte-n-requires
byte-n-requires c = omega (arith, c.bell_count_at.ensures, (bells_read_holds c.args.l c.args.file.now (bells_taken (goal.at.byte-n-requires c).In_ok-read_bells).0 (bells_taken (goal.at.byte-n-requires c).In_ok-read_bells).1).0)

pub read_notes-requires : goal.read_notes-requires
read_notes-requires c = (c.shift_in.ensures.1, counted (goal.at.read_notes-requires c).After-byte-n, few (goal.at.read_notes-requires c).After-byte-n, room (goal.at.read_notes-requires c).In_ok-read_bells, (ready (goal.at.read_notes-requires c).After-byte-n).1)

pub returns : goal.returns
returns c = let notes = c.read_notes in
    let t = c.shift_in in
    let s = c.args.file.now in
    let bells = bells_held c.read_bells.new.phrase c.byte-n.result in
    let at : notes_in (layout_of c.args.l) s (shift_in (layout_of c.args.l) s) bells (note_count_at (layout_of c.args.l) (number 1 (bell_count_at (layout_of c.args.l)) s)) ≡ notes_in (layout_of c.args.l) s t.result bells (note_count_at (layout_of c.args.l) c.byte-n.result) =
    λ i. notes_in (layout_of c.args.l) s (sym t.ensures.0 i) bells (note_count_at (layout_of c.args.l) (sym (counted (goal.at.returns c).After-byte-n) i)) in
    let rows = subst (λ k. HoldsNotes k bells (list_of (notes_in (layout_of c.args.l) s t.result bells (note_count_at (layout_of c.args.l) c.byte-n.result))) notes.new.phrase) t.ensures.0 notes.ensures.holds_notes in
    let r = body_filled c.args.l s notes.new.phrase bells (ready (goal.at.returns c).After-byte-n).0 _ at notes.ensures.holds_bells rows in
    record { value = notes.ensures.value ∙ r.0; filled = r.1 }
