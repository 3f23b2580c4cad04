-- Each way out is a case of `note_record`.
use mathlib.Core.Path.{◌≡◌, refl, sym, ap, ◌∙◌}
use mathlib.Core.Bool.{true}
use Prim.Native.Nat.{◌<◌}
use native.Mathlib.Omega.{arith}
use lib.ListN.{length}
use Rattle.format.specs.Bytes.{number}
use Rattle.format.specs.Layout.{first, is_note_length}
use Rattle.format.proofs.Steps.{no_length, bad_length, cut, there}
use Rattle.records.specs.internal.Filling.{bells_held, note_put}
use Rattle.records.proofs.Outcomes.{carried}
use Rattle.records.proofs.notes.read_note.Goals as goal
use Rattle.records.proofs.notes.read_note.Goals.{After-is_note_length, Else-not-is_note_length, Else-part-size}

tested : (c : After-is_note_length) → c.is_note_length.result ≡ is_note_length first (number 1 0 c.args.part.now)
tested c = c.is_note_length.ensures ∙ ap (is_note_length first) c.byte-size.ensures.0

sized : (c : Else-not-is_note_length) → is_note_length first (number 1 0 c.args.part.now) ≡ true
sized c = sym (c.is_note_length.ensures ∙ ap (is_note_length first) c.byte-size.ensures.0) ∙ c.if-not-is_note_length.false

whole : (c : Else-part-size) → let p = c.args.part.now in number 1 0 p < length p
whole c = omega (arith, c.if-part-size.false, c.byte-size.ensures.0)

pub returns-then-part-lt1 : goal.returns-then-part-lt1
returns-then-part-lt1 c = let a = c.args in
    let t = a.phrase.now in
    let bs = bells_held t a.n in
    let both = carried (λ o. t ≡ note_put a.shift bs o t a.own) (no_length first a.shift bs a.own a.at a.part.now c.if-part-lt1.true) refl in record { value = c.refuse.ensures ∙ both.0; phrase_after = both.1 }

pub returns-then-not-is_note_length : goal.returns-then-not-is_note_length
returns-then-not-is_note_length c = let a = c.args in
    let t = a.phrase.now in
    let bs = bells_held t a.n in
    let wrong = sym (tested (goal.at.returns-then-not-is_note_length c).After-is_note_length) ∙ c.if-not-is_note_length.true in
    let both = carried (λ o. t ≡ note_put a.shift bs o t a.own) (bad_length first a.shift bs a.own a.at a.part.now c.if-part-lt1.false wrong) refl in record { value = c.refuse-then-not-is_note_length.ensures ∙ both.0; phrase_after = both.1 }

pub returns-then-part-size : goal.returns-then-part-size
returns-then-part-size c = let a = c.args in
    let t = a.phrase.now in
    let bs = bells_held t a.n in
    let both = carried (λ o. t ≡ note_put a.shift bs o t a.own) (cut first a.shift bs a.own a.at a.part.now c.if-part-lt1.false (sized (goal.at.returns-then-part-size c).Else-not-is_note_length) (omega (arith, c.if-part-size.true, c.byte-size.ensures.0))) refl in record { value = c.refuse-then-part-size.ensures ∙ both.0; phrase_after = both.1 }

pub returns : goal.returns
returns c = let a = c.args in
    let t = a.phrase.now in
    let bs = bells_held t a.n in
    let e = there first a.shift bs a.own a.at a.part.now c.if-part-lt1.false (sized (goal.at.returns c).Else-not-is_note_length) (whole (goal.at.returns c).Else-part-size) in
    let q = carried (λ o. c.note_fields.new.phrase ≡ note_put a.shift bs o t a.own) e c.note_fields.ensures.phrase_after in
    record { value = c.note_fields.ensures.value ∙ q.0; phrase_after = q.1 }
