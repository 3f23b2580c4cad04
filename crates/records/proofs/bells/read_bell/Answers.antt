-- Each way out is a case of `bell_record`.
use Prim.Native.Nat.{◌≤◌, ◌<◌}
use mathlib.Core.Path.{◌≡◌, refl, sym, ap, ◌∙◌}
use native.Mathlib.Omega.{arith}
use lib.ListN.{length}
use mathlib.Core.Bool.{true, false}
use Rattle.std.specs.Prelude.{is_some}
use Rattle.format.specs.Layout.{bell_bytes}
use Rattle.format.specs.Phrase.{sounding, find_sounding}
use Rattle.format.specs.Rules.{bell_in_range}
use Rattle.format.specs.Reading.{bell_in}
use Rattle.fields.specs.internal.Layouts.{layout_of}
use Rattle.records.specs.internal.Answers.{found_of}
use Rattle.records.specs.internal.Filling.{bells_held, bell_put}
use Rattle.records.proofs.Outcomes.{carried, found, not_found}
use Rattle.records.proofs.BellReading.{outside, doubled, whole}
use Rattle.format.proofs.Steps.{short}
use Rattle.records.proofs.bells.read_bell.Goals as goal
use Rattle.records.proofs.bells.read_bell.Goals.{After-find_sounding, After-is_in_range, Else-not-is_in_range}

ranged : (c : Else-not-is_in_range) → bell_in_range (layout_of c.args.l) (bell_in (layout_of c.args.l) c.args.part.now) ≡ true
ranged c = sym c.is_in_range.ensures ∙ c.if-not-is_in_range.false

looked : (c : After-find_sounding) → c.find_sounding.result ≡ found_of (find_sounding (sounding (bell_in (layout_of c.args.l) c.args.part.now)) (bells_held c.args.phrase.now c.args.i))
looked c =
    c.find_sounding.ensures ∙ ap (λ k. found_of (find_sounding k (bells_held c.args.phrase.now c.args.i))) c.sounding_key-key.ensures

-- the record has all its bytes
there : (c : After-is_in_range) → bell_bytes (layout_of c.args.l) ≤ length c.args.part.now
there c = omega (arith, c.if-part-bell_bytes.false, c.bell_bytes.ensures)

pub returns-then-part-bell_bytes : goal.returns-then-part-bell_bytes
returns-then-part-bell_bytes c = let a = c.args in
    let t = a.phrase.now in
    let less : length a.part.now < bell_bytes (layout_of a.l) = omega (arith, c.if-part-bell_bytes.true, c.bell_bytes.ensures) in
    let both = carried (λ o. t ≡ bell_put o t a.i) (short (layout_of a.l) (bells_held t a.i) a.at a.part.now less) refl in record { value = c.refuse.ensures ∙ both.0; phrase_after = both.1 }

pub returns-then-not-is_in_range : goal.returns-then-not-is_in_range
returns-then-not-is_in_range c = let a = c.args in
    let t = a.phrase.now in
    let r : bell_in_range (layout_of c.args.l) (bell_in (layout_of c.args.l) c.args.part.now) ≡ false = sym c.is_in_range.ensures ∙ c.if-not-is_in_range.true in
    let both = carried (λ o. t ≡ bell_put o t a.i) (outside (layout_of c.args.l) (bells_held c.args.phrase.now c.args.i) a.at a.part.now (there (goal.at.returns-then-not-is_in_range c).After-is_in_range) r) refl in record { value = c.refuse-then-not-is_in_range.ensures ∙ both.0; phrase_after = both.1 }

pub returns-then-is_some : goal.returns-then-is_some
returns-then-is_some c = let a = c.args in
    let t = a.phrase.now in
    let f = found (find_sounding (sounding (bell_in (layout_of c.args.l) c.args.part.now)) (bells_held c.args.phrase.now c.args.i)) (ap is_some (sym (looked (goal.at.returns-then-is_some c).After-find_sounding)) ∙ sym c.is_some.ensures ∙ c.if-is_some.true) in
    let both = carried (λ o. t ≡ bell_put o t a.i) (doubled (layout_of c.args.l) (bells_held c.args.phrase.now c.args.i) a.at a.part.now (there (goal.at.returns-then-is_some c).After-is_in_range) (ranged (goal.at.returns-then-is_some c).Else-not-is_in_range) f.0 f.1) refl in record { value = c.refuse-then-is_some.ensures ∙ both.0; phrase_after = both.1 }

pub returns : goal.returns
returns c = let a = c.args in
    let f = not_found (find_sounding (sounding (bell_in (layout_of c.args.l) c.args.part.now)) (bells_held c.args.phrase.now c.args.i)) (ap is_some (sym (looked (goal.at.returns c).After-find_sounding)) ∙ sym c.is_some.ensures ∙ c.if-is_some.false) in
    let read = whole (layout_of c.args.l) (bells_held c.args.phrase.now c.args.i) a.at a.part.now (there (goal.at.returns c).After-is_in_range) (ranged (goal.at.returns c).Else-not-is_in_range) f in
    let both = carried (λ o. c.put_bell.new.phrase ≡ bell_put o a.phrase.now a.i) read c.put_bell.ensures in record { value = both.0; phrase_after = both.1 }
