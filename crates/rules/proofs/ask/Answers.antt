use Prim.Native.Nat.{ℕ}
use mathlib.Core.Path.{◌≡◌, refl, sym, ap, ◌∙◌}
use mathlib.Core.Bool.{true}
use lib.ListN.{length}
use Rattle.model.specs.Limits.{most_cores}
use Rattle.format.specs.Bytes.{within}
use Rattle.format.specs.Layout.{is_version, layout}
use Rattle.format.specs.Phrase.{Phrase}
use Rattle.format.specs.Writing.{written}
use Rattle.format.proofs.Versions.{versions_are}
use Rattle.fields.specs.internal.Layouts.{layout_of}
use Rattle.rows.specs.PhraseTable.{phrase_of}
use Rattle.rules.specs.internal.Answers.{end_of}
use Rattle.rules.specs.internal.Asking.{body_asked}
use Rattle.rules.proofs.Wholes.{ends, wrong_version_holds, wrong_cores_holds, wrong_shift_holds, right_shift}
use Rattle.rules.proofs.ask.Goals as goal
use Rattle.rules.proofs.ask.Goals.{After-is_within, After-of-l, Else-not-is_within, Else-not-is_within-2}

abbrev end : Phrase → ℕ
end x = length (written x)

is_version_holds : (c : After-is_within) → is_version (phrase_of c.args.phrase.now).version ≡ c.is_within.result
is_version_holds c = versions_are (phrase_of c.args.phrase.now).version ∙ sym c.is_within.ensures

versioned : (c : Else-not-is_within) → is_version (phrase_of c.args.phrase.now).version ≡ true
versioned c = (versions_are (phrase_of c.args.phrase.now).version ∙ sym c.is_within.ensures) ∙ c.if-not-is_within.false

right_cores : (c : Else-not-is_within-2) → within 1 most_cores (phrase_of c.args.phrase.now).cores ≡ true
right_cores c = sym c.is_within-2.ensures ∙ c.if-not-is_within-2.false

pub returns-then-not-is_within : goal.returns-then-not-is_within
returns-then-not-is_within c = let x = (phrase_of c.args.phrase.now) in
    c.refuse.ensures ∙ ap (λ o. end_of o (end x)) (sym (wrong_version_holds x (is_version_holds (goal.at.returns-then-not-is_within c).After-is_within ∙ c.if-not-is_within.true)))

pub returns-then-not-is_within-2 : goal.returns-then-not-is_within-2
returns-then-not-is_within-2 c = let x = (phrase_of c.args.phrase.now) in
    let wrong = sym c.is_within-2.ensures ∙ c.if-not-is_within-2.true in
    c.refuse-then-not-is_within-2.ensures ∙ ap (λ o. end_of o (end x)) (sym (wrong_cores_holds (layout x.version) x refl (versioned (goal.at.returns-then-not-is_within-2 c).Else-not-is_within) wrong))

pub of-l-requires : goal.of-l-requires
of-l-requires c = versioned (goal.at.of-l-requires c).Else-not-is_within

pub returns-then-not-is_shift : goal.returns-then-not-is_shift
returns-then-not-is_shift c = let x = ((phrase_of c.args.phrase.now)) in
    let wrong = sym c.is_shift.ensures ∙ c.if-not-is_shift.true in
    c.refuse-then-not-is_shift.ensures
    ∙ ap (λ o. end_of o (end x))
    (sym (wrong_shift_holds (layout_of c.of-l.result) x (sym c.of-l.ensures) (versioned (goal.at.returns-then-not-is_shift c).Else-not-is_within) (right_cores (goal.at.returns-then-not-is_shift c).Else-not-is_within-2) wrong))

pub ask_body-requires : goal.ask_body-requires
ask_body-requires c = sym c.is_shift.ensures ∙ c.if-not-is_shift.false

pub returns : goal.returns
returns c = let x = ((phrase_of c.args.phrase.now)) in
    let same = sym c.of-l.ensures in
    let right = sym c.is_shift.ensures ∙ c.if-not-is_shift.false in
    c.ask_body.ensures
    ∙ ap (λ k. end_of (body_asked (layout_of c.of-l.result) x) k) (sym (ends (layout_of c.of-l.result) x same refl))
    ∙ sym (right_shift (layout_of c.of-l.result) x same (versioned (goal.at.returns c).Else-not-is_within) (right_cores (goal.at.returns c).Else-not-is_within-2) right (end x))
