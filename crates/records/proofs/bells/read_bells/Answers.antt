-- Each way out is a case of `bells_in`.
use mathlib.Core.Path.{◌≡◌, sym, ap, ◌∙◌}
use native.Mathlib.Omega.{arith}
use mathlib.Core.List.{[]}
use mathlib.Core.Bool.{true, false}
use Rattle.fields.proofs.Sizes.{sized}
use Rattle.model.specs.Refusals.{wrong_end, wrong_bell_count}
use Rattle.format.specs.Bytes.{number, within}
use Rattle.format.specs.Layout.{bell_count_at, bells_at, most_bells}
use Rattle.format.specs.Outcome.{refused}
use Rattle.format.specs.Reading.{bells_from}
use Rattle.fields.specs.internal.Layouts.{layout_of}
use Rattle.records.specs.internal.Filling.{list_of, HoldsBells}
use Rattle.records.proofs.Outcomes.{carried}
use Rattle.rows.proofs.BellRow.{begins_none}
use Rattle.format.proofs.Passed.{within_true}
use Rattle.records.proofs.BellReading.{no_count, bad_count, right_count}
use Rattle.records.proofs.bells.read_bells.Goals as goal
use Rattle.records.proofs.bells.read_bells.Goals.{After-byte-count, After-is_within, Else-not-is_within}

counted : (c : After-byte-count) → c.byte-count.result ≡ (number 1 (bell_count_at (layout_of c.args.l)) c.args.file.now)
counted c =
    c.byte-count.ensures.0 ∙ ap (λ at. number 1 at c.args.file.now) c.bell_count_at-at.ensures

tested : (c : After-is_within) → c.is_within.result ≡ within 1 most_bells (number 1 (bell_count_at (layout_of c.args.l)) c.args.file.now)
tested c = c.is_within.ensures ∙ ap (within 1 most_bells) (c.byte-count.ensures.0 ∙ ap (λ at. number 1 at c.args.file.now) c.bell_count_at-at.ensures)

in_range_holds : (c : Else-not-is_within) → within 1 most_bells (number 1 (bell_count_at (layout_of c.args.l)) c.args.file.now) ≡ true
in_range_holds c = sym (c.is_within.ensures ∙ ap (within 1 most_bells) (c.byte-count.ensures.0 ∙ ap (λ at. number 1 at c.args.file.now) c.bell_count_at-at.ensures)) ∙ c.if-not-is_within.false

pub returns-then-file-at : goal.returns-then-file-at
returns-then-file-at c = let a = c.args in
    let t = a.phrase.now in
    let e = c.bell_count_at-at.ensures in
    let both = carried (λ o. HoldsBells (list_of o) t) (no_count (layout_of c.args.l) a.file.now (omega (arith, e)) ∙ ap (refused wrong_end) (sym e)) (begins_none t) in record { value = c.refuse.ensures ∙ both.0; holds_bells = both.1 }

pub returns-then-not-is_within : goal.returns-then-not-is_within
returns-then-not-is_within c = let a = c.args in
    let t = a.phrase.now in
    let e = c.bell_count_at-at.ensures in
    let wrong : within 1 most_bells (number 1 (bell_count_at (layout_of c.args.l)) c.args.file.now) ≡ false = sym (tested (goal.at.returns-then-not-is_within c).After-is_within) ∙ c.if-not-is_within.true in
    let both = carried (λ o. HoldsBells (list_of o) t)
    (bad_count (layout_of c.args.l) a.file.now (omega (arith, e, c.if-file-at.false)) wrong ∙ ap (refused wrong_bell_count) (sym e)) (begins_none t) in record { value = c.refuse-then-not-is_within.ensures ∙ both.0; holds_bells = both.1 }

pub bells_from-requires : goal.bells_from-requires
bells_from-requires c = let bounds = within_true 1 most_bells (number 1 (bell_count_at (layout_of c.args.l)) c.args.file.now) (in_range_holds (goal.at.bells_from-requires c).Else-not-is_within) in (
  omega (arith, c.bells_at.ensures, c.bell_count_at-at.ensures, c.if-file-at.false),
  omega (arith, c.bells_at.ensures, (sized c.args.l).shift),
  omega (arith, bounds.1, counted (goal.at.bells_from-requires c).After-byte-count),
  omega arith,
)

pub returns : goal.returns
returns c = let s = c.args.file.now in
    let those = right_count (layout_of c.args.l) s (omega (arith, c.bell_count_at-at.ensures, c.if-file-at.false)) (in_range_holds (goal.at.returns c).Else-not-is_within) in
    let cast : bells_from (layout_of c.args.l) s (number 1 (bell_count_at (layout_of c.args.l)) c.args.file.now) (bells_at (layout_of c.args.l)) [] ≡ bells_from (layout_of c.args.l) s c.byte-count.result c.bells_at.result [] =
    λ i. bells_from (layout_of c.args.l) s (sym (counted (goal.at.returns c).After-byte-count) i) (sym c.bells_at.ensures i) [] in
    let q = carried (λ o. HoldsBells (list_of o) c.bells_from.new.phrase) (those ∙ cast) c.bells_from.ensures.holds_bells in
    record { value = c.bells_from.ensures.value ∙ q.0; holds_bells = q.1 }
