use Prim.Native.Nat.{◌≤◌}
use mathlib.Core.Path.{◌≡◌, sym, ap, ◌∙◌}
use mathlib.Core.List.{[]}
use native.Mathlib.Omega.{arith}
use lib.ListN.{length, get_or}
use borrow.Author.Rules.{rules}
use Rattle.fields.proofs.Sizes.{sized}
use Rattle.std.specs.Prelude.{Err}
use Rattle.model.specs.Refusals.{wrong_bell_count}
use Rattle.format.specs.Bytes.{within}
use Rattle.format.specs.Layout.{most_bells}
use Rattle.format.specs.Rules.{bells_rules}
use Rattle.format.proofs.Passed.{within_true}
use Rattle.fields.specs.internal.Layouts.{layout_of}
use Rattle.rows.specs.PhraseTable.{bell_count_word, phrase_of}
use Rattle.rows.proofs.BellRow.{bells_length}
use Rattle.records.specs.internal.Answers.{reading_of}
use Rattle.rules.proofs.Counting.{wrong_count_holds, right_count}
use Rattle.rules.proofs.bells.ask_bells.Goals as goal
use Rattle.rules.proofs.bells.ask_bells.Goals.{After-is_within, Else-not-is_within}

-- the count in the header is that of the bells
counted : (c : After-is_within) → within 1 most_bells (length ((phrase_of c.args.phrase.now).bells)) ≡ c.is_within.result
counted c =
    let t = c.args.phrase.now in
    ap (within 1 most_bells) (bells_length t (get_or t bell_count_word 0)) ∙ sym c.is_within.ensures

few : (c : Else-not-is_within) → get_or c.args.phrase.now bell_count_word 0 ≤ most_bells
few c =
    let t = c.args.phrase.now in
    (within_true 1 most_bells (get_or t bell_count_word 0) (sym c.is_within.ensures ∙ c.if-not-is_within.false)).1

pub returns-then-not-is_within-clause-value : goal.returns-then-not-is_within-clause-value
returns-then-not-is_within-clause-value c = let wrong = wrong_count_holds (layout_of c.args.l) ((phrase_of c.args.phrase.now).bells) (counted (goal.at.returns-then-not-is_within-clause-value c).After-is_within ∙ c.if-not-is_within.true) in
    c.refuse.ensures ∙ ap (λ at. Err (record { number = wrong_bell_count; place = at })) c.bell_count_at.ensures ∙ ap reading_of (sym wrong)

pub bells_from-requires : goal.bells_from-requires
bells_from-requires c = (search rules, omega (arith, c.bells_at.ensures, (sized c.args.l).shift), few (goal.at.bells_from-requires c).Else-not-is_within, c.requires.0, c.requires.1)

pub returns-clause-value : goal.returns-clause-value
returns-clause-value c = let all = right_count (layout_of c.args.l) ((phrase_of c.args.phrase.now).bells) (counted (goal.at.returns-clause-value c).After-is_within ∙ c.if-not-is_within.false) in
    c.bells_from.ensures.value ∙ ap (λ k. reading_of (bells_rules (layout_of c.args.l) ((phrase_of c.args.phrase.now).bells) k [])) c.bells_at.ensures ∙ ap reading_of (sym all)
