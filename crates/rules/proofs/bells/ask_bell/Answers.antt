-- `bells::ask_bell` meets its contract, whatever bells the marks tell of.
use mathlib.Core.Path.{◌≡◌, sym, ap, subst, ◌∙◌}
use mathlib.Core.Bool.{true, false}
use mathlib.Core.List.{List, [], ◌∷◌, ◌++◌}
use native.Mathlib.Omega.{arith}
use lib.ListN.{get_or, set}
use Rattle.format.specs.Phrase.{Bell, sounding, find_sounding, is_some}
use Rattle.format.specs.Rules.{bell_in_range}
use Rattle.format.proofs.Ranges.{bell_ranges}
use Rattle.format.proofs.Steps.{outside, doubled, whole}
use Rattle.fields.specs.internal.Layouts.{layout_of}
use Rattle.rows.specs.BellRow.{bell_of_row}
use Rattle.records.specs.internal.Answers.{reading_of}
use Rattle.rules.specs.internal.Asking.{Sounded}
use Rattle.rules.proofs.Marks.{some_there, none_there, sounded_more}
use Rattle.rules.proofs.bells.ask_bell.Goals as goal
use Rattle.rules.proofs.bells.ask_bell.Goals.{After-is_sounded, Else-not-is_bell}

ranged : (c : Else-not-is_bell) → bell_in_range (layout_of c.args.l) (bell_of_row c.args.row.now) ≡ true
ranged c = sym c.is_bell.ensures ∙ c.if-not-is_bell.false

sounds : (c : After-is_sounded) → c.transposed-key.result ≡ sounding (bell_of_row c.args.row.now)
unfolding sounding
sounds c = c.transposed-key.ensures

-- the mark of its key, by the bells that the marks tell of
told : (c : After-is_sounded) (before : List Bell) → Sounded before c.args.sounded.now
    → c.is_sounded.result ≡ is_some (find_sounding (sounding (bell_of_row c.args.row.now)) before)
told c before s =
    let marks = c.args.sounded.now in
    c.is_sounded.ensures ∙ ap (λ k. get_or marks k false) (sounds c) ∙ s (sounding (bell_of_row c.args.row.now))

pub returns-then-not-is_bell-clause-value : goal.returns-then-not-is_bell-clause-value
returns-then-not-is_bell-clause-value c before s =
    c.refuse.ensures ∙ ap reading_of (sym (outside (layout_of c.args.l) before c.args.at (bell_of_row c.args.row.now) (sym c.is_bell.ensures ∙ c.if-not-is_bell.true)))

pub transposed-key-requires : goal.transposed-key-requires
transposed-key-requires c = let r = bell_ranges (layout_of c.args.l) (bell_of_row c.args.row.now) (ranged c) in (omega (arith, r.written), r.transposition)

pub returns-then-is_sounded-clause-value : goal.returns-then-is_sounded-clause-value
returns-then-is_sounded-clause-value c before s =
    let at = goal.at.returns-then-is_sounded-clause-value c in
    let f = some_there _ (sym (told at.After-is_sounded before s) ∙ c.if-is_sounded.true) in
    c.refuse-then-is_sounded.ensures
    ∙ ap reading_of (sym (doubled (layout_of c.args.l) before c.args.at (bell_of_row c.args.row.now) (ranged at.Else-not-is_bell) f.0 f.1))

pub bounds-sounded-key : goal.bounds-sounded-key
bounds-sounded-key c = let r = bell_ranges (layout_of c.args.l) (bell_of_row c.args.row.now) (ranged (goal.at.bounds-sounded-key c).Else-not-is_bell) in
    omega (arith, r.sounds, sounds (goal.at.bounds-sounded-key c).After-is_sounded, c.requires.1)

pub returns-clause-value : goal.returns-clause-value
returns-clause-value c before s =
    let at = goal.at.returns-clause-value c in
    let new = none_there _ (sym (told at.After-is_sounded before s) ∙ c.if-is_sounded.false) in
    ap reading_of (sym (whole (layout_of c.args.l) before c.args.at (bell_of_row c.args.row.now) (ranged at.Else-not-is_bell) new))

pub returns-clause-sounded : goal.returns-clause-sounded
returns-clause-sounded c e before s =
    let at = goal.at.returns-clause-sounded c in
    let marks = c.args.sounded.now in
    let r = bell_ranges (layout_of c.args.l) (bell_of_row c.args.row.now) (ranged at.Else-not-is_bell) in
    subst (λ k. Sounded (before ++ (bell_of_row c.args.row.now) ∷ []) (set marks k true)) (sym (sounds at.After-is_sounded))
    (sounded_more before (bell_of_row c.args.row.now) marks s (omega (arith, r.sounds, c.requires.1)))
