use mathlib.Core.Path.{◌≡◌, sym, ap, ◌∙◌}
use mathlib.Core.Bool.{true}
use native.Mathlib.Omega.{arith}
use Rattle.format.specs.Bytes.{within}
use Rattle.format.specs.Phrase.{sounding}
use Rattle.format.specs.Rules.{lowest_key, highest_key, is_transposition, is_execution_range, bell_in_range}
use Rattle.format.proofs.Passed.{within_true}
use Rattle.format.proofs.Ranges.{transposition_small}
use Rattle.fields.specs.internal.BellWith.{bell_with}
use Rattle.fields.proofs.rules.is_bell.Goals as goal
use Rattle.fields.proofs.rules.is_bell.Goals.{After-is_within-2, Else-not-is_execution_range, Else-not-is_transposition, Else-not-is_within, Else-not-is_within-2}

right_key : (c : Else-not-is_within) → within lowest_key highest_key c.args.written ≡ true
right_key c = sym c.is_within.ensures ∙ c.if-not-is_within.false

right_transposition : (c : Else-not-is_transposition) → is_transposition c.args.transposition ≡ true
right_transposition c = sym c.is_transposition.ensures ∙ c.if-not-is_transposition.false

sounds : (c : After-is_within-2) → c.is_within-2.result ≡ within lowest_key highest_key (sounding (bell_with c.args.written c.args.transposition c.args.least c.args.most c.args.rest c.args.priority))
unfolding sounding
sounds c = c.is_within-2.ensures ∙ ap (within lowest_key highest_key) c.transposed-key.ensures

right_sounding : (c : Else-not-is_within-2) → within lowest_key highest_key (sounding (bell_with c.args.written c.args.transposition c.args.least c.args.most c.args.rest c.args.priority)) ≡ true
unfolding sounding
right_sounding c = sym (c.is_within-2.ensures ∙ ap (within lowest_key highest_key) c.transposed-key.ensures) ∙ c.if-not-is_within-2.false

right_execution : (c : Else-not-is_execution_range) → is_execution_range c.args.least c.args.most ≡ true
right_execution c = sym c.is_execution_range.ensures ∙ c.if-not-is_execution_range.false

pub returns-then-not-is_within : goal.returns-then-not-is_within
unfolding bell_in_range
returns-then-not-is_within c = simp (sym c.is_within.ensures ∙ c.if-not-is_within.true)

pub returns-then-not-is_transposition : goal.returns-then-not-is_transposition
unfolding bell_in_range
returns-then-not-is_transposition c = simp (right_key (goal.at.returns-then-not-is_transposition c).Else-not-is_within, sym c.is_transposition.ensures ∙ c.if-not-is_transposition.true)

pub transposed-key-requires : goal.transposed-key-requires
transposed-key-requires c = let key = within_true lowest_key highest_key c.args.written (right_key (goal.at.transposed-key-requires c).Else-not-is_within) in
    (omega (arith, key.1), transposition_small c.args.transposition (right_transposition (goal.at.transposed-key-requires c).Else-not-is_transposition))

pub returns-then-not-is_within-2 : goal.returns-then-not-is_within-2
unfolding bell_in_range
returns-then-not-is_within-2 c = simp (right_key (goal.at.returns-then-not-is_within-2 c).Else-not-is_within, right_transposition (goal.at.returns-then-not-is_within-2 c).Else-not-is_transposition, sym (sounds (goal.at.returns-then-not-is_within-2 c).After-is_within-2) ∙ c.if-not-is_within-2.true)

pub returns-then-not-is_execution_range : goal.returns-then-not-is_execution_range
unfolding bell_in_range
returns-then-not-is_execution_range c = let range = sym c.is_execution_range.ensures ∙ c.if-not-is_execution_range.true in
    simp (right_key (goal.at.returns-then-not-is_execution_range c).Else-not-is_within, right_transposition (goal.at.returns-then-not-is_execution_range c).Else-not-is_transposition, right_sounding (goal.at.returns-then-not-is_execution_range c).Else-not-is_within-2, range)

pub returns-then-not-is_rest : goal.returns-then-not-is_rest
unfolding bell_in_range
returns-then-not-is_rest c = let rest = sym c.is_rest.ensures ∙ c.if-not-is_rest.true in
    simp (right_key (goal.at.returns-then-not-is_rest c).Else-not-is_within, right_transposition (goal.at.returns-then-not-is_rest c).Else-not-is_transposition, right_sounding (goal.at.returns-then-not-is_rest c).Else-not-is_within-2, right_execution (goal.at.returns-then-not-is_rest c).Else-not-is_execution_range, rest)

pub returns : goal.returns
unfolding bell_in_range
returns c = let rest = sym c.is_rest.ensures ∙ c.if-not-is_rest.false in
    simp (right_key (goal.at.returns c).Else-not-is_within, right_transposition (goal.at.returns c).Else-not-is_transposition, right_sounding (goal.at.returns c).Else-not-is_within-2, right_execution (goal.at.returns c).Else-not-is_execution_range, rest)
