-- Each way out is a case of `note_rules`.
use mathlib.Core.Path.{sym, ap, ◌∙◌}
use Rattle.format.proofs.Steps.{bad_times, no_bell_holds, bad_listed, right}
use Rattle.records.specs.internal.Answers.{reading_of}
use Rattle.records.proofs.notes.first_broken.Goals as goal

pub returns-then-not-timely : goal.returns-then-not-timely
returns-then-not-timely c = let a = c.args in
    λ shift bells own n t s r.
    c.refuse.ensures ∙ ap reading_of (sym (bad_times shift bells own a.at n (sym t ∙ c.if-not-timely.true)))

pub returns-then-not-struck : goal.returns-then-not-struck
returns-then-not-struck c = let a = c.args in
    λ shift bells own n t s r.
    c.refuse-then-not-struck.ensures ∙ ap reading_of (sym (no_bell_holds shift bells own a.at n (sym t ∙ c.if-not-timely.false) (sym s ∙ c.if-not-struck.true)))

pub returns-then-not-rising : goal.returns-then-not-rising
returns-then-not-rising c = let a = c.args in
    λ shift bells own n t s r.
    c.refuse-then-not-rising.ensures ∙ ap reading_of
    (sym (bad_listed shift bells own a.at n (sym t ∙ c.if-not-timely.false) (sym s ∙ c.if-not-struck.false)
    (sym r ∙ c.if-not-rising.true)))

pub returns : goal.returns
returns c = let a = c.args in
    λ shift bells own n t s r.
    ap reading_of
    (sym (right shift bells own a.at n (sym t ∙ c.if-not-timely.false) (sym s ∙ c.if-not-struck.false)
    (sym r ∙ c.if-not-rising.false)))
