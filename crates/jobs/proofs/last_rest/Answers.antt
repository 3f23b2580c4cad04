use mathlib.Core.Path.{sym, ◌∙◌}
use Rattle.jobs.proofs.Rests.{no_rest, all_listed, one_unlisted}
use Rattle.jobs.proofs.last_rest.Goals as goal

pub returns-then-rest-eq0 : goal.returns-then-rest-eq0
returns-then-rest-eq0 c = sym (no_rest c.args.rows.now c.args.k c.args.i c.requires.0 c.requires.1 (sym c.word_at-rest.ensures ∙ c.if-rest-eq0.true))

pub returns-then-word_at : goal.returns-then-word_at
returns-then-word_at c = let same = sym c.word_at.ensures ∙ c.if-word_at.true ∙ c.word_at-2.ensures in
    sym (all_listed c.args.rows.now c.args.k c.args.i c.requires.0 c.requires.1 same)

pub returns : goal.returns
returns c = c.word_at-rest.ensures
    ∙ sym (one_unlisted c.args.rows.now c.args.k c.args.i c.requires.0 c.requires.1 (λ e. c.if-word_at.false (c.word_at.ensures ∙ e ∙ sym c.word_at-2.ensures)))
