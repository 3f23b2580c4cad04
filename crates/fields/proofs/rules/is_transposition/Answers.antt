use borrow.Author.Tests.{le-leb, lt-leb}
use Rattle.format.specs.Rules.{is_transposition}
use Rattle.fields.proofs.rules.is_transposition.Goals as goal

pub returns-then-t-le-MOST_TRANSPOSED : goal.returns-then-t-le-MOST_TRANSPOSED
unfolding is_transposition
returns-then-t-le-MOST_TRANSPOSED c = simp (le-leb _ _ c.if-t-le-MOST_TRANSPOSED.true)

pub returns-else-t-le-MOST_TRANSPOSED : goal.returns-else-t-le-MOST_TRANSPOSED
unfolding is_transposition
returns-else-t-le-MOST_TRANSPOSED c = simp (lt-leb _ _ c.if-t-le-MOST_TRANSPOSED.false) c.is_within.ensures
