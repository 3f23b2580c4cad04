use borrow.Author.Tests.{le-leb, lt-leb}
use Rattle.format.specs.Bytes.{within}
use Rattle.fields.proofs.rules.is_within.Goals as goal

pub returns-then-low-x : goal.returns-then-low-x
unfolding within
returns-then-low-x c = simp (le-leb _ _ c.if-low-x.true)

pub returns-else-low-x : goal.returns-else-low-x
unfolding within
returns-else-low-x c = simp (lt-leb _ _ c.if-low-x.false)
