use borrow.Author.Tests.{le-leb, lt-leb}
use Rattle.format.specs.Rules.{is_execution_range}
use Rattle.fields.proofs.rules.is_execution_range.Goals as goal

pub returns-then-least-lt1 : goal.returns-then-least-lt1
unfolding is_execution_range
returns-then-least-lt1 c = simp (lt-leb _ _ c.if-least-lt1.true)

pub returns-then-most-least : goal.returns-then-most-least
unfolding is_execution_range
returns-then-most-least c = simp (le-leb _ _ c.if-least-lt1.false, lt-leb _ _ c.if-most-least.true)

pub returns : goal.returns
unfolding is_execution_range
returns c = simp (le-leb _ _ c.if-least-lt1.false, le-leb _ _ c.if-most-least.false)
