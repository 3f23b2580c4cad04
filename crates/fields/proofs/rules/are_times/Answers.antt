use borrow.Author.Tests.{le-leb, lt-leb}
use Rattle.format.specs.Rules.{are_times}
use Rattle.fields.proofs.rules.are_times.Goals as goal

pub returns-then-latest-earliest : goal.returns-then-latest-earliest
unfolding are_times
returns-then-latest-earliest c = simp (lt-leb _ _ c.if-latest-earliest.true)

pub returns-then-latest-gt-LATEST_TIME : goal.returns-then-latest-gt-LATEST_TIME
unfolding are_times
returns-then-latest-gt-LATEST_TIME c = simp (le-leb _ _ c.if-latest-earliest.false, lt-leb _ _ c.if-latest-gt-LATEST_TIME.true)

pub returns : goal.returns
unfolding are_times
returns c = simp (le-leb _ _ c.if-latest-earliest.false, le-leb _ _ c.if-latest-gt-LATEST_TIME.false)
