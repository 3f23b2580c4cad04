-- `put_text` meets its contract: a bell without strokes has no line.
use borrow.Author.Tests.{eq-eqb}
use Rattle.text.proofs.Writing.{written_nothing}
use Rattle.tally.proofs.bells.put_text.Goals as goal

pub returns-then-b-eq0 : goal.returns-then-b-eq0
returns-then-b-eq0 c = let a = c.args in
    rw (eq-eqb a.b.strokes 0 c.if-b-eq0.true) (written_nothing a.buffer.now a.at)
