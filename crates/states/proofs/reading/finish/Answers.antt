-- `finish` meets its contract.
use mathlib.Core.Path.{sym, ap, ◌∙◌}
use mathlib.Core.Bool.{true}
use Rattle.states.proofs.Contents.{finish_in_holds}
use Rattle.states.proofs.reading.finish.Goals as goal

pub returns-then-is_started : goal.returns-then-is_started
returns-then-is_started g c = let a = c.args in
    let range = finish_in_holds a.m a.k a.s.now a.i c.requires.0 true (sym c.is_started.ensures ∙ c.if-is_started.true) in
    rw c.first_word.ensures (sym (ap g.E.End.of range ∙ g.met.E.End.read a.m a.k a.s.now a.i))
