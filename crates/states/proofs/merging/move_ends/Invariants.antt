use Rattle.states.proofs.Pairs.{ZippedUpTo}
use Rattle.states.proofs.merging.move_ends.Given as goal

abbrev pub invariant-loop-i : goal.invariant-loop-i
invariant-loop-i g l = ZippedUpTo g.E.End.outer_of l.initial.d l.s l.d l.i
