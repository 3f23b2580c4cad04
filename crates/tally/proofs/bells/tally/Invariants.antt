use mathlib.Core.Path.{◌≡◌}
use Rattle.tally.specs.internal.Counted.{tallied}
use Rattle.tally.proofs.bells.tally.Given as goal

abbrev pub invariant-loop-i : goal.invariant-loop-i
invariant-loop-i l = l.counts ≡ tallied l.phrase l.i
