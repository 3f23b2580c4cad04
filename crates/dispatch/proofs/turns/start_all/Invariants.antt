use mathlib.Core.Path.{◌≡◌}
use lib.ListN.{length}
use Rattle.dispatch.specs.internal.Turns.{Turn, unstarted_in}
use Rattle.dispatch.proofs.turns.start_all.Given as goal

abbrev pub invariant-loop : goal.invariant-loop
invariant-loop l = (length l.cores ≡ length l.initial.cores) × Turn l.rows l.k l.playing l.starts l.finishes l.wakes l.cores

abbrev pub decreases-loop : goal.decreases-loop
decreases-loop l = unstarted_in l.finishes l.k
