-- The loop's invariant: each predecessor is in the set or left.
use Prim.Native.Nat.{ℕ, ◌<◌}
use mathlib.Core.Path.{◌≡◌}
use mathlib.Core.Bool.{true, ◌||◌}
use lib.ListN.{drop}
use Rattle.model.specs.Folds.{member}
use Rattle.model.specs.Jobs.{predecessors}
use Rattle.jobs.specs.internal.JobRow.{jobs_of_rows}
use Rattle.states.specs.internal.Slots.{in_set}
use Rattle.edges.proofs.predecessor_set.Given as goal

abbrev pub invariant-loop-j : goal.invariant-loop-j
invariant-loop-j l = ((w : ℕ) → member w (predecessors (jobs_of_rows l.rows l.k) l.i) ≡ (in_set l.set w || member w (drop l.j (predecessors (jobs_of_rows l.rows l.k) l.i))))
    × ((w : ℕ) → in_set l.set w ≡ true → w < l.i)
