use Prim.Native.Nat.{◌+◌, max}
use mathlib.Core.Path.{◌≡◌}
use mathlib.Core.List.{◌++◌, map}
use lib.ListN.{length, take, drop}
use Rattle.states.proofs.Sorting.{carried}
use Rattle.states.proofs.starting.update_availability.Given as goal

abbrev pub invariant-loop-j : goal.invariant-loop-j
invariant-loop-j l = (length l.l ≡ length l.initial.l) × (carried l.f (map (max l.s) (drop 1 l.initial.l)) ≡ take l.j l.l ++ carried l.carried (map (max l.s) (drop (l.j + 1) l.l)))
