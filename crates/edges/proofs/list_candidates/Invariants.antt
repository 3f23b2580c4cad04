-- The loop's invariant: the first n bytes are the candidates below j.
use Prim.Native.Nat.{◌≤◌, min}
use mathlib.Core.Path.{◌≡◌}
use mathlib.Core.List.{List}
use lib.ListN.{length, take}
use Rattle.model.specs.Jobs.{Job}
use Rattle.states.specs.internal.Slots.{state_of}
use Rattle.edges.specs.internal.Edges.{PredecessorSets, candidates}
use Rattle.edges.proofs.list_candidates.Given as goal

abbrev pub invariant-loop-j : goal.invariant-loop-j
invariant-loop-j l = (l.n ≤ min l.j l.k) × (length l.list ≡ length l.initial.list) × ((js : List Job) → PredecessorSets js l.k l.sets → take l.n l.list ≡ candidates js (state_of l.m l.k l.s) (min l.j l.k))
