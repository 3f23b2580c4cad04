use Prim.Native.Nat.{◌-◌, ◌≤◌}
use Rattle.store.specs.internal.Half.{NoneMerges}
use Rattle.store.proofs.find_merging.Given as goal

abbrev pub invariant-loop-j : goal.invariant-loop-j
invariant-loop-j l = (l.from ≤ l.n) × NoneMerges l.m l.k l.half l.new l.from

abbrev pub decreases-loop-j : goal.decreases-loop-j
decreases-loop-j l = l.n - l.from
