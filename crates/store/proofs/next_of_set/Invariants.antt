use Prim.Native.Nat.{ℕ, ◌≤◌, ◌<◌}
use mathlib.Core.Path.{◌≡◌}
use Rattle.states.specs.internal.Slots.{set_of, slot_of}
use Rattle.store.proofs.next_of_set.Given as goal

abbrev pub invariant-loop-j : goal.invariant-loop-j
invariant-loop-j l = (i : ℕ) → i < l.j → l.from ≤ i → set_of (slot_of l.m l.k l.half i) ≡ l.set → ⊥
