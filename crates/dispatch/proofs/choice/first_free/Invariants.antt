use Prim.Native.Nat.{◌<◌}
use Rattle.dispatch.specs.internal.Choice.{IsFirst}
use Rattle.dispatch.proofs.choice.first_free.Given as goal

abbrev pub invariant-loop-c : goal.invariant-loop-c
invariant-loop-c l = (l.first < l.c) × IsFirst l.cores l.c l.first
