use Prim.Native.Nat.{ℕ}
use mathlib.Core.Path.{◌≡◌}
use mathlib.Core.List.{List}
use lib.ListN.{drop}
use Rattle.format.specs.Rules.{rises}
use Rattle.fields.specs.internal.Numbers.{AreNumbers}
use Rattle.fields.proofs.notes.do_rise.Given as goal

abbrev pub invariant-loop-listed : goal.invariant-loop-listed
invariant-loop-listed g l = (numbers : List ℕ) → AreNumbers g.T.Into.converts l.jobs numbers
    → rises l.own l.low (drop l.listed-index numbers) ≡ rises l.own 0 numbers
