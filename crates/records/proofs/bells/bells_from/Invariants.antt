use mathlib.Core.Path.{◌≡◌}
use Prim.Native.Nat.{◌-◌, ◌≤◌}
use mathlib.Core.List.{[]}
use lib.ListN.{length}
use Rattle.format.specs.Reading.{bells_from}
use Rattle.fields.specs.internal.Layouts.{layout_of}
use Rattle.records.specs.internal.Filling.{bells_held, BellTable}
use Rattle.records.proofs.bells.bells_from.Given as goal

abbrev pub invariant-loop-i : goal.invariant-loop-i
invariant-loop-i l = (l.at ≤ length l.file)
    × (length l.phrase ≡ length l.initial.phrase)
    × BellTable l.phrase l.i
    × (bells_from (layout_of l.l) l.file (l.n - l.i) l.at (bells_held l.phrase l.i) ≡ bells_from (layout_of l.l) l.file l.n l.start [])
