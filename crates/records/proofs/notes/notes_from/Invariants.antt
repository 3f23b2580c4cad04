use mathlib.Core.Path.{◌≡◌}
use Prim.Native.Nat.{◌≤◌}
use lib.ListN.{length}
use Rattle.records.specs.internal.Filling.{bells_held}
use Rattle.records.proofs.NoteReading.{Noted}
use Rattle.records.proofs.notes.notes_from.Given as goal

abbrev pub invariant-loop-i : goal.invariant-loop-i
invariant-loop-i l = (l.at ≤ length l.file)
    × (length l.phrase ≡ length l.initial.phrase)
    × Noted l.file l.shift (bells_held l.initial.phrase l.n) l.n l.count l.start l.i l.at l.phrase
