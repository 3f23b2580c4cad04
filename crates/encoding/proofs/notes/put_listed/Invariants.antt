use Prim.Native.Nat.{◌+◌}
use mathlib.Core.Path.{◌≡◌}
use lib.ListN.{length, take, replicate}
use Rattle.words.specs.internal.Placed.{placed}
use Rattle.format.specs.Bytes.{fields_file}
use Rattle.format.specs.Layout.{note_bytes}
use Rattle.encoding.proofs.Listed.{rest}
use Rattle.encoding.proofs.notes.put_listed.Given as goal

abbrev pub invariant-loop-i : goal.invariant-loop-i
invariant-loop-i l = (length l.part ≡ length l.initial.part)
    × (rest l.jobs l.count (1 + note_bytes) l.part l.i ≡ placed l.initial.part (1 + note_bytes) (fields_file (replicate l.count 1) (take l.count l.jobs)))
