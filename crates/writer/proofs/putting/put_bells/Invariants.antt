use mathlib.Core.Path.{◌≡◌}
use lib.ListN.{length}
use Rattle.format.specs.Writing.{bell_file}
use Rattle.fields.specs.internal.Layouts.{layout_of}
use Rattle.writer.proofs.PutRecords.{put}
use Rattle.writer.proofs.PutBells.{bells, bell_place}
use Rattle.writer.proofs.putting.put_bells.Given as goal

abbrev pub invariant-loop-i : goal.invariant-loop-i
invariant-loop-i l = (length l.file ≡ length l.initial.file)
    × (l.at ≡ bell_place l.phrase l.n (layout_of l.l) l.start l.i)
    × (l.file ≡ put (bell_file (layout_of l.l)) (bells l.phrase l.n) l.start l.initial.file l.i)
