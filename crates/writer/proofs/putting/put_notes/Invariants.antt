use mathlib.Core.Path.{◌≡◌}
use lib.ListN.{length}
use Rattle.format.specs.Layout.{first}
use Rattle.format.specs.Writing.{note_file}
use Rattle.writer.proofs.PutRecords.{put}
use Rattle.writer.proofs.PutNotes.{notes, note_place}
use Rattle.writer.proofs.putting.put_notes.Given as goal

abbrev pub invariant-loop-i : goal.invariant-loop-i
invariant-loop-i l = (length l.file ≡ length l.initial.file) × (l.at ≡ note_place l.phrase l.count l.start l.i) × (l.file ≡ put (note_file first) (notes l.phrase l.count) l.start l.initial.file l.i)
