use Rattle.text.specs.internal.Written.{Written}
use Rattle.strokes.specs.internal.Rows.{strokes_text}
use Rattle.strokes.proofs.Strokes.put.Given as goal

abbrev pub invariant-loop-i : goal.invariant-loop-i
invariant-loop-i l = let s = l.self in
    Written l.initial.buffer 0 (strokes_text s.phrase.now s.earliest.now s.latest.now s.best.now s.worst.now l.i) l.buffer l.at
