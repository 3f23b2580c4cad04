-- `put` meets its contract: the text so far is the lines of the strokes so far.
use Prim.Native.Nat.{ℕ}
use mathlib.Core.List.{List}
use native.Mathlib.Omega.{arith}
use Rattle.text.proofs.Writing.{written_nothing, more, room_rest}
use Rattle.lines.specs.Lines.{stroke_line, lines}
use Rattle.strokes.specs.internal.Rows.{stroke_in}
use Rattle.lines.proofs.Series.{lines_next, lines_room}
use Rattle.strokes.proofs.Strokes.put.Goals as goal

pub loop-i-init : goal.loop-i-init
unfolding lines
loop-i-init c = written_nothing c.args.buffer.now 0

pub put_stroke-at-requires : goal.put_stroke-at-requires
put_stroke-at-requires c = let v = c.loop-i in
    let s = c.args.self.now in
    let line : ℕ → List ℕ = λ i. stroke_line (stroke_in s.phrase.now s.earliest.now s.latest.now s.best.now s.worst.now i) in
    let whole = lines_room line v.i c.args.k (omega arith) c.requires.2 in
    (rw c.stroke.ensures (c.requires.1 v.i (omega arith)).0, rw c.stroke.ensures (room_rest (line v.i) whole v.invariant))

pub loop-i-preserved : goal.loop-i-preserved
loop-i-preserved c = let v = c.loop-i in
    let line = rw c.stroke.ensures at c.put_stroke-at.ensures in
    rw lines_next (more (omega arith) v.invariant line)
