-- `put` meets its contract: the text so far is the lines of the bells so far.
use Prim.Native.Nat.{ℕ}
use mathlib.Core.List.{List}
use native.Mathlib.Omega.{arith}
use Rattle.text.proofs.Writing.{within, written_nothing, more, room_rest}
use Rattle.lines.specs.Lines.{lines}
use Rattle.lines.proofs.Series.{lines_next, lines_room}
use Rattle.tally.specs.Tally.{bell_text}
use Rattle.tally.specs.internal.Counted.{total_in}
use Rattle.tally.proofs.bells.Bells.put.Goals as goal

pub loop-b-init : goal.loop-b-init
unfolding lines
loop-b-init c = written_nothing c.args.buffer.now c.args.start

pub put_text-at-requires : goal.put_text-at-requires
put_text-at-requires c = let v = c.loop-b in
    let s = c.args.self.now in
    let line : ℕ → List ℕ = λ b. bell_text (total_in s.phrase.now s.counts.now b) in
    let whole = lines_room line v.b s.n (omega arith) c.requires.2 in
    rw c.total.ensures.0 (room_rest (line v.b) whole v.invariant)

pub loop-b-preserved : goal.loop-b-preserved
loop-b-preserved c = let v = c.loop-b in
    let w = c.put_text-at in
    let line = rw c.total.ensures.0 at w.ensures in
    rw lines_next (more (within c.requires.2) v.invariant line)
