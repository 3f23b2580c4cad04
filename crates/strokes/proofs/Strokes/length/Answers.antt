-- `length` meets its contract: the sum so far is the length of the lines so far.
use Prim.Native.Nat.{ℕ}
use mathlib.Core.Path.{refl, ap, ◌∙◌}
use mathlib.Core.List.{List}
use native.Mathlib.Omega.{arith}
use lib.ListN.{length, length-append}
use Rattle.lines.specs.Lines.{stroke_line, lines}
use Rattle.strokes.specs.internal.Rows.{stroke_in}
use Rattle.lines.proofs.Series.{lines_next}
use Rattle.strokes.proofs.Strokes.length.Goals as goal

pub loop-i-init : goal.loop-i-init
unfolding lines
loop-i-init c = (refl, omega arith)

pub loop-i-preserved : goal.loop-i-preserved
loop-i-preserved c = let s = c.args.self.now in
    let v = c.loop-i in
    let line : ℕ → List ℕ = λ i. stroke_line (stroke_in s.phrase.now s.earliest.now s.latest.now s.best.now s.worst.now i) in
    let long = rw c.stroke.ensures at c.stroke_length-total.ensures.0 in
    let all = ap length (lines_next line v.i) ∙ length-append (lines line v.i) (line v.i) in
    (omega (arith, v.invariant.0, long, all), omega (arith, c.stroke_length-total.ensures.1))
