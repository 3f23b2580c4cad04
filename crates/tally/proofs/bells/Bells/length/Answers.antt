-- `length` meets its contract: the sum so far is the length of the lines so far.
use Prim.Native.Nat.{ℕ}
use mathlib.Core.Path.{refl, ap, ◌∙◌}
use mathlib.Core.List.{List}
use native.Mathlib.Omega.{arith}
use lib.ListN.{length, length-append}
use Rattle.lines.specs.Lines.{lines}
use Rattle.lines.proofs.Series.{lines_next}
use Rattle.tally.specs.Tally.{bell_text}
use Rattle.tally.specs.internal.Counted.{total_in}
use Rattle.tally.proofs.bells.Bells.length.Goals as goal

pub loop-b-init : goal.loop-b-init
unfolding lines
loop-b-init c = (refl, omega arith)

pub loop-b-preserved : goal.loop-b-preserved
loop-b-preserved c = let s = c.args.self.now in
    let v = c.loop-b in
    let line : ℕ → List ℕ = λ b. bell_text (total_in s.phrase.now s.counts.now b) in
    let long = rw c.total.ensures.0 at c.text_length-total.ensures.0 in
    let all = ap length (lines_next line v.b) ∙ length-append (lines line v.b) (line v.b) in
    (omega (arith, v.invariant.0, long, all), omega (arith, c.text_length-total.ensures.1))
