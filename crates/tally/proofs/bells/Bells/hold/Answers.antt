-- `hold` meets its contract: the sum so far is that of the lines so far.
use Prim.Native.Nat.{ℕ, ◌+◌}
use mathlib.Core.Path.{refl, sym, ap, ◌∙◌}
use native.Mathlib.Omega.{arith}
use Rattle.model.specs.Folds.{sum}
use Rattle.model.proofs.Folds.{sum_next}
use Rattle.lines.specs.declared.lines.BellTotal.{BellTotal}
use Rattle.tally.specs.internal.Counted.{total_in}
use Rattle.tally.proofs.bells.Bells.hold.Goals as goal

pub loop-b-init : goal.loop-b-init
unfolding sum
loop-b-init c = (refl, omega arith)

pub loop-b-preserved : goal.loop-b-preserved
loop-b-preserved c = let s = c.args.self.now in
    let v = c.loop-b in
    let f : ℕ → ℕ = λ b. (total_in s.phrase.now s.counts.now b).hold in
    let line = ap (λ (b : BellTotal). b.hold) c.total-total.ensures.0 in
    ((λ n. v.invariant.0 n + line n) ∙ sym (sum_next f v.b), omega (arith, c.total-total.ensures.1))
