-- `update_availability` meets its contract: the words before j are done, and one is carried.
use Prim.Native.Nat.{◌-◌}
use mathlib.Core.Path.{◌≡◌, sym, ◌∙◌}
use native.Mathlib.Omega.{arith}
use lib.ListN.{length, length-set}
use Rattle.states.proofs.Sorting.{carried_availability, carried_on, carried_last}
use Rattle.states.proofs.starting.update_availability.Goals as goal

pub loop-j-preserved : goal.loop-j-preserved
loop-j-preserved c = let t = c.loop-j in (
  simp length-set t.invariant.0,
  t.invariant.1 ∙ carried_on t.l t.j c.args.s t.carried (omega arith) c.max-x.result c.min.result c.max-carried.result c.max-x.ensures c.min.ensures c.max-carried.ensures,
)

pub returns : goal.returns
returns c = let t = c.loop-j in
    let e : length c.args.l.now - 1 ≡ t.j = omega arith in
    rw e (carried_last t.l t.j c.args.s t.carried (omega arith) (omega arith)) ∙ sym t.invariant.1 ∙ carried_availability c.args.s c.args.f c.args.l.now c.requires.1
