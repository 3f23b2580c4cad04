use Prim.Native.Nat.{ℕ, ◌*◌, ◌%◌, ◌^◌}
use mathlib.Core.Path.{◌≡◌, ap, ◌∙◌}
use native.Mathlib.Omega.{arith}
use lib.Bits.{bit_or}
use lib.ListN.{get_or}
use Rattle.model.specs.Jobs.{predecessors}
use Rattle.jobs.specs.internal.JobRow.{jobs_of_rows}
use Rattle.states.proofs.Bits.{shifted_one}
use Rattle.edges.proofs.Candidates.{join_next, joined_all, joined_below}
use Rattle.edges.proofs.predecessor_set.Goals as goal

pub loop-j-preserved : goal.loop-j-preserved
loop-j-preserved c = let a = c.args in
    let i = c.loop-j in
    let l = predecessors (jobs_of_rows a.rows.now a.k) a.i in
    let p = c.predecessor in
    let e : bit_or i.set (1 * 2 ^ p.result % 2 ^ 64) ≡ bit_or i.set (2 ^ get_or l i.j 0) =
    ap (bit_or i.set) (shifted_one 64 p.result (omega arith) ∙ ap (λ (x : ℕ). 2 ^ x) p.ensures.0) in
    (rw e (join_next l i.j i.set i.invariant.0 (omega arith)), rw e (joined_below a.i i.set (get_or l i.j 0) i.invariant.1 (omega arith)))

pub returns : goal.returns
returns c = let a = c.args in
    let i = c.loop-j in
    record {
      members = joined_all (predecessors (jobs_of_rows a.rows.now a.k) a.i) i.j i.set i.invariant.0 (omega arith);
      earlier = i.invariant.1;
    }
