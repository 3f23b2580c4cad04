-- `responses` meets its contract: the words before i are responses, and zeros follow.
use Prim.Native.Nat.{◌-◌}
use mathlib.Core.Path.{ap, ◌∙◌}
use native.Mathlib.Omega.{arith}
use lib.ListN.{get_or, set}
use Rattle.results.specs.internal.Finishes.{response_of}
use Rattle.checking.proofs.PerJob.{per_job_none, per_job_more}
use Rattle.results.proofs.responses.Goals as goal

pub loop-i-init : goal.loop-i-init
loop-i-init c = per_job_none _

pub loop-i-preserved : goal.loop-i-preserved
loop-i-preserved c = let a = c.args in
    let v = c.loop-i in
    let f = response_of a.rows.now a.k a.finishes.now in
    let e = ap (λ r. get_or a.finishes.now v.i 0 - r) c.earliest_release.ensures in
    (λ n. set (v.invariant n) v.i (e n)) ∙ per_job_more v.i f (omega (arith, c.requires.1))
