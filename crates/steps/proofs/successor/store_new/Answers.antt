-- `store_new`: the level of a state that does not fit is its count of ones.
use Prim.Native.Nat.{ℕ}
use mathlib.Core.Path.{subst}
use Rattle.links.proofs.Spare.{spare_exists}
use Rattle.store.specs.internal.Index.{Fits}
use Rattle.steps.proofs.successor.store_new.Goals as goal

pub store_state-requires-clause-fits : goal.store_state-requires-clause-fits
store_state-requires-clause-fits c =
    let a = c.args in
    let m = a.shape.cores in
    let k = a.shape.jobs in
    let p = c.requires.jobs_le_most_jobs in
    let q = c.requires.jobs_value in
    (subst (λ (z : ℕ). Fits m k z a.shape.index) q.0 q.3.0, q.3.1, λ h. spare_exists m k a.new.now p.0 p.3 (p.4 h))
