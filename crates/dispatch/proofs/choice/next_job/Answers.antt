use mathlib.Core.Path.{◌≡◌, ap₂, ◌∙◌}
use native.Mathlib.Omega.{arith}
use Rattle.jobs.specs.internal.JobRow.{jobs_of_rows}
use Rattle.dispatch.specs.internal.Choice.{start_key, key_of}
use Rattle.dispatch.proofs.Choosing.{seen_lower, seen_higher}
use Rattle.dispatch.proofs.choice.next_job.Goals as goal
use Rattle.dispatch.proofs.choice.next_job.Goals.{After-start_key-key, then-key-least, else-key-least}

-- the key of the job looked at
key_is : (c : After-start_key-key)
    → let a = c.args in
    c.start_key-key.result ≡ key_of (jobs_of_rows a.rows.now a.k) a.wakes.now a.from c.loop-j.j
unfolding key_of
key_is c = c.start_key-key.ensures ∙ ap₂ start_key c.max.ensures c.priority.ensures

pub loop-j-preserved : goal.loop-j-preserved
loop-j-preserved c = let i = c.loop-j in
    let a = c.args in
    let key = key_of (jobs_of_rows a.rows.now a.k) a.wakes.now a.from in
    let is = key_is (goal.at.loop-j-preserved c).After-start_key-key in
    elim c.if-key-least.branch [
      | then-key-least w ↦ rw (w.next-is, w.least-is, is) (seen_lower key i.j i.next i.least i.invariant (omega (arith, is, w.if-key-least.true)))
      | else-key-least w ↦ rw (w.next-is, w.least-is) (seen_higher key i.j i.next i.least i.invariant (omega (arith, is, w.if-key-least.false)))
    ]
