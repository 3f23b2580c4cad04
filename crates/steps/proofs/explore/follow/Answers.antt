-- `follow`: without an edge all stays; else the deadline is tested, and the successor stored.
use Prim.Native.Nat.{◌≤◌}
use native.Mathlib.Omega.{arith}
use Rattle.model.specs.Limits.{latest_time}
use Rattle.model.specs.Jobs.{job}
use Rattle.steps.specs.internal.Progress.{jobs_in, state_in}
use Rattle.steps.proofs.Following.{inside, fresh, new_bounded}
use Rattle.steps.proofs.explore.follow.Goals as goal

pub deadline-requires : goal.deadline-requires
deadline-requires c = ((c.requires.2 c.in-Some.start c.in-Some.is).0, c.requires.0.setting.rows_of)

pub store_successor-requires-clause-job_lt_jobs : goal.store_successor-requires-clause-job_lt_jobs
store_successor-requires-clause-job_lt_jobs c =
    let a = c.args in
    let x = c.in-Some.start in
    let given = c.requires.0 in
    let job = c.requires.2 x c.in-Some.is in (
      job.0,
      given.setting.jobs,
      given.setting.cores,
      given.setting.few_cores,
      given.words,
      c.requires.1,
      given.sound.set_fits,
      fresh (jobs_in a.shape a.rows.now) (state_in a.shape a.cur.now) x job.1,
      given.sound.bounded.ordered,
      given.linkable,
    )

pub returns-clause-half_at : goal.returns-clause-half_at
returns-clause-half_at c =
    let a = c.args in
    let x = c.in-Some.start in
    let js = jobs_in a.shape a.rows.now in
    let given = c.requires.0 in
    let job' = c.requires.2 x c.in-Some.is in
    let timely : x.latest ≤ (job js x.job).deadline = omega (arith, c.if-deadline-f.false, c.deadline.ensures) in
    c.store_successor.ensures.half_at js given.target.0
    (new_bounded js (state_in a.shape a.cur.now) x job'.1 latest_time given.setting.timed given.sound.bounded (inside a.rows.now a.shape.jobs a.shape.cores given.setting x.job job'.0) timely)
