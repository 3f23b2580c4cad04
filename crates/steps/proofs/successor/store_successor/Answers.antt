-- `store_successor`: what is stored is the successor, and the state in hand is restored.
use Prim.Native.Nat.{◌+◌, ◌^◌, ◌≤◌, ◌<◌}
use mathlib.Core.Path.{◌≡◌, sym, ap, ◌∙◌, subst}
use native.Mathlib.Omega.{arith}
use lib.ListN.{length}
use Rattle.model.specs.Limits.{latest_time}
use Rattle.model.specs.States.{level}
use Rattle.model.specs.Exploration.{state_words}
use Rattle.model.specs.internal.Bounds.{Bounded}
use Rattle.states.specs.internal.Slots.{set_of}
use Rattle.states.proofs.Starts.{joined_fits}
use Rattle.states.proofs.Restoring.{restored}
use Rattle.steps.specs.internal.Progress.{state_in}
use Rattle.steps.proofs.Following.{one_more_started}
use Rattle.steps.proofs.successor.store_successor.Goals as goal
use Rattle.steps.proofs.successor.store_successor.Goals.{After-start_job}

-- the new state's set holds jobs of the check only
fits : (c : After-start_job) → set_of c.start_job.new.out < 2 ^ c.args.shape.jobs
fits c =
    let a = c.args in
    let p = c.requires.job_lt_jobs in
    subst (λ z. z < 2 ^ a.shape.jobs) (sym c.start_job.ensures.out_after_2) (joined_fits a.shape.cores a.shape.jobs a.cur.now a.start.job p.0 p.6 p.7)

-- its words are there
long : (c : After-start_job) → state_words c.args.shape.cores c.args.shape.jobs ≤ length c.start_job.new.out
long c = omega (arith, c.start_job.auto.out, c.requires.job_lt_jobs)

pub store_new-progress-requires-clause-jobs_le_most_jobs : goal.store_new-progress-requires-clause-jobs_le_most_jobs
store_new-progress-requires-clause-jobs_le_most_jobs c =
    let a = c.args in
    let p = c.requires.job_lt_jobs in (
      p.1,
      p.3,
      long (goal.at.store_new-progress-requires-clause-jobs_le_most_jobs c).After-start_job,
      fits (goal.at.store_new-progress-requires-clause-jobs_le_most_jobs c).After-start_job,
      λ h.
          let e : level (state_in a.shape c.start_job.new.out) ≡ level (state_in a.shape a.cur.now) + 1 =
          ap level c.start_job.ensures.out_after ∙ one_more_started a.shape.cores a.shape.jobs a.cur.now a.start p.0 p.7 in
          omega (arith, e, p.9 h),
    )

pub returns-clause-half_at : goal.returns-clause-half_at
returns-clause-half_at c =
    λ js h bounded.
    c.store_new-progress.ensures.half_at js h (record {
      set_fits = fits (goal.at.returns-clause-half_at c).After-start_job;
      bounded = subst (Bounded js latest_time) (sym c.start_job.ensures.out_after) bounded;
    })

pub returns-clause-restored : goal.returns-clause-restored
returns-clause-restored c =
    let a = c.args in
    let p = c.requires.job_lt_jobs in
    rw c.copy_front.ensures
    (restored a.shape.cores a.shape.jobs a.start.job a.cur.now c.start_job.new.out a.front.now p.0 p.5.0 p.7 c.start_job.ensures.other_finishes_kept p.5.1)
