-- All moments of a run are far below the marks. Assumes nothing.
use Prim.Native.Nat.{ℕ, ◌+◌, ◌≤◌, ◌<◌}
use mathlib.Core.List.{List}
use native.Mathlib.Omega.{arith}
use lib.ListN.{length}
use Rattle.model.specs.Limits.{latest_time, longest_execution, longest_rest}
use Rattle.model.specs.Jobs.{Job, job}
use Rattle.model.specs.Dispatch.{Scenario}
use Rattle.model.specs.Playing.{horizon}
use Rattle.model.proofs.Folds.{largest_below_le, sum_times, le_largest_below}
use Rattle.jobs.specs.internal.JobRow.{jobs_of_rows, most_execution_at}
use Rattle.jobs.proofs.Jobs.{length_jobs, field_of}
use Rattle.playing.specs.Playing.{scenario_in}
use Rattle.dispatch.specs.internal.Wakes.{last_moment}
use Rattle.dispatch.specs.internal.Turns.{Dispatchable}

module _ (rows : List ℕ) (k m : ℕ) (playing : List ℕ) (given : Dispatchable rows k m playing) where
  abbrev js : List Job
  js = jobs_of_rows rows k

  abbrev s : Scenario
  s = scenario_in playing

  inside : (i : ℕ) → i < length js → i < k
  inside i b = omega (arith, length_jobs rows k)

  pub horizon_small : horizon js s ≤ last_moment
  unfolding horizon
  horizon_small =
      omega (
        arith,
        largest_below_le s.release (length js) latest_time (λ i b. omega (arith, (given.admissible.releases i b).1, (given.setting.timed.releases i b).1)),
        sum_times (λ i. s.execution i + (job js i).rest) (length js) (longest_execution + longest_rest)
            (λ i b. omega (
              arith,
              (given.admissible.executions i b).1,
              field_of rows k i most_execution_at (inside i b) (omega arith),
              (given.setting.executions i (inside i b)).1,
              given.setting.rests i b,
            )),
        length_jobs rows k,
        given.setting.jobs,
      )

  pub release_within : (i : ℕ) → i < k → s.release i ≤ horizon js s
  unfolding horizon
  release_within i b = omega (arith, le_largest_below s.release (length js) i (omega (arith, length_jobs rows k)))
