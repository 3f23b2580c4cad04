-- Whether a candidate may go next, in the steps of source document 004 (its equations 8 and 9): its latest start is an integer, which may lie before the
-- start of time, and one comparison tells. Assumes nothing.
use Rattle.std.specs.Prelude.{ℕ, Bool, cond, List, ℤ, pos, ◌-ℤ◌}
use Rattle.std.specs.Int.Signed.{le_z}
use Rattle.model.specs.Folds.{Limit, infinite, finite}
use Rattle.model.specs.Jobs.{Job}
use Rattle.model.specs.States.{State}
use Rattle.model.specs.Edges.{earliest_start, work_conserving_bound, higher_priority_bound}

-- the smaller of two integers
abbrev pub min_z : ℤ → ℤ → ℤ
min_z a b = cond (le_z a b) a b

-- the smaller of a number and the one before a limit; before 0 that is −1
abbrev pub last_before : ℕ → Limit → ℤ
last_before x infinite = pos x
last_before x (finite y) = min_z (pos x) (pos y -ℤ pos 1)

module _ (js : List Job) where
  -- the latest start of job i (LST, equation 8): the smaller of the work-conserving bound and the moment before the higher-priority bound
  unfoldable pub latest_start_z : State → ℕ → ℤ
  unfolding work_conserving_bound higher_priority_bound
  latest_start_z σ i = last_before (work_conserving_bound js σ) (higher_priority_bound js σ i)

  -- it can start in time (equation 9): its earliest start is at most its latest
  unfoldable pub in_order : State → ℕ → Bool
  unfolding earliest_start latest_start_z
  in_order σ i = le_z (pos (earliest_start js σ i)) (latest_start_z σ i)
