-- The finish times of jobs, from their rows and the words of their observed finish ranges. Assumes nothing.
use Rattle.std.specs.Prelude.{ℕ, ◌+◌, ◌-◌, ◌≤◌, ◌<◌, List, get_or}
use Rattle.model.specs.Limits.{most_jobs}
use Rattle.model.specs.Jobs.{job}
use Rattle.jobs.specs.internal.JobRow.{jobs_of_rows, Rows}
use Rattle.steps.specs.internal.Observed.{Observed}

-- the earliest release of job i
abbrev pub release_of : List ℕ → ℕ → ℕ → ℕ
release_of rows k i = (job (jobs_of_rows rows k) i).earliest_release

-- no job finishes, at these times, before its earliest release
abbrev pub Released : List ℕ → ℕ → List ℕ → Type 0
Released rows k finishes = (i : ℕ) → i < k → release_of rows k i ≤ get_or finishes i 0

-- the response of job i that finishes at its time
abbrev pub response_of : List ℕ → ℕ → List ℕ → ℕ → ℕ
response_of rows k finishes i = get_or finishes i 0 - release_of rows k i

-- every job was observed to finish, after its earliest release
pub record FinishesObserved (rows : List ℕ) (k : ℕ) (seen : List ℕ) : Type 0 where
  pub rows_of : Rows rows k
  pub few : k ≤ most_jobs
  pub observed : Observed k seen
  pub released : (i : ℕ) → i < k → release_of rows k i ≤ get_or seen i 0
  pub in_order_holds : (i : ℕ) → i < k → get_or seen i 0 ≤ get_or seen (most_jobs + i) 0
  pub finished : (i : ℕ) → i < k → 1 ≤ get_or seen (most_jobs + i) 0
