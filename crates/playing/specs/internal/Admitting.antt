-- What reading a playing takes for granted, and what its loop finds. Assumes nothing.
use Rattle.std.specs.Prelude.{ℕ, ◌+◌, ◌*◌, ◌≤◌, ◌<◌, ◌≡◌, false, List, length, Option, Some, None}
use Rattle.model.specs.Jobs.{Job}
use Rattle.model.specs.Dispatch.{Scenario}
use Rattle.format.specs.Outcome.{ok}
use Rattle.playing.specs.Playing.{releases_at, job_bytes, in_ranges, first_in_ranges}

-- the bytes of k jobs are there
abbrev pub HasJobs : List ℕ → ℕ → Type 0
HasJobs p k = releases_at + k * job_bytes ≤ length p

-- of k jobs, the first that is outside its ranges, or none
abbrev pub IsFirstOutside : List Job → Scenario → ℕ → Option ℕ → Type 0
IsFirstOutside js s k None = first_in_ranges js s k ≡ ok tt
IsFirstOutside js s k (Some r) = (r < k) × (first_in_ranges js s r ≡ ok tt) × (in_ranges js s r ≡ false)
