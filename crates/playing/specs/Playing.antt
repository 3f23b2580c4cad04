-- A playing of a phrase (document 02): one call moment and one hold for each stroke, in a file of its own; and the run that it gives. Assumes nothing.
use Rattle.std.specs.Prelude.{ℕ, zero, suc, ◌+◌, ◌-◌, ◌*◌, Bool, ◌&&◌, List, leb, eqb, length, replicate, Result, Ok, Err}
use Rattle.model.specs.Limits.{most_jobs}
use Rattle.model.specs.declared.refusals.Refusal.{Refusal}
use Rattle.model.specs.Refusals.{wrong_playing, outside_range}
use Rattle.model.specs.Jobs.{Job, job}
use Rattle.model.specs.Dispatch.{Scenario}
use Rattle.model.specs.Playing.{start_time, finish_time}
use Rattle.format.specs.Bytes.{number, within}
use Rattle.format.specs.Phrase.{Phrase}
use Rattle.format.specs.Jobs.{jobs_of}
use Rattle.format.specs.Outcome.{Outcome, ok, refused, ◌>>=◌, ◌>>◌, require}
use Rattle.checking.specs.Checking.{per_job}

-- ---- the file: version, count of the bytes after it, and for each job a release (call moment) of four bytes and an execution time (hold) of two

abbrev pub playing_version : ℕ
playing_version = 1

abbrev pub byte_count_at : ℕ
byte_count_at = 1

abbrev pub releases_at : ℕ
releases_at = 5

abbrev pub job_bytes : ℕ
job_bytes = 6

-- where the two of job i stand
abbrev pub release_at : ℕ → ℕ
release_at i = releases_at + i * job_bytes

abbrev pub execution_at : ℕ → ℕ
execution_at i = releases_at + i * job_bytes + 4

unfoldable pub scenario_in : List ℕ → Scenario
unfolding number
scenario_in p = record { release = λ i. number 4 (release_at i) p; execution = λ i. number 2 (execution_at i) p }

-- the version, the count and the number of jobs are right
unfoldable pub is_playing : List ℕ → ℕ → Bool
unfolding number
is_playing p k =
    leb releases_at (length p)
    && (eqb (number 1 0 p) playing_version
    && (eqb (number 4 byte_count_at p) (length p - releases_at) && eqb (length p - releases_at) (k * job_bytes)))

-- ---- its ranges

-- release and execution time of job i lie in their ranges
unfoldable pub in_ranges : List Job → Scenario → ℕ → Bool
unfolding within
in_ranges js s i =
    within (job js i).earliest_release (job js i).latest_release (s.release i)
    && within (job js i).least_execution (job js i).most_execution (s.execution i)

-- of the first n jobs; the place of a refusal is the smallest that is outside
unfoldable pub first_in_ranges : List Job → Scenario → ℕ → Outcome (Unit {0})
unfolding in_ranges
first_in_ranges js s zero = ok tt
first_in_ranges js s (suc n) = do
  first_in_ranges js s n
  require (in_ranges js s n) outside_range n

-- The scenario that a playing holds, for these jobs; or its refusal.
unfoldable pub scenario_for : List Job → List ℕ → Outcome Scenario
unfolding is_playing first_in_ranges scenario_in
scenario_for js p = do
  require (is_playing p (length js)) wrong_playing 0
  first_in_ranges js (scenario_in p) (length js)
  ok (scenario_in p)

-- ---- the playing, worked out

-- for each job the start and the finish time (its end) in the run, and zeros from K on
pub record Times : Type 0 where
  pub starts : List ℕ
  pub finishes : List ℕ

abbrev pub times_of : List Job → ℕ → Scenario → Times
times_of js m s = record { starts = per_job (length js) (start_time js m s); finishes = per_job (length js) (finish_time js m s) }

abbrev pub played_for : List Job → ℕ → List ℕ → Outcome Times
played_for js m p = do
  s ← scenario_for js p
  ok (times_of js m s)

-- A refusal of reading stands as it is; then the playing is read.
abbrev pub played_of : Outcome Phrase → List ℕ → Outcome Times
played_of o p = do
  x ← o
  played_for (jobs_of x) x.cores p

-- on a refusal all times are zero
abbrev pub starts_of : Outcome Times → List ℕ
starts_of (ok x) = x.starts
starts_of (refused n at) = replicate most_jobs 0

abbrev pub finishes_of : Outcome Times → List ℕ
finishes_of (ok x) = x.finishes
finishes_of (refused n at) = replicate most_jobs 0

-- what is answered in code
abbrev pub admission_of : {A : Type 0} → Outcome A → Result (Unit {0}) Refusal
admission_of (ok a) = Ok tt
admission_of (refused n at) = Err (record { number = n; place = at })
