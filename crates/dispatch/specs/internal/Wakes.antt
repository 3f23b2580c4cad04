-- From when each job is ready, in a word. Assumes nothing.
use Rattle.std.specs.Prelude.{ℕ, ◌+◌, ◌*◌, ◌≤◌, ◌<◌, max, ◌≡◌, ◌&&◌, cond, List, [], ◌∷◌, eqb, ltb, get_or, length}
use Rattle.model.specs.Limits.{most_jobs, longest_execution, longest_rest, latest_time}
use Rattle.model.specs.Jobs.{Job, predecessors, rest_of}
use Rattle.model.specs.Dispatch.{Scenario}
use Rattle.model.specs.internal.Bounds.{RestsUpTo}
use Rattle.jobs.specs.internal.JobRow.{jobs_of_rows, Rows}
use Rattle.playing.specs.internal.Admitting.{HasJobs}

-- all times are below; with the number of a predecessor added, the job waits for that one to start
abbrev pub asleep : ℕ
asleep = 2147483648

-- the word of a job that has started
abbrev pub started_word : ℕ
started_word = 4294967295

-- no run has a later moment: after the latest release there are all executions and all rests
abbrev pub last_moment : ℕ
last_moment = latest_time + most_jobs * (longest_execution + longest_rest)

-- The latest of a moment and the finish times of these jobs, each with its rest; or the first of them that has not started, whose finish time is 0.
unfoldable pub wake_in : (ℕ → ℕ) → List ℕ → List ℕ → ℕ → ℕ
wake_in rest finishes [] from = from
wake_in rest finishes (w ∷ ws) from =
    cond (eqb (get_or finishes w 0) 0) (asleep + w) (wake_in rest finishes ws (max from (get_or finishes w 0 + rest w)))

-- the wake word of a job that has not started
unfoldable pub wake_of : List Job → Scenario → List ℕ → ℕ → ℕ
unfolding predecessors rest_of wake_in
wake_of js s finishes j = wake_in (rest_of js j) finishes (predecessors js j) (s.release j)

-- the wake word of any job
abbrev pub word_of : List Job → Scenario → List ℕ → ℕ → ℕ
word_of js s finishes j = cond (eqb (get_or finishes j 0) 0) (wake_of js s finishes j) started_word

-- the words that were, with those of the later jobs that waited for job i made anew
abbrev pub woken_by : List Job → Scenario → List ℕ → List ℕ → ℕ → ℕ → ℕ
woken_by js s finishes wakes i j = cond (ltb i j && eqb (get_or wakes j 0) (asleep + i)) (wake_of js s finishes j) (get_or wakes j 0)

-- the first k words are these
abbrev pub EachWakes : (ℕ → ℕ) → ℕ → List ℕ → Type 0
EachWakes f k wakes = (j : ℕ) → j < k → get_or wakes j 0 ≡ f j

-- what a wake word is made from: the rows of k jobs, their bytes, and a finish time for each
pub record WorkedOn (rows : List ℕ) (k : ℕ) (playing finishes : List ℕ) : Type 0 where
  pub rows_of : Rows rows k
  pub few_jobs : k ≤ most_jobs
  pub rests : RestsUpTo longest_rest (jobs_of_rows rows k)
  pub has_jobs : HasJobs playing k
  pub finishes_of_holds : k ≤ length finishes
  pub finishes_small : (j : ℕ) → j < k → get_or finishes j 0 ≤ last_moment
