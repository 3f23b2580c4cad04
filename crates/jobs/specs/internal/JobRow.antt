-- The row of a job: what the analysis asks of it. Where its fields stand, its words, and what is read from them. Assumes nothing.
use Rattle.std.specs.Prelude.{ℕ, ◌+◌, ◌*◌, ◌≤◌, ◌<◌, ◌≡◌, List, [], ◌∷◌, ◌++◌, get_or, length, take, drop}
use Rattle.model.specs.Limits.{most_jobs, most_cores, latest_time, longest_execution, longest_rest}
use Rattle.model.specs.Jobs.{Job, job, predecessors}
use Rattle.model.specs.internal.Bounds.{TimedUpTo, RestsUpTo}
use Rattle.words.specs.Tabulate.{tabulate}
use Rattle.words.specs.Padded.{padded}
use Rattle.format.specs.Bytes.{records}
use Rattle.format.specs.internal.Analysable.{most_predecessors}

abbrev pub row_words : ℕ
row_words = 16

abbrev pub earliest_release_at : ℕ
earliest_release_at = 0

abbrev pub latest_release_at : ℕ
latest_release_at = 1

abbrev pub least_execution_at : ℕ
least_execution_at = 2

abbrev pub most_execution_at : ℕ
most_execution_at = 3

abbrev pub deadline_at : ℕ
deadline_at = 4

abbrev pub priority_at : ℕ
priority_at = 5

-- the number of predecessors, and the predecessors, first those that the note lists and last the one of the same bell
abbrev pub predecessor_count_at : ℕ
predecessor_count_at = 6

abbrev pub predecessors_at : ℕ
predecessors_at = 7

-- the rest, the bell, and the number of predecessors that the note lists
abbrev pub rest_at : ℕ
rest_at = predecessors_at + most_predecessors

abbrev pub job_bell_at : ℕ
job_bell_at = rest_at + 1

abbrev pub job_listed_at : ℕ
job_listed_at = job_bell_at + 1

-- of job i
unfoldable pub job_row : List Job → ℕ → List ℕ
unfolding predecessors
job_row js i =
    (job js i).earliest_release
    ∷ (job js i).latest_release
    ∷ (job js i).least_execution
    ∷ (job js i).most_execution
    ∷ (job js i).deadline
    ∷ (job js i).priority
    ∷ length (predecessors js i)
    ∷ padded most_predecessors (predecessors js i)
    ++ ((job js i).rest ∷ (job js i).bell ∷ length (job js i).listed ∷ 0 ∷ [])

-- of the first n jobs
unfoldable pub job_rows : List Job → ℕ → List ℕ
unfolding records tabulate job_row
job_rows js n = records (job_row js) (tabulate (λ i. i) 0 n)

abbrev pub word : List ℕ → ℕ → ℕ → ℕ
word rows i at = get_or rows (i * row_words + at) 0

-- the job in row i
unfoldable pub job_at : List ℕ → ℕ → Job
job_at rows i =
    record {
      earliest_release = word rows i earliest_release_at;
      latest_release = word rows i latest_release_at;
      least_execution = word rows i least_execution_at;
      most_execution = word rows i most_execution_at;
      deadline = word rows i deadline_at;
      priority = word rows i priority_at;
      bell = word rows i job_bell_at;
      rest = word rows i rest_at;
      listed = take (word rows i job_listed_at) (drop (i * row_words + predecessors_at) rows);
    }

-- the jobs in the first k rows
unfoldable pub jobs_of_rows : List ℕ → ℕ → List Job
unfolding tabulate job_at
jobs_of_rows rows k = tabulate (job_at rows) 0 k

-- what is known of the rows of k jobs: all are there, with their predecessors, which are few and smaller
pub record Rows (rows : List ℕ) (k : ℕ) : Type 0 where
  pub long : k * row_words ≤ length rows
  pub few : (i : ℕ) → i < k → word rows i predecessor_count_at ≤ most_predecessors
  pub all : (i : ℕ) → i < k → predecessors (jobs_of_rows rows k) i ≡ take (word rows i predecessor_count_at) (drop (i * row_words + predecessors_at) rows)
  pub earlier : (i j : ℕ) → i < k → j < word rows i predecessor_count_at → get_or rows (i * row_words + predecessors_at + j) 0 < i

-- what is known of the whole job set, for so many cores
pub record Setting (rows : List ℕ) (k m : ℕ) : Type 0 where
  pub rows_of : Rows rows k
  pub jobs : k ≤ most_jobs
  pub cores : 1 ≤ m
  pub few_cores : m ≤ most_cores
  pub timed : TimedUpTo latest_time (jobs_of_rows rows k)
  pub rests : RestsUpTo longest_rest (jobs_of_rows rows k)
  pub executions : (i : ℕ) → i < k → (1 ≤ word rows i least_execution_at) × (word rows i most_execution_at ≤ longest_execution)
