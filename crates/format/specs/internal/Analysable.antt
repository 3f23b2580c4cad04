-- What the analysis and the report rely on, of a phrase. Assumes nothing.
use Rattle.std.specs.Prelude.{ℕ, suc, ◌≤◌, ◌<◌, ◌≡◌, true, length}
use Rattle.model.specs.Folds.{member}
use Rattle.model.specs.Jobs.{Job, job, predecessors}
use Rattle.model.specs.Guarantee.{WellFormed}
use Rattle.model.specs.Limits.{most_cores, longest_execution, longest_rest, latest_time}
use Rattle.format.specs.Layout.{layout, most_listed}
use Rattle.format.specs.Phrase.{Phrase}
use Rattle.format.specs.Rules.{lowest_key}
use Rattle.format.specs.Jobs.{shifted_key, jobs_of}

-- The fields of a job lie in their ranges.
pub record InRanges (j : Job) : Type 0 where
  pub execution : (1 ≤ j.least_execution) × (j.least_execution ≤ j.most_execution) × (j.most_execution ≤ longest_execution)
  pub release : (j.earliest_release ≤ j.latest_release) × (j.latest_release ≤ latest_time)
  pub deadline : j.deadline ≤ latest_time
  pub rest : j.rest ≤ longest_rest

-- a job waits for those that its note lists, and for one of its bell
abbrev pub most_predecessors : ℕ
most_predecessors = suc most_listed

-- Counts and times are small, the predecessors of a job few and smaller than the job, and its key, moved by the shift, not below the lowest of a bell.
pub record Analysable (x : Phrase) : Type 0 where
  pub cores : (1 ≤ x.cores) × (x.cores ≤ most_cores)
  pub job_count : length (jobs_of x) ≤ (layout x.version).most_notes
  pub ranges : (i : ℕ) → i < length (jobs_of x) → InRanges (job (jobs_of x) i)
  pub earlier : (i : ℕ) → i < length (jobs_of x) → (w : ℕ) → member w (predecessors (jobs_of x) i) ≡ true → w < i
  pub few : (i : ℕ) → i < length (jobs_of x) → length (predecessors (jobs_of x) i) ≤ most_predecessors
  pub keys : (i : ℕ) → i < length (jobs_of x) → lowest_key ≤ shifted_key x i
  -- the premises of demand 3
  pub well_formed : WellFormed (jobs_of x) x.cores
