-- How far the analysis has come, by what a step answers and by the words of the half and of the observed ranges. Assumes nothing.
use Rattle.std.specs.Prelude.{ℕ, ◌+◌, ◌*◌, ◌≤◌, ◌<◌, ◌≡◌, true, cond, List, ltb, length, take, Option, Some, None, Result, Ok, Err}
use Rattle.model.specs.Jobs.{Job, job}
use Rattle.model.specs.States.{Range, range, State, level}
use Rattle.model.specs.Edges.{eligible, earliest_start, earliest_finish, latest_finish}
use Rattle.model.specs.Exploration.{Exploration, going, full, miss, limited, stored, observed, state_words}
use Rattle.jobs.specs.internal.JobRow.{jobs_of_rows, Setting}
use Rattle.states.specs.declared.starting.JobStart.{JobStart}
use Rattle.states.specs.internal.Slots.{earliest_at, state_of, states_of, Sound, AllSound}
use Rattle.states.specs.internal.Writing.{after_start}
use Rattle.store.specs.internal.Index.{Fits, Indexed}
use Rattle.steps.specs.internal.Observed.{observed_of, Observed}
use Rattle.steps.specs.declared.shape.Shape.{Shape}
use Rattle.steps.specs.declared.stop.Stop.{Stop}
use Rattle.steps.specs.declared.stop.Stop.TheVariants.{Full, Late}

-- ---- what words say in a check of this shape

abbrev pub jobs_in : Shape → List ℕ → List Job
jobs_in shape rows = jobs_of_rows rows shape.jobs

abbrev pub state_in : Shape → List ℕ → State
state_in shape ws = state_of shape.cores shape.jobs ws

-- the exploration that holds the states in the first n slots of a half, with the observed ranges and c states counted before
abbrev pub going_in : Shape → List ℕ → ℕ → List ℕ → ℕ → Exploration
going_in shape half n seen c = going (states_of shape.cores shape.jobs half n) (observed_of shape.jobs seen) c

-- ---- how far it has come

-- the exploration, with these observed ranges and c states counted before
abbrev pub progress_of : ℕ → ℕ → List Range → ℕ → Result ℕ Stop → List ℕ → Exploration
progress_of m k seen c (Ok n) half = going (states_of m k half n) seen c
progress_of m k seen c (Err (Full l)) half = full l
progress_of m k seen c (Err (Late i e f)) half = miss i e f

-- a half of the table with room for cap states that holds n of them
pub record Half (js : List Job) (m k cap : ℕ) (half : List ℕ) (n : ℕ) : Type 0 where
  pub long : length half ≡ cap * state_words m k
  pub room : n ≤ cap
  pub sound : AllSound js m k half n

-- the index of the level that is built, of n states so far
abbrev pub IndexOf : Shape → List ℕ → List ℕ → ℕ → Type 0
IndexOf shape half heads n =
    Fits shape.cores shape.jobs (shape.capacity * state_words shape.cores shape.jobs) shape.index
    × Indexed shape.cores shape.jobs shape.index half heads n

-- the half of the level that is built, with its index
abbrev pub Target : List Job → Shape → List ℕ → List ℕ → ℕ → Type 0
Target js shape half heads n = Half js shape.cores shape.jobs shape.capacity half n × IndexOf shape half heads n

abbrev pub HalfAt : List Job → Shape → Result ℕ Stop → List ℕ → List ℕ → Type 0
HalfAt js shape (Ok n) half heads = Target js shape half heads n
HalfAt js shape (Err stop) half heads = Unit {0}

-- where states are linked, each that follows this one has a job that has not started
abbrev pub Linkable : Shape → List ℕ → Type 0
Linkable shape cur = 0 < shape.index.linked → level (state_in shape cur) + 1 < shape.jobs

-- the front of the state in hand
abbrev pub FrontOf : Shape → List ℕ → List ℕ → Type 0
FrontOf shape cur front = (earliest_at shape.cores ≤ length front) × (take (earliest_at shape.cores) front ≡ take (earliest_at shape.cores) cur)

-- what a step leaves: the words say what the definition's next exploration says, and can be gone on from
pub record Leaves (js : List Job) (shape : Shape) (next : ℕ → Exploration) (r : Result ℕ Stop) (half seen heads : List ℕ) : Type 0 where
  pub same : (c : ℕ) → progress_of shape.cores shape.jobs (observed_of shape.jobs seen) c r half ≡ next c
  pub sound : HalfAt js shape r half heads
  pub observed : Observed shape.jobs seen

-- what is given where the edges of a state are explored: the jobs, the state, the half of the next level and its index
pub record Explores (rows : List ℕ) (shape : Shape) (cur half : List ℕ) (n : ℕ) (heads : List ℕ) : Type 0 where
  pub setting : Setting rows shape.jobs shape.cores
  pub words : state_words shape.cores shape.jobs ≤ length cur
  pub sound : Sound (jobs_in shape rows) shape.cores shape.jobs cur
  pub linkable : Linkable shape cur
  pub target : Target (jobs_in shape rows) shape half heads n

-- ---- an edge

-- the job is eligible, and starts and finishes at these moments
pub record Follows (js : List Job) (σ : State) (x : JobStart) : Type 0 where
  pub starts : eligible js σ x.job ≡ true
  pub start : x.start ≡ earliest_start js σ x.job
  pub earliest : x.earliest ≡ earliest_finish js σ x.job
  pub latest : x.latest ≡ latest_finish js σ x.job

-- what was observed, widened by an edge
abbrev pub observed_by : Option JobStart → List Range → List Range
observed_by None seen = seen
observed_by (Some x) seen = observed seen x.job (range x.earliest x.latest)

-- what follows an edge, once it was observed
abbrev pub followed : List Job → ℕ → State → Option JobStart → List State → List Range → ℕ → Exploration
followed js cap σ None l seen c = going l seen c
followed js cap σ (Some x) l seen c =
    cond (ltb (job js x.job).deadline x.latest) (miss x.job x.earliest x.latest) (limited cap (after_start σ x) (stored (after_start σ x) l) seen c)
