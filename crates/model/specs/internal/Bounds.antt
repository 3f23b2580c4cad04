-- Times that are bounded: of jobs, and of states. For internal contracts and proofs. Assumes nothing.
use Rattle.std.specs.Prelude.{ℕ, ◌≤◌, ◌<◌, ◌≡◌, List, get_or, length}
use Rattle.model.specs.Jobs.{Job, job}
use Rattle.model.specs.States.{Range, empty, range, State, finish_of}
use Rattle.model.specs.internal.Sorted.{Ordered}

-- the job's ranges are not empty, and its releases and deadline are at most d
pub record TimedUpTo (d : ℕ) (js : List Job) : Type 0 where
  pub releases : (i : ℕ) → i < length js → ((job js i).earliest_release ≤ (job js i).latest_release) × ((job js i).latest_release ≤ d)
  pub executions : (i : ℕ) → i < length js → (job js i).least_execution ≤ (job js i).most_execution
  pub deadlines : (i : ℕ) → i < length js → (job js i).deadline ≤ d

-- no bell rests for longer than r
abbrev pub RestsUpTo : ℕ → List Job → Type 0
RestsUpTo r js = (i : ℕ) → i < length js → (job js i).rest ≤ r

-- every time is at most d
abbrev pub UpTo : ℕ → List ℕ → Type 0
UpTo d l = (k : ℕ) → get_or l k 0 ≤ d

-- a range lies between a and d, in order
abbrev pub Between : ℕ → ℕ → Range → Type 0
Between a d empty = Unit {0}
Between a d (range e f) = (a ≤ e) × (e ≤ f) × (f ≤ d)

-- The times of a state are at most d, no job finishes before its earliest release, and availabilities are sorted.
pub record Bounded (js : List Job) (d : ℕ) (σ : State) : Type 0 where
  pub jobs : length σ.finish ≡ length js
  pub finishes : (k : ℕ) → Between (job js k).earliest_release d (finish_of σ k)
  pub possibly : UpTo d σ.possibly_free
  pub certainly : UpTo d σ.certainly_free
  pub ordered : Ordered σ
