-- The start and the finish time of each job in a run, read off the run itself, and what holds of every run, accepted or not. Assumes nothing.
use Rattle.std.specs.Prelude.{ℕ, zero, suc, ◌+◌, ◌≤◌, ◌<◌, ◌≡◌, Bool, not, cond, List, length}
use Rattle.model.specs.Folds.{largest_below, sum}
use Rattle.model.specs.Jobs.{Job, job}
use Rattle.model.specs.Dispatch.{Scenario, Status, waiting, running, done, status, is_waiting, run}
use Rattle.model.specs.Guarantee.{status_at, Overlap}

-- The latest release, and after it all executions and rests: by then every run is over.
unfoldable pub horizon : List Job → Scenario → ℕ
unfolding largest_below sum
horizon js s = largest_below s.release (length js) + sum (λ k. s.execution k + (job js k).rest) (length js)

-- the first t up to n that passes; n where none does
unfoldable pub first_time : (ℕ → Bool) → ℕ → ℕ
first_time p zero = zero
first_time p (suc n) = cond (p (first_time p n)) (first_time p n) (suc n)

-- the f of a job that runs until f
abbrev pub runs_until : Status → ℕ
runs_until waiting = 0
runs_until (running f) = f
runs_until (done f) = 0

-- The start of a job: the first t at which, once the steps are done, it no longer waits.
unfoldable pub start_time : List Job → ℕ → Scenario → ℕ → ℕ
unfolding run horizon first_time
start_time js m s k = first_time (λ t. not (is_waiting (status (run js m s t).statuses k))) (horizon js s)

-- Its finish time (its end): the f until which it then runs.
unfoldable pub finish_time : List Job → ℕ → Scenario → ℕ → ℕ
unfolding run start_time
finish_time js m s k = runs_until (status (run js m s (start_time js m s k)).statuses k)

-- What holds of the whole run that a scenario gives, whether the phrase is accepted or not.
pub record Played (js : List Job) (m : ℕ) (s : Scenario) : Type 0 where
  -- Every job starts exactly once: at every t it stands as its start and its finish time say.
  pub once : (k : ℕ) → k < length js → (t : ℕ) → status (run js m s t).statuses k ≡ status_at (start_time js m s k) (finish_time js m s k) t
  pub released : (k : ℕ) → k < length js → s.release k ≤ start_time js m s k
  pub executed : (k : ℕ) → k < length js → finish_time js m s k ≡ start_time js m s k + s.execution k
  -- It finishes, not later than the latest release plus all executions and rests.
  pub over : (k : ℕ) → k < length js → finish_time js m s k ≤ horizon js s
  -- No two jobs of one bell overlap.
  pub apart : (i j : ℕ) → i < length js → j < length js → (i ≡ j → ⊥) → (job js i).bell ≡ (job js j).bell
      → Overlap (start_time js m s i) (finish_time js m s i) (start_time js m s j) (finish_time js m s j) → ⊥
  -- A job starts at least its bell's rest after every earlier job of that bell finished.
  pub rested : (i j : ℕ) → i < j → j < length js → (job js i).bell ≡ (job js j).bell → finish_time js m s i + (job js j).rest ≤ start_time js m s j
