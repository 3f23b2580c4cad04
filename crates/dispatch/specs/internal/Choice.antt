-- Which core is free first, and which job starts next. Assumes nothing.
use Rattle.std.specs.Prelude.{ℕ, ◌+◌, ◌*◌, ◌≤◌, ◌<◌, max, ◌≡◌, List, get_or, Option, Some, None}
use Rattle.model.specs.Jobs.{Job, job}
use Rattle.dispatch.specs.internal.Wakes.{asleep}

-- of the first n cores none is free before core r
abbrev pub IsFirst : List ℕ → ℕ → ℕ → Type 0
IsFirst cores n r = (c : ℕ) → c < n → get_or cores r 0 ≤ get_or cores c 0

-- a moment and a priority in one number, in the order of starts
abbrev pub start_key : ℕ → ℕ → ℕ
start_key t priority = t * 4294967296 + priority

-- of job j, where a core is free from a moment on
unfoldable pub key_of : List Job → List ℕ → ℕ → ℕ → ℕ
key_of js wakes from j = start_key (max from (get_or wakes j 0)) (job js j).priority

-- the keys of jobs that are asleep are not below
abbrev pub asleep_key : ℕ
asleep_key = start_key asleep 0

-- of k jobs the one with the least key that is awake, the smallest such
pub record IsLeast (key : ℕ → ℕ) (k r : ℕ) : Type 0 where
  pub inside : r < k
  pub awake : key r < asleep_key
  pub least : (j : ℕ) → j < k → (key r ≤ key j) × (key j ≡ key r → r ≤ j)

-- the job that starts next, or that none is awake
abbrev pub IsNext : (ℕ → ℕ) → ℕ → Option ℕ → Type 0
IsNext key k None = (j : ℕ) → j < k → asleep_key ≤ key j
IsNext key k (Some r) = IsLeast key k r
