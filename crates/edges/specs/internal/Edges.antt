-- What is given where the edges of a state are asked for, and what is answered. Assumes nothing.
use Rattle.std.specs.Prelude.{ℕ, zero, suc, ◌+◌, ◌*◌, ◌<◌, ◌≤◌, min, ◌≡◌, Bool, true, cond, eqb, get_or, length, Option, Some, None}
use mathlib.Core.List.{List, [], ◌∷◌, ◌++◌, map, foldl}
use Rattle.model.specs.Limits.{latest_time, longest_rest}
use Rattle.model.specs.Folds.{member, largest, all, Limit, infinite, finite, smaller}
use Rattle.model.specs.Jobs.{Job, job, nearest, as_list, predecessors, before}
use Rattle.model.specs.States.{State}
use Rattle.model.specs.Edges.{candidate, certainly_ready, certainly_ready_beside, earliest_start, eligible, earliest_finish, latest_finish}
use Rattle.model.specs.Eligibility.{in_order}
use Rattle.model.specs.Exploration.{state_words}
use Rattle.model.specs.internal.Bounds.{Bounded}
use Rattle.jobs.specs.internal.JobRow.{jobs_of_rows, Setting}
use Rattle.jobs.specs.internal.Order.{precedence}
use Rattle.states.specs.declared.starting.JobStart.{JobStart}
use Rattle.states.specs.internal.Slots.{in_set, state_of}

-- the rows of a job set, and the words of a state, whose times are bounded
pub record Readable (rows : List ℕ) (k : ℕ) (s : List ℕ) (m : ℕ) : Type 0 where
  pub setting : Setting rows k m
  pub words : state_words m k ≤ length s
  pub bounded : Bounded (jobs_of_rows rows k) latest_time (state_of m k s)

-- no job starts later, for a bell may have to rest after the latest of these times
abbrev pub latest_start_time : ℕ
latest_start_time = latest_time + longest_rest

-- ---- the sets of predecessors

-- the predecessors of job i, which are earlier jobs, as a set: bit w for job w
pub record PredecessorSet (js : List Job) (i set : ℕ) : Type 0 where
  pub members : (w : ℕ) → in_set set w ≡ member w (predecessors js i)
  pub earlier : (w : ℕ) → in_set set w ≡ true → w < i

-- the sets of k jobs, one after the other
abbrev pub PredecessorSets : List Job → ℕ → List ℕ → Type 0
PredecessorSets js k sets = (i : ℕ) → i < k → PredecessorSet js i (get_or sets i 0)

-- ---- the candidates

-- the numbers below n that pass, rising
unfoldable pub list_below : (ℕ → Bool) → ℕ → List ℕ
list_below p zero = []
list_below p (suc n) = cond (p n) (list_below p n ++ (n ∷ [])) (list_below p n)

-- the candidates among k jobs, by rising number
abbrev pub candidates : List Job → State → ℕ → List ℕ
candidates js σ k = list_below (candidate js σ) k

-- a state whose edges are asked for: its candidates are listed
pub record Prepared (rows : List ℕ) (k : ℕ) (s : List ℕ) (m : ℕ) (list : List ℕ) : Type 0 where
  pub readable : Readable rows k s m
  pub listed : list ≡ candidates (jobs_of_rows rows k) (state_of m k s) k

-- ---- rests

-- from when on the bell of job i has rested, by these finish times: that of the job before it on the bell, and the rest; 0 where there is none
unfoldable pub rested_after : List Job → ℕ → (ℕ → ℕ) → ℕ
unfolding largest nearest
rested_after js i finish = cond (eqb (job js i).rest 0) 0 (largest all (λ w. finish w + (job js i).rest) (as_list (nearest js (job js i).bell i)))

-- ---- the bounds

-- a limit in a word: no time is as large as the word for infinity
abbrev pub no_limit : ℕ
no_limit = 4294967295

abbrev pub limit_word : Limit → ℕ
limit_word infinite = no_limit
limit_word (finite x) = x

-- one element of a list in turn lowers the smallest so far, where it passes
abbrev pub lower : (ℕ → Bool) → (ℕ → ℕ) → Limit → ℕ → Limit
lower q f x j = cond (q j) (smaller (f j) x) x

-- the smallest f j over the elements that pass
abbrev pub smallest_in : (ℕ → Bool) → (ℕ → ℕ) → List ℕ → Limit
smallest_in q f = foldl (lower q f) infinite

-- the higher-priority bound of job i over these jobs alone
abbrev pub bound_over : List Job → State → ℕ → List ℕ → Limit
bound_over js σ i = smallest_in (λ j. before js j i) (certainly_ready_beside js σ i)

-- every moment is below this
abbrev pub moments : ℕ
moments = 67108864

-- a job that may hold others back, in a word: where it stands in the order of priority, and from when on it is certainly ready
abbrev pub holder_word : List Job → State → ℕ → ℕ
holder_word js σ j = precedence js j * moments + certainly_ready js σ j

-- such words, each of one of k jobs
pub record Holders (js : List Job) (σ : State) (k : ℕ) (ws : List ℕ) : Type 0 where
  pub jobs : List ℕ
  pub words : ws ≡ map (holder_word js σ) jobs
  pub inside : (t : ℕ) → t < length jobs → (get_or jobs t 0 < k) × (certainly_ready js σ (get_or jobs t 0) < moments)

-- the jobs in the words hold every job back as those in the list do: before `past` their bounds are the same
pub record Holding (js : List Job) (σ : State) (k past : ℕ) (list ws : List ℕ) : Type 0 where
  pub holders : Holders js σ k ws
  pub enough : (i : ℕ) → min past (limit_word (bound_over js σ i holders.jobs)) ≡ min past (limit_word (bound_over js σ i list))

-- ---- the edge

-- how job i starts
abbrev pub start_of : List Job → State → ℕ → JobStart
start_of js σ i = record { job = i; start = earliest_start js σ i; earliest = earliest_finish js σ i; latest = latest_finish js σ i }

-- the edge of job i, if it is eligible by document 01's two comparisons; none if not
unfoldable pub edge_of : List Job → State → ℕ → Option JobStart
unfolding eligible earliest_start earliest_finish latest_finish
edge_of js σ i = cond (eligible js σ i) (Some (start_of js σ i)) None

-- .. and by the one of its earliest and latest start
unfoldable pub edge_in_order : List Job → State → ℕ → Option JobStart
unfolding in_order earliest_start earliest_finish latest_finish
edge_in_order js σ i = cond (in_order js σ i) (Some (start_of js σ i)) None
