-- Request 107, stated: of a phrase with nothing uncertain there is one run, and the analysis says what that run does. Assumes nothing.
use Rattle.std.specs.Prelude.{ℕ, suc, ◌≤◌, ◌<◌, ◌≡◌, Bool, ◌&&◌, List, [], ◌∷◌, eqb, length}
use Rattle.std.proofs.Math.Option.{Option, none, some}
use Rattle.std.proofs.Math.Dec.{ltb}
use Rattle.words.specs.Tabulate.{tabulate}
use Rattle.model.specs.Folds.{Limit, infinite, finite, smallest}
use Rattle.model.specs.Jobs.{Job, job}
use Rattle.model.specs.Dispatch.{Scenario, first_of, run}
use Rattle.model.specs.States.{Range, range, State}
use Rattle.model.specs.Exploration.{going, miss, explored, Verdict, accepted, late, analysis}
use Rattle.model.specs.Guarantee.{Admissible}
use Rattle.model.specs.Playing.{start_time, finish_time}

-- Nothing of the jobs is uncertain: each has one release time and one execution time (ra = rb and ca = cb throughout).
pub record Certain (js : List Job) : Type 0 where
  pub releases : (i : ℕ) → i < length js → (job js i).earliest_release ≡ (job js i).latest_release
  pub executions : (i : ℕ) → i < length js → (job js i).least_execution ≡ (job js i).most_execution

-- the scenario of these times
abbrev pub only_scenario : List Job → Scenario
only_scenario js = record { release = λ i. (job js i).earliest_release; execution = λ i. (job js i).least_execution }

-- ---- the verdict on a run, of which the analysis knows nothing

module _ (js : List Job) (m : ℕ) (s : Scenario) where
  -- the job finishes after its deadline
  unfoldable pub is_late : ℕ → Bool
  unfolding finish_time
  is_late k = ltb (job js k).deadline (finish_time js m s k)

  -- of the late jobs that start at this moment, the first by priority, as the dispatch rule starts them
  abbrev pub first_at : Limit → Option ℕ
  first_at infinite = none
  first_at (finite t) = first_of js (λ k. is_late k && eqb (start_time js m s k) t) (length js)

  -- The first late job in the order in which the run starts jobs: it is one of those that start first.
  unfoldable pub first_late : Option ℕ
  unfolding is_late start_time smallest first_of
  first_late = first_at (smallest is_late (start_time js m s) (length js))

  -- Accepted where no job is late: both bounds of each job are its finish time, and a state is stored for each level from 0 to K. Else late, with the first
  -- late job; both its finish times are the one in the run.
  abbrev pub verdict_by : Option ℕ → Verdict
  verdict_by none = accepted (tabulate (λ k. range (finish_time js m s k) (finish_time js m s k)) 0 (length js)) (suc (length js))
  verdict_by (some i) = late i (finish_time js m s i) (finish_time js m s i)

  unfoldable pub run_verdict : Verdict
  unfolding first_late finish_time tabulate
  run_verdict = verdict_by first_late

-- ---- the analysis of jobs with nothing uncertain

-- What is promised of it where a level has room for a state.
pub record Decided (js : List Job) (m cap : ℕ) : Type 0 where
  -- There is one run: every admissible scenario gives it.
  pub one_run : (s : Scenario) → Admissible js s → (t : ℕ) → run js m s t ≡ run js m (only_scenario js) t
  -- Each level that is completed holds one state; so n + 1 states have been counted once level n is.
  pub one_state : (n : ℕ) → n ≤ length js → (l : List State) (seen : List Range) (c : ℕ) → explored js m cap n ≡ going l seen c → (length l ≡ 1) × (c ≡ suc n)
  -- The verdict is that on the one run.
  pub verdict : analysis js m cap ≡ run_verdict js m (only_scenario js)
  -- Where it is late, it was so in level n + 1, and every level up to n had been completed, with one state.
  pub stopped : (i e f : ℕ) → analysis js m cap ≡ late i e f
      → (n : ℕ) × (n < length js) × (explored js m cap (suc n) ≡ miss i e f)
      × ((k : ℕ) → k ≤ n → (σ : State) × (seen : List Range) × (explored js m cap k ≡ going (σ ∷ []) seen (suc k)))
