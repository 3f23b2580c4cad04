-- An edge followed: what the definition makes of it, by the moments that the code has. Assumes nothing.
use Prim.Native.Nat.{ℕ, zero, suc, ◌+◌, ◌≤◌, ◌<◌}
use Rattle.std.specs.Prelude.{Option, Some, None, Result, Ok, Err}
use mathlib.Core.Path.{◌≡◌, refl, sym, ap, ◌∙◌, subst}
use mathlib.Core.Bool.{Bool, true, false, cond, ◌&&◌}
use mathlib.Core.List.{List, [], ◌∷◌, foldl, foldl-append}
use native.Mathlib.Omega.{arith}
use lib.Dec.{leb}
use lib.ListN.{get_or, length, take, drop, take-append-drop}
use lib.Seq.{take_all}
use Rattle.model.specs.Jobs.{Job, job}
use Rattle.model.specs.Folds.{ind}
use Rattle.model.specs.States.{Range, empty, range, is_range, State, started, level}
use Rattle.model.specs.Edges.{candidate, is_below, earliest_start, earliest_finish, work_conserving_bound, higher_priority_bound, eligible, latest_finish, successor}
use Rattle.model.specs.Exploration.{Exploration, going, full, miss, add_edge, try_job, try_jobs}
use Rattle.model.proofs.Booleans.{and_left}
use Rattle.model.proofs.Folds.{count_set}
use Rattle.model.proofs.Starts.{candidate_out}
use Rattle.model.proofs.Bounds.{successor_bounded}
use Rattle.model.specs.internal.Bounds.{TimedUpTo, Bounded}
use Rattle.jobs.specs.internal.JobRow.{jobs_of_rows, Setting, word, least_execution_at}
use Rattle.jobs.proofs.Jobs.{length_jobs, field_of}
use Rattle.states.specs.declared.starting.JobStart.{JobStart}
use Rattle.words.proofs.Tabulate.{length_tabulate}
use Rattle.states.specs.internal.Slots.{range_at, state_of, states_of}
use Rattle.states.specs.internal.Writing.{with_start, after_start}
use Rattle.edges.specs.internal.Edges.{start_of, edge_of, candidates}
use Rattle.edges.proofs.Listing.{fold_listed, fold_turn}
use Rattle.steps.specs.internal.Observed.{observed_of, Observed}
use Rattle.steps.specs.internal.Progress.{going_in, progress_of, HalfAt, Leaves, Follows, observed_by, followed}
use Rattle.steps.specs.declared.shape.Shape.{Shape}
use Rattle.steps.specs.declared.stop.Stop.{Stop}
use Rattle.steps.specs.declared.stop.Stop.TheVariants.{Full, Late}

-- ---- an edge that was found

module _ (js : List Job) (σ : State) (i : ℕ) where
  -- an edge that was found is that of the job, which is eligible, with its moments
  pub edge_follows : (x : JobStart) → edge_of js σ i ≡ Some x → (x.job ≡ i) × Follows js σ x
  unfolding edge_of
  edge_follows x = go (eligible js σ i) refl
    where
      go : (b : Bool) → eligible js σ i ≡ b → cond b (Some (start_of js σ i)) None ≡ Some x → (x.job ≡ i) × Follows js σ x
      go true q e =
          let same : start_of js σ i ≡ x = cc in
          subst (λ (y : JobStart). (y.job ≡ i) × Follows js σ y) same (refl, record { starts = q; start = refl; earliest = refl; latest = refl })
      go false q e = let z : ◌≡◌ {A = ℕ} 0 1 = cc in absurd (omega arith)

  -- the job is tried as its edge is observed and followed
  tried_by : (cap : ℕ) (edge : Option JobStart) → edge ≡ edge_of js σ i → (l : List State) (seen : List Range) (c : ℕ)
      → followed js cap σ edge l (observed_by edge seen) c ≡ try_job js cap σ i (going l seen c)
  unfolding edge_of try_job add_edge successor
  tried_by cap edge e l seen c = rw e (go (eligible js σ i))
    where
      go : (b : Bool) → followed js cap σ (cond b (Some (start_of js σ i)) None) l (observed_by (cond b (Some (start_of js σ i)) None) seen) c
          ≡ cond b (add_edge js cap σ i l seen c) (going l seen c)
      go true = refl
      go false = refl

-- ---- a job of the check

module _ (rows : List ℕ) (k m : ℕ) (setting : Setting rows k m) (i : ℕ) (h : i < k) where
  -- the job is one of the list
  pub inside : i < length (jobs_of_rows rows k)
  inside = omega (arith, length_jobs rows k)

  -- a job takes time
  pub most_positive : 1 ≤ (job (jobs_of_rows rows k) i).most_execution
  most_positive =
      let least : (job (jobs_of_rows rows k) i).least_execution ≡ word rows i least_execution_at = field_of rows k i least_execution_at h (omega arith) in
      omega (arith, least, (setting.executions i h).0, setting.timed.executions i inside)

-- ---- an edge that is followed

module _ (js : List Job) (σ : State) (x : JobStart) (follows : Follows js σ x) where
  -- the job has not started before
  pub fresh : started σ x.job ≡ false
  unfolding eligible
  fresh =
      let bounds = leb (earliest_start js σ x.job) (work_conserving_bound js σ) && is_below (earliest_start js σ x.job) (higher_priority_bound js σ x.job) in
      (candidate_out js σ x.job (and_left (candidate js σ x.job) bounds follows.starts)).0

  -- a job that takes time finishes after the start of time
  pub takes_time : 1 ≤ (job js x.job).most_execution → 1 ≤ x.latest
  unfolding latest_finish
  takes_time h = omega (arith, follows.latest)

  successor_is : successor js σ x.job ≡ after_start σ x
  unfolding successor
  successor_is =
      let s = earliest_start js σ x.job in
      let e = earliest_finish js σ x.job in
      subst (λ (z : ℕ). successor js σ x.job ≡ with_start σ x.job z x.earliest x.latest) (sym follows.start)
      (subst (λ (z : ℕ). successor js σ x.job ≡ with_start σ x.job s z x.latest) (sym follows.earliest)
      (subst (λ (z : ℕ). successor js σ x.job ≡ with_start σ x.job s e z) (sym follows.latest) refl))

  -- the times of the new state are bounded, where the job is in time
  pub new_bounded : (d : ℕ) → TimedUpTo d js → Bounded js d σ → x.job < length js → x.latest ≤ (job js x.job).deadline → Bounded js d (after_start σ x)
  new_bounded d timed g b h =
      subst (Bounded js d) successor_is (successor_bounded js d timed σ x.job (record { inside = b; starts = follows.starts; timely = omega (arith, follows.latest) }) g)

-- one job more has started
pub one_more_started : (m k : ℕ) (ws : List ℕ) (x : JobStart) → x.job < k → started (state_of m k ws) x.job ≡ false
    → level (after_start (state_of m k ws) x) ≡ level (state_of m k ws) + 1
unfolding state_of
one_more_started m k ws x h e =
    let σ = state_of m k ws in
    let b : x.job < length σ.finish = omega (arith, length_tabulate (range_at m k ws) 0 k) in
    omega (arith, count_set is_range σ.finish x.job (range x.earliest x.latest) empty b, ap ind e)

-- ---- the candidates of a state in turn

-- the exploration has stopped
abbrev pub Stopped : Exploration → Type 0
Stopped (going l seen c) = ⊥
Stopped (full n) = Unit {0}
Stopped (miss i e f) = Unit {0}

module _ (js : List Job) (cap : ℕ) (σ : State) where
  -- the listed jobs, from the first on
  abbrev pub try_listed : List ℕ → Exploration → Exploration
  try_listed l x = foldl (λ y i. try_job js cap σ i y) x l

  -- one listed job more
  pub one_more : (x : Exploration) (l : List ℕ) (t : ℕ) → t < length l → try_listed (take (t + 1) l) x ≡ try_job js cap σ (get_or l t 0) (try_listed (take t l) x)
  one_more x l t h = fold_turn (λ y i. try_job js cap σ i y) x l t h

  -- a job that is no candidate is not eligible
  left_out : (i : ℕ) → candidate js σ i ≡ false → (x : Exploration) → try_job js cap σ i x ≡ x
  unfolding try_job eligible
  left_out i e (going l seen c) = rw e
  left_out i e (full n) = refl
  left_out i e (miss j e' f) = refl

  stays : (x : Exploration) → Stopped x → (i : ℕ) → try_job js cap σ i x ≡ x
  unfolding try_job
  stays (going l seen c) h i = absurd h
  stays (full n) h i = refl
  stays (miss j e f) h i = refl

  -- once stopped, jobs change nothing
  pub jobs_stopped : (n : ℕ) (x : Exploration) → Stopped x → try_jobs js cap σ n x ≡ x
  unfolding try_jobs
  jobs_stopped zero x h = refl
  jobs_stopped (suc n) x h = ap (try_job js cap σ n) (jobs_stopped n x h) ∙ stays x h n

  listed_stopped : (l : List ℕ) (x : Exploration) → Stopped x → try_listed l x ≡ x
  listed_stopped [] x h = refl
  listed_stopped (i ∷ l) x h = ap (try_listed l) (stays x h i) ∙ listed_stopped l x h

  module _ (k : ℕ) (list : List ℕ) (listed : list ≡ candidates js σ k) (x : Exploration) where
    -- with all candidates, every job has been tried
    every_candidate : try_listed list x ≡ try_jobs js cap σ k x
    unfolding try_jobs
    every_candidate =
        rw listed
        (fold_listed (candidate js σ) (λ y i. try_job js cap σ i y) (λ j. try_jobs js cap σ j x) (λ j e. refl) (λ j e. left_out j e (try_jobs js cap σ j x)) k)

    -- with all listed jobs tried, every job has been tried
    pub all_tried : (t : ℕ) → length list ≤ t → try_listed (take t list) x ≡ try_jobs js cap σ k x
    all_tried t h = ap (λ l. try_listed l x) (take_all t list h) ∙ every_candidate

    -- once stopped, no later candidate changes it
    pub stopped : (y : Exploration) (t : ℕ) → Stopped y → y ≡ try_listed (take t list) x → y ≡ try_jobs js cap σ k x
    stopped y t st e =
        sym (listed_stopped (drop t list) y st) ∙ ap (try_listed (drop t list)) e
        ∙ sym (foldl-append (λ z i. try_job js cap σ i z) x (take t list) (drop t list)) ∙ ap (λ l. try_listed l x) (take-append-drop t list) ∙ every_candidate

-- ---- the same, by what the words say

-- a step that does not go on has stopped
pub ended : (stop : Stop) (m k : ℕ) (seen : List Range) (c : ℕ) (half : List ℕ) → Stopped (progress_of m k seen c (Err stop) half)
ended (Full l) m k seen c half = tt
ended (Late i e f) m k seen c half = tt

-- a job is tried once its edge is observed and followed
pub edge_tried : (js : List Job) (shape : Shape) (σ : State) (i : ℕ) (edge : Option JobStart) → edge ≡ edge_of js σ i
    → (n : ℕ) (half seen half' seen' heads' : List ℕ) (r : Result ℕ Stop) → observed_of shape.jobs seen' ≡ observed_by edge (observed_of shape.jobs seen)
    → Observed shape.jobs seen'
    → ((s : List Range) (c : ℕ) → progress_of shape.cores shape.jobs s c r half' ≡ followed js shape.capacity σ edge (states_of shape.cores shape.jobs half n) s c)
    → HalfAt js shape r half' heads'
    → Leaves js shape (λ c. try_job js shape.capacity σ i (going_in shape half n seen c)) r half' seen' heads'
edge_tried js shape σ i edge e n half seen half' seen' heads' r widened there follows sound =
    let l = states_of shape.cores shape.jobs half n in
    record {
      same = λ c. follows (observed_of shape.jobs seen') c ∙ ap (λ (s : List Range). followed js shape.capacity σ edge l s c) widened
          ∙ tried_by js σ i shape.capacity edge e l (observed_of shape.jobs seen) c;
      sound = sound;
      observed = there;
    }

module _ (js : List Job) (shape : Shape) (σ : State) (list : List ℕ) (from : ℕ → Exploration) where
  -- what is left once the first t of the listed jobs are tried
  abbrev pub Tried : ℕ → Result ℕ Stop → List ℕ → List ℕ → List ℕ → Type 0
  Tried t = Leaves js shape (λ c. try_listed js shape.capacity σ (take t list) (from c))

  -- one job more
  pub tried_more : (t : ℕ) {stored : ℕ} {half seen heads half' seen' heads' : List ℕ} {r : Result ℕ Stop} → t < length list → Tried t (Ok stored) half seen heads
      → Leaves js shape (λ c. try_job js shape.capacity σ (get_or list t 0) (going_in shape half stored seen c)) r half' seen' heads' → Tried (t + 1) r half' seen' heads'
  tried_more t h before leaves =
      record {
        same = λ c. leaves.same c ∙ ap (try_job js shape.capacity σ (get_or list t 0)) (before.same c) ∙ sym (one_more js shape.capacity σ (from c) list t h);
        sound = leaves.sound;
        observed = leaves.observed;
      }

  module _ (listed : list ≡ candidates js σ shape.jobs) where
    -- what is left by every job of the state
    abbrev pub AllTried : Result ℕ Stop → List ℕ → List ℕ → List ℕ → Type 0
    AllTried = Leaves js shape (λ c. try_jobs js shape.capacity σ shape.jobs (from c))

    -- the listed jobs are all that matter
    pub tried_all : (t : ℕ) {r : Result ℕ Stop} {half seen heads : List ℕ} → length list ≤ t → Tried t r half seen heads → AllTried r half seen heads
    tried_all t h leaves =
        record {
          same = λ c. leaves.same c ∙ all_tried js shape.capacity σ shape.jobs list listed (from c) t h;
          sound = leaves.sound;
          observed = leaves.observed;
        }

    -- once stopped, the jobs that are left change nothing
    pub tried_enough : (t : ℕ) {stop : Stop} {half seen heads : List ℕ} → Tried t (Err stop) half seen heads → AllTried (Err stop) half seen heads
    tried_enough t {stop = stop} {half = half} {seen = seen} leaves =
        record {
          same = λ c. stopped js shape.capacity σ shape.jobs list listed (from c) _ t (ended stop shape.cores shape.jobs (observed_of shape.jobs seen) c half) (leaves.same c);
          sound = leaves.sound;
          observed = leaves.observed;
        }
