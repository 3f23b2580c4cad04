-- Where the analysis accepts, at every moment of a run a stored state covers it, and what has started finishes within the reported bounds and in time.
-- Assumes nothing.
use Prim.Native.Nat.{ℕ, zero, suc, ◌+◌, ◌≤◌, ◌<◌, zero-le}
use mathlib.Core.Path.{◌≡◌, refl, ap}
use mathlib.Core.Bool.{true}
use mathlib.Core.List.{List}
use native.Mathlib.Omega.{arith}
use lib.ListN.{get_or, length, set, replicate}
use Rattle.model.specs.Folds.{ind, count}
use Rattle.model.specs.Jobs.{Job, job}
use Rattle.model.specs.Dispatch.{Scenario}
use Rattle.model.specs.States.{Range, empty, range, State, initial}
use Rattle.model.specs.Edges.{eligible, successor}
use Rattle.model.specs.Guarantee.{WellFormed, Admissible, Contains}
use Rattle.model.proofs.Folds.{count_set, count_below, count_none, set_each, get_or_same}
use Rattle.model.proofs.Availability.{count_up_to, weighs_one}
use Rattle.model.proofs.Enclosure.{Any, any_map, any_all, Wider, Shaped}
use Rattle.model.proofs.Coverage.{EdgeCovered, Coverage}
use Rattle.model.proofs.History.{Entry, unstarted, ran, entry, has_started, runs_past}
use Rattle.model.proofs.Run.{none_started, Start, Lasting}
use Rattle.model.proofs.Starts.{Covers, covers_wider, start_eligible, finish_within, covers_start}

count_zeros : (u n : ℕ) → count_up_to u (replicate n 0) ≡ n
unfolding count
count_zeros u zero = refl
count_zeros u (suc n) = omega (arith, weighs_one 0 u zero-le, count_zeros u n)

-- the initial state covers the beginning of a run
pub covers_initial : (js : List Job) (m : ℕ) → Covers m (initial m (length js)) 0 (none_started js)
covers_initial js m =
    record {
      finishes = λ k. rw (get_or_same (length js) k empty, get_or_same (length js) k unstarted) tt;
      possibly = λ u l. omega (arith, count_zeros u m);
      certainly = λ u l. omega (arith, count_zeros u m, count_none (runs_past u) (length js) unstarted refl);
    }

-- what covers a run at t covers it later too, while no job starts
pub covers_later : (m : ℕ) (σ : State) (t : ℕ) (h : List Entry) → Covers m σ t h → Covers m σ (suc t) h
covers_later m σ t h d = record { finishes = d.finishes; possibly = λ u l. d.possibly u (omega arith); certainly = d.certainly }

-- the start of a job is one more
pub one_more : (js : List Job) (m : ℕ) (s : Scenario) (t : ℕ) (h : List Entry) (i : ℕ) → Start js m s t h i
    → count has_started (set h i (ran t (t + s.execution i))) ≡ suc (count has_started h)
one_more js m s t h i start =
    omega (arith, count_set has_started h i (ran t (t + s.execution i)) unstarted (omega (arith, start.inside, start.inv.all_jobs)), ap ind start.is.fresh)

-- and there was room for it
pub some_left : (js : List Job) (m : ℕ) (s : Scenario) (t : ℕ) (h : List Entry) (i : ℕ) → Start js m s t h i → count has_started h < length js
some_left js m s t h i start =
    omega (arith, count_below has_started h i unstarted (omega (arith, start.inside, start.inv.all_jobs)) start.is.fresh, start.inv.all_jobs)

module _ (js : List Job) (m : ℕ) (s : Scenario) (bounds : List Range) (levels : ℕ → List State) where
  -- a job that has started finishes within its bounds and in time
  abbrev pub EntryInBounds : ℕ → Entry → Type 0
  EntryInBounds k unstarted = Unit {0}
  EntryInBounds k (ran a f) = Contains (get_or bounds k empty) f × (f ≤ (job js k).deadline)

  pub record Covered (t : ℕ) (h : List Entry) : Type 0 where
    pub covers : Any (λ σ. Covers m σ t h) (levels (count has_started h))
    pub in_bounds : (k : ℕ) → EntryInBounds k (entry h k)

  module _ (coverage : Coverage js m bounds levels) (well_formed : WellFormed js m) (admissible : Admissible js s) where
    -- ---- a job starts

    module _ (t : ℕ) (h : List Entry) (i : ℕ) (start : Start js m s t h i) where
      abbrev f : ℕ
      f = t + s.execution i

      abbrev new : List Entry
      new = set h i (ran t f)

      in_history : i < length h
      in_history = omega (arith, start.inside, start.inv.all_jobs)

      abbrev Started : Type 0
      Started = EntryInBounds i (ran t f) × Any (λ σ. Covers m σ t new) (levels (suc (count has_started h)))

      -- some state of the level covers the run: its edge for i is covered too
      started : Any (λ σ. Covers m σ t h) (levels (count has_started h)) → Started
      started covers =
          go (any_all (levels n) (coverage.shaped n) (coverage.edges n (some_left js m s t h i start)) covers)
        where
          n : ℕ
          n = count has_started h

          contains : (r : Range) (e g x : ℕ) → Wider r (range e g) → Wider (range e g) (range x x) → Contains r x
          contains empty e g x a b = absurd a
          contains (range y z) e g x a b = omega arith

          go : (σ : State) × Shaped m (length js) σ × ((i : ℕ) → i < length js → eligible js σ i ≡ true → EdgeCovered js bounds (levels (suc (count has_started h))) σ i) × Covers m σ t h → Started
          go x =
              let e = x.2 i start.inside (start_eligible js m s admissible x.0 t h x.3 well_formed.cores x.1 start.inv.idle start.room i start.inside start.is start.firstly) in
              let w = finish_within js m s admissible x.0 t h x.3 well_formed.cores x.1 start.inv.idle start.room i start.inside start.is start.firstly in
              let c = covers_start js m s admissible x.0 t h x.3 well_formed.cores x.1 start.inv.idle start.room i start.inside start.is start.firstly start.inv.all_jobs in (
                (contains (get_or bounds i empty) _ _ f e.bounded w, omega (arith, w.1, e.timely)),
                any_map (levels (suc (count has_started h))) (λ τ d. covers_wider m τ (successor js x.0 i) t new d c) e.enclosed,
              )

    -- ---- the run

    pub covered : Lasting js m s Covered
    covered =
        record {
          begins =
              record {
                covers = rw (count_none has_started (length js) unstarted refl) (any_map (levels 0) (λ τ c. covers_wider m τ (initial m (length js)) 0 (none_started js) c (covers_initial js m)) coverage.begins);
                in_bounds = λ k. rw (get_or_same (length js) k unstarted) tt;
              };
          starts = λ t h i start c.
              let x = started t h i start c.covers in
              record {
                covers = rw (one_more js m s t h i start) x.1;
                in_bounds = set_each EntryInBounds h i (ran t (t + s.execution i)) unstarted (in_history t h i start) c.in_bounds x.0;
              };
          passes = λ t h inv c.
              record {
                covers = any_map (levels (count has_started h)) (λ σ d. covers_later m σ t h d) c.covers;
                in_bounds = c.in_bounds;
              };
        }
