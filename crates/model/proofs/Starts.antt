-- A state covers a moment of a run: the relation, and that it passes on to the next state when the dispatch rule starts a job. Assumes nothing.
use Prim.Native.Nat.{ℕ, suc, ◌+◌, ◌≤◌, ◌<◌, max}
use mathlib.Core.Path.{◌≡◌, refl, sym, ap, ◌∙◌}
use mathlib.Core.Logic.{inl, inr, ⊎_elim}
use mathlib.Core.Bool.{Bool, true, false, not, ◌&&◌, false≢true}
use mathlib.Core.List.{List, tail}
use native.Mathlib.Omega.{arith}
use native.Mathlib.Decide.{ℕ_discrete}
use lib.Dec.{leb, ltb}
use lib.ListN.{get_or, length, set}
use lib.Seq.{get_or-set_same, get_or-set_other}
use borrow.Author.Tests.{leb-true, leb-false, le-leb, lt-ltb, le-ltb, not-true}
use Rattle.model.specs.Folds.{ind, every, member, all, Limit, infinite, finite, smallest}
use Rattle.model.specs.Jobs.{Job, job, predecessors, rest_of, before}
use Rattle.model.specs.Dispatch.{Scenario}
use Rattle.model.specs.States.{Range, empty, range, is_range, earliest, latest, State, finish_of, started, first}
use Rattle.model.specs.Edges.{or_zero, is_below, last_below, candidate, possibly_ready, certainly_ready, earliest_start, work_conserving_bound, rested_with, certainly_ready_beside, higher_priority_bound, eligible, latest_start, earliest_finish, latest_finish, availability, successor}
use Rattle.model.specs.Guarantee.{Admissible}
use Rattle.model.proofs.Booleans.{cases, and_left, and_right, and_both, ind_le}
use Rattle.model.proofs.Folds.{every_in, every_out, largest_le, le_largest, Smallest, smallest_is, count_mono}
use Rattle.model.proofs.Availability.{count_up_to, Weighs, weighs, weighs_one, weighs_none, availability_from, availability_before, count_first}
use Rattle.model.proofs.Enclosure.{Wider, Encloses, Shaped}
use Rattle.model.proofs.Induction.{finish_range}
use Rattle.model.proofs.History.{Entry, unstarted, ran, entry, has_started, runs_past, busy, Rested, rested_less, rested_started, busy_start, Ready, Idle}

-- ---- the relation

-- a job has started in the state exactly if it did in the run, and then finishes within its range
abbrev pub Fits : Range → Entry → Type 0
Fits empty unstarted = Unit {0}
Fits empty (ran start x) = ⊥
Fits (range e f) unstarted = ⊥
Fits (range e f) (ran start x) = (e ≤ x) × (x ≤ f)

-- a range fits the entry of a started job only
pub fits_started : (a : Range) (x : Entry) → Fits a x → is_range a ≡ has_started x
fits_started empty unstarted h = refl
fits_started empty (ran start x) h = absurd h
fits_started (range e f) unstarted h = absurd h
fits_started (range e f) (ran start x) h = refl

fits_wider : (a b : Range) (x : Entry) → Wider a b → Fits b x → Fits a x
fits_wider empty empty x w h = h
fits_wider empty (range e f) x w h = absurd w
fits_wider (range a b) empty x w h = absurd w
fits_wider (range a b) (range e f) unstarted w h = h
fits_wider (range a b) (range e f) (ran start x) w h = omega arith

fits_rested : (u r : ℕ) (a : Range) (x : Entry) → Fits a x → is_range a ≡ true → latest a + r ≤ u → Rested u r x
fits_rested u r empty x h e l = absurd (false≢true e)
fits_rested u r (range a b) unstarted h e l = h
fits_rested u r (range a b) (ran start f) h e l = omega arith

rested_earliest : (u r : ℕ) (a : Range) (x : Entry) → Fits a x → Rested u r x → earliest a + r ≤ u
rested_earliest u r empty unstarted h l = absurd l
rested_earliest u r empty (ran start f) h l = absurd h
rested_earliest u r (range a b) unstarted h l = absurd h
rested_earliest u r (range a b) (ran start f) h l = omega arith

-- The state covers the run at t: from t on every core is possibly free or busy, and where a core is certainly free, all that are certainly free
-- and all busy ones are at most m.
pub record Covers (m : ℕ) (σ : State) (t : ℕ) (h : List Entry) : Type 0 where
  pub finishes : (k : ℕ) → Fits (finish_of σ k) (entry h k)
  pub possibly : (u : ℕ) → t ≤ u → m ≤ count_up_to u σ.possibly_free + busy u h
  pub certainly : (u : ℕ) → 1 ≤ count_up_to u σ.certainly_free → count_up_to u σ.certainly_free + busy u h ≤ m

-- what encloses a covering state covers too
pub covers_wider : (m : ℕ) (τ σ : State) (t : ℕ) (h : List Entry) → Encloses τ σ → Covers m σ t h → Covers m τ t h
covers_wider m τ σ t h c r =
    record {
      finishes = λ k. fits_wider (finish_of τ k) (finish_of σ k) (entry h k) (c.finishes k) (r.finishes k);
      possibly = λ u l. omega (arith, c.possibly u, r.possibly u l);
      certainly = λ u l. omega (arith, c.certainly u, r.certainly u (omega (arith, c.certainly u)));
    }

abbrev Below : ℕ → Limit → Type 0
Below x infinite = Unit {0}
Below x (finite y) = x < y

-- ---- candidates

-- the job has not started, and its predecessors have
abbrev pub Candidate : List Job → State → ℕ → Type 0
Candidate js σ i = (started σ i ≡ false) × ((w : ℕ) → member w (predecessors js i) ≡ true → started σ w ≡ true)

-- the test of a candidate passes where these hold
pub candidate_in : (js : List Job) (σ : State) (i : ℕ) → Candidate js σ i → candidate js σ i ≡ true
unfolding candidate
candidate_in js σ i c = and_both (not (started σ i)) (every (started σ) (predecessors js i)) (ap not c.0) (every_in (started σ) (predecessors js i) c.1)

-- and these hold where it passes
pub candidate_out : (js : List Job) (σ : State) (i : ℕ) → candidate js σ i ≡ true → Candidate js σ i
unfolding candidate
candidate_out js σ i e = (
  not-true (started σ i) (and_left (not (started σ i)) (every (started σ) (predecessors js i)) e),
  every_out (started σ) (predecessors js i) (and_right (not (started σ i)) (every (started σ) (predecessors js i)) e),
)

-- what has rested with i is one of i's predecessors, for which i asks no less than j
pub rested_with_holds : (js : List Job) (i j w : ℕ) → rested_with js i j w ≡ true → (member w (predecessors js i) ≡ true) × (rest_of js j w ≤ rest_of js i w)
unfolding rested_with
rested_with_holds js i j w e = (
  and_left (member w (predecessors js i)) (leb (rest_of js j w) (rest_of js i w)) e,
  leb-true (rest_of js j w) (rest_of js i w) (and_right (member w (predecessors js i)) (leb (rest_of js j w) (rest_of js i w)) e),
)

module _ (js : List Job) (m : ℕ) (s : Scenario) (admissible : Admissible js s) (σ : State) (t : ℕ) (h : List Entry) (covers : Covers m σ t h) where
  -- a candidate whose latest release is past, and whose predecessors have rested, is ready
  candidate_ready : (j u : ℕ) → j < length js → candidate js σ j ≡ true → (job js j).latest_release ≤ u
      → ((w : ℕ) → member w (predecessors js j) ≡ true → started σ w ≡ true → Rested u (rest_of js j w) (entry h w)) → Ready js s u h j
  candidate_ready j u b c l f =
      record {
        fresh = sym (fits_started (finish_of σ j) (entry h j) (covers.finishes j)) ∙ (candidate_out js σ j c).0;
        released = omega (arith, (admissible.releases j b).1);
        served = λ w q. f w q ((candidate_out js σ j c).1 w q);
      }

  -- where there is a candidate, no moment past the work-conserving bound goes by
  not_past_bound : 1 ≤ m → Shaped m (length js) σ → (i : ℕ) → i < length js → candidate js σ i ≡ true → (p : ℕ) → Idle js m s p h → work_conserving_bound js σ < p → ⊥
  unfolding work_conserving_bound certainly_ready
  not_past_bound cores shaped i b c p idle l =
      go (smallest (candidate js σ) (certainly_ready js σ) (length js)) (smallest_is (candidate js σ) (certainly_ready js σ) (length js)) l
    where
      go : (x : Limit) → Smallest (candidate js σ) (certainly_ready js σ) (length js) x → max (first σ.certainly_free) (or_zero x) < p → ⊥
      go infinite none l = none i b c
      go (finite x) least l =
          let a = least.0 in
          let u : ℕ = max (first σ.certainly_free) x in
          let free : 1 ≤ count_up_to u σ.certainly_free = omega (arith, count_first u m σ.certainly_free cores shaped.certainly, weighs_one (first σ.certainly_free) u (omega arith)) in
          let ready = candidate_ready a.0 u a.1 a.2 (omega (arith, a.3))
          (λ w q e. fits_rested u (rest_of js a.0 w) (finish_of σ w) (entry h w) (covers.finishes w) e
          (omega (arith, a.3, le_largest all (λ v. latest (finish_of σ v) + rest_of js a.0 v) (predecessors js a.0) w q refl)))
          in omega (arith, covers.certainly u free, idle u l a.0 a.1 ready)

  -- ---- job i starts at t: it is ready, a core is free, and no ready job goes before it

  module _ (cores : 1 ≤ m) (shaped : Shaped m (length js) σ) (idle : Idle js m s t h) (room : busy t h < m) (i : ℕ) (inside : i < length js) (is : Ready js s t h i)
      (firstly : (j : ℕ) → j < length js → Ready js s t h j → before js j i ≡ true → ⊥) where
    ready_candidate : candidate js σ i ≡ true
    ready_candidate =
        candidate_in js σ i (
          fits_started (finish_of σ i) (entry h i) (covers.finishes i) ∙ is.fresh,
          λ w q. fits_started (finish_of σ w) (entry h w) (covers.finishes w) ∙ rested_started t (rest_of js i w) (entry h w) (is.served w q),
        )

    earliest_le : earliest_start js σ i ≤ t
    unfolding earliest_start possibly_ready
    earliest_le =
        omega (
          arith,
          shaped.possibly_first t (omega (arith, covers.possibly t (omega arith))),
          (admissible.releases i inside).0,
          is.released,
          largest_le all (λ w. earliest (finish_of σ w) + rest_of js i w) (predecessors js i) t
              (λ w q. rested_earliest t (rest_of js i w) (finish_of σ w) (entry h w) (covers.finishes w) (is.served w q)),
        )

    le_bound : t ≤ work_conserving_bound js σ
    le_bound =
        ⊎_elim (λ e. leb-true t (work_conserving_bound js σ) e)
        (λ e. absurd (not_past_bound cores shaped i inside ready_candidate t idle (leb-false t (work_conserving_bound js σ) e))) (cases (leb t (work_conserving_bound js σ)))

    abbrev higher : ℕ → Bool
    higher j = candidate js σ j && before js j i

    below_higher : Below t (higher_priority_bound js σ i)
    unfolding higher_priority_bound certainly_ready_beside
    below_higher = go (smallest higher (certainly_ready_beside js σ i) (length js)) (smallest_is higher (certainly_ready_beside js σ i) (length js))
      where
        -- a predecessor of job j has rested: it has rested with i, or its latest finish time counts in the bound, with the rest
        served : (y j : ℕ) → y ≤ t → certainly_ready_beside js σ i j ≤ y → (w : ℕ) → member w (predecessors js j) ≡ true → started σ w ≡ true
            → Rested t (rest_of js j w) (entry h w)
        served y j l b w q e =
            ⊎_elim (λ d. let x = rested_with_holds js i j w d in rested_less t (rest_of js j w) (rest_of js i w) (entry h w) x.1 (is.served w x.0))
            (λ d. fits_rested t (rest_of js j w) (finish_of σ w) (entry h w) (covers.finishes w) e
            (omega (arith, le_largest (λ v. not (rested_with js i j v)) (λ v. latest (finish_of σ v) + rest_of js j v) (predecessors js j) w q (ap not d))))
            (cases (rested_with js i j w))

        go : (x : Limit) → Smallest higher (certainly_ready_beside js σ i) (length js) x → Below t x
        go infinite none = tt
        go (finite y) least =
            let a = least.0 in
            ⊎_elim
            (λ e. absurd (firstly a.0 a.1
            (candidate_ready a.0 t a.1 (and_left (candidate js σ a.0) (before js a.0 i) a.2) (omega (arith, leb-true y t e, a.3)) (served y a.0 (leb-true y t e) (omega (arith, a.3)))) (and_right (candidate js σ a.0) (before js a.0 i) a.2)))
            (λ e. leb-false y t e) (cases (leb y t))

    -- the job that starts is eligible in the covering state
    pub start_eligible : eligible js σ i ≡ true
    unfolding eligible
    start_eligible =
        and_both _ _ ready_candidate
        (and_both _ _ (le-leb (earliest_start js σ i) (work_conserving_bound js σ) (omega (arith, earliest_le, le_bound))) (go (higher_priority_bound js σ i) below_higher))
      where
        go : (x : Limit) → Below t x → is_below (earliest_start js σ i) x ≡ true
        go infinite b = refl
        go (finite y) b = lt-ltb (earliest_start js σ i) y (omega (arith, earliest_le))

    le_latest : t ≤ latest_start js σ i
    unfolding latest_start
    le_latest = go (higher_priority_bound js σ i) below_higher
      where
        go : (x : Limit) → Below t x → t ≤ last_below (work_conserving_bound js σ) x
        go infinite b = le_bound
        go (finite y) b = omega (arith, le_bound)

    abbrev f : ℕ
    f = t + s.execution i

    -- its finish time is in the range of the edge
    pub finish_within : Wider (finish_range js σ i) (range f f)
    unfolding earliest_finish latest_finish
    finish_within = (omega (arith, earliest_le, (admissible.executions i inside).0), omega (arith, le_latest, (admissible.executions i inside).1))

    module _ (len : length h ≡ length js) where
      busy_new : (u : ℕ) → busy u (set h i (ran t f)) ≡ busy u h + ind (ltb u f)
      busy_new u = busy_start u h i t f (omega (arith, inside, len)) is.fresh

      fits_new : (k : ℕ) → Fits (finish_of (successor js σ i) k) (entry (set h i (ran t f)) k)
      unfolding successor
      fits_new k = go (ℕ_discrete k i)
        where
          go : Dec (k ≡ i) → Fits (get_or (set σ.finish i (finish_range js σ i)) k empty) (get_or (set h i (ran t f)) k unstarted)
          go (yes e) =
              rw (e, get_or-set_same σ.finish i (finish_range js σ i) empty (omega (arith, inside, shaped.jobs)), get_or-set_same h i (ran t f) unstarted (omega (arith, inside, len)))
              finish_within
          go (no d) = rw (get_or-set_other σ.finish i k (finish_range js σ i) empty d, get_or-set_other h i k (ran t f) unstarted d) (covers.finishes k)

      abbrev est : ℕ
      est = earliest_start js σ i

      possibly_new : (u : ℕ) → t ≤ u → m ≤ count_up_to u (successor js σ i).possibly_free + busy u (set h i (ran t f))
      unfolding successor
      possibly_new u l = go (weighs (earliest_finish js σ i) u)
        where
          one_less : m ≤ suc (count_up_to u (availability est (earliest_finish js σ i) σ.possibly_free)) + busy u h
          one_less =
              omega (arith, covers.possibly u l, count_first u m σ.possibly_free cores shaped.possibly, ind_le (leb (first σ.possibly_free) u), availability_from est (earliest_finish js σ i) u σ.possibly_free (omega (arith, earliest_le)))

          go : Weighs (earliest_finish js σ i) u → m ≤ count_up_to u (availability est (earliest_finish js σ i) σ.possibly_free) + busy u (set h i (ran t f))
          go (inl w) =
              omega (arith, w.1, covers.possibly u l, count_first u m σ.possibly_free cores shaped.possibly, ind_le (leb (first σ.possibly_free) u), availability_from est (earliest_finish js σ i) u σ.possibly_free (omega (arith, earliest_le)), busy_new u)
          go (inr w) = omega (arith, one_less, busy_new u, ap ind (lt-ltb u f (omega (arith, w.0, finish_within.0))))

      busy_later : (u : ℕ) → t ≤ u → busy u h ≤ busy t h
      busy_later u l = count_mono (runs_past u) (runs_past t) h one
        where
          one : (x : Entry) → ind (runs_past u x) ≤ ind (runs_past t x)
          one unstarted = omega arith
          one (ran a b) = ⊎_elim (λ w. omega (arith, w.1, weighs_one (suc t) b (omega (arith, w.0)))) (λ w. omega (arith, w.1)) (weighs (suc u) b)

      abbrev new : List ℕ
      new = availability est (latest_finish js σ i) σ.certainly_free

      certainly_new : (u : ℕ) → 1 ≤ count_up_to u (successor js σ i).certainly_free → count_up_to u (successor js σ i).certainly_free + busy u (set h i (ran t f)) ≤ m
      unfolding successor
      certainly_new u = go (weighs est u) (weighs (latest_finish js σ i) u) (weighs (first σ.certainly_free) u)
        where
          none_yet : u < first σ.certainly_free → count_up_to u σ.certainly_free ≤ 0
          none_yet l =
              ⊎_elim (λ e. absurd (omega (arith, shaped.certainly_first u (leb-true 1 (count_up_to u σ.certainly_free) e)))) (λ e. omega (arith, leb-false 1 (count_up_to u σ.certainly_free) e))
              (cases (leb 1 (count_up_to u σ.certainly_free)))

          split : count_up_to u σ.certainly_free ≡ ind (leb (first σ.certainly_free) u) + count_up_to u (tail σ.certainly_free)
          split = count_first u m σ.certainly_free cores shaped.certainly

          go : Weighs est u → Weighs (latest_finish js σ i) u → Weighs (first σ.certainly_free) u → 1 ≤ count_up_to u new → count_up_to u new + busy u (set h i (ran t f)) ≤ m
          go (inr w) y z c = absurd (omega (arith, availability_before est (latest_finish js σ i) u σ.certainly_free w.0, weighs_none (latest_finish js σ i) u (omega (arith, w.0, earliest_le, finish_within.1))))
          go (inl w) (inl y) (inl z) c =
              omega (arith, availability_from est (latest_finish js σ i) u σ.certainly_free w.0, y.1, z.1, split, busy_new u, ap ind (le-ltb u f (omega (arith, y.0, finish_within.1))), covers.certainly u (omega (arith, z.1, split)))
          go (inl w) (inl y) (inr z) c =
              omega (arith, availability_from est (latest_finish js σ i) u σ.certainly_free w.0, y.1, z.1, split, busy_new u, ap ind (le-ltb u f (omega (arith, y.0, finish_within.1))), none_yet z.0, busy_later u (omega (arith, y.0, finish_within.1)))
          go (inl w) (inr y) (inl z) c =
              omega (arith, availability_from est (latest_finish js σ i) u σ.certainly_free w.0, y.1, z.1, split, busy_new u, ind_le (ltb u f), covers.certainly u (omega (arith, z.1, split)))
          go (inl w) (inr y) (inr z) c = absurd (omega (arith, availability_from est (latest_finish js σ i) u σ.certainly_free w.0, y.1, z.1, split, none_yet z.0))

      -- and the new state covers the run after the start
      pub covers_start : Covers m (successor js σ i) t (set h i (ran t f))
      covers_start = record { finishes = fits_new; possibly = possibly_new; certainly = certainly_new }
