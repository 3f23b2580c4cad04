-- A state in which every range is one moment, of jobs with nothing uncertain: where there is a candidate, exactly one job is eligible, it starts at the
-- work-conserving bound, and the state that this makes is of the same kind. Assumes nothing.
use Prim.Native.Nat.{ℕ, ◌+◌, ◌≤◌, ◌<◌, max}
use mathlib.Core.Path.{◌≡◌, refl, ap, ap₂}
use mathlib.Core.Logic.{◌⊎◌, inl, inr, ⊎_elim}
use mathlib.Core.Bool.{Bool, true, false, not, ◌&&◌}
use mathlib.Core.List.{List}
use mathlib.Core.Option.{Option, none, some}
use native.Mathlib.Nat.{le_antisymm}
use native.Mathlib.Omega.{arith}
use lib.Dec.{leb}
use lib.ListN.{length}
use borrow.Author.Tests.{leb-true, leb-false, le-leb, ltb-true, lt-ltb}
use Rattle.model.specs.Folds.{member, largest, all, Limit, infinite, finite, smallest}
use Rattle.model.specs.Jobs.{Job, predecessors, rest_of, before}
use Rattle.model.specs.Dispatch.{first_of}
use Rattle.model.specs.States.{empty, earliest, latest, State, finish_of, first}
use Rattle.model.specs.Edges.{or_zero, is_below, last_below, candidate, possibly_ready, certainly_ready, earliest_start, work_conserving_bound, rested_with, certainly_ready_beside, higher_priority_bound, eligible, latest_start, earliest_finish, latest_finish, availability, successor}
use Rattle.model.specs.Certain.{Certain}
use Rattle.model.proofs.Booleans.{cases, and_left, and_right, and_both}
use Rattle.model.proofs.Folds.{largest_le, le_largest, largest_same, Smallest, smallest_is, set_each}
use Rattle.model.proofs.Priority.{First, first_of_holds, same_place}
use Rattle.model.proofs.Starts.{rested_with_holds}
use Rattle.model.proofs.Induction.{finish_range}

-- every range of the state is one moment
pub record Definite (σ : State) : Type 0 where
  pub finishes : (k : ℕ) → earliest (finish_of σ k) ≡ latest (finish_of σ k)
  pub cores : σ.possibly_free ≡ σ.certainly_free

-- a core is certainly free by the work-conserving bound
pub first_le_bound : (js : List Job) (σ : State) → first σ.certainly_free ≤ work_conserving_bound js σ
unfolding work_conserving_bound
first_le_bound js σ = omega arith

-- ---- readiness beside another job

module _ (js : List Job) (σ : State) where
  beside_le : (i j : ℕ) → certainly_ready_beside js σ i j ≤ certainly_ready js σ j
  unfolding certainly_ready_beside certainly_ready
  beside_le i j =
      omega (
        arith,
        largest_le (λ w. not (rested_with js i j w)) (λ w. latest (finish_of σ w) + rest_of js j w) (predecessors js j)
            (largest all (λ w. latest (finish_of σ w) + rest_of js j w) (predecessors js j))
            (λ w q. le_largest all (λ v. latest (finish_of σ v) + rest_of js j v) (predecessors js j) w q refl),
      )

  -- a wait that is left out beside job i is over when job i is ready
  beside_by : (i j t : ℕ) → certainly_ready js σ i ≤ t → certainly_ready_beside js σ i j ≤ t → certainly_ready js σ j ≤ t
  unfolding certainly_ready_beside certainly_ready
  beside_by i j t h g = omega (arith, largest_le all (λ w. latest (finish_of σ w) + rest_of js j w) (predecessors js j) t (λ w q. one w q (cases (rested_with js i j w))))
    where
      one : (w : ℕ) → member w (predecessors js j) ≡ true → (rested_with js i j w ≡ true) ⊎ (rested_with js i j w ≡ false) → latest (finish_of σ w) + rest_of js j w ≤ t
      one w q (inl e) =
          let x = rested_with_holds js i j w e in
          omega (arith, x.1, le_largest all (λ v. latest (finish_of σ v) + rest_of js i v) (predecessors js i) w x.0 refl)
      one w q (inr e) = omega (arith, le_largest (λ v. not (rested_with js i j v)) (λ v. latest (finish_of σ v) + rest_of js j v) (predecessors js j) w q (ap not e))

-- ---- who goes next

-- a candidate that is ready by the work-conserving bound
abbrev pub goes : List Job → State → ℕ → Bool
goes js σ j = candidate js σ j && leb (certainly_ready js σ j) (work_conserving_bound js σ)

-- what it is to be one
pub goes_in : (js : List Job) (σ : State) (j : ℕ) → candidate js σ j ≡ true → certainly_ready js σ j ≤ work_conserving_bound js σ → goes js σ j ≡ true
goes_in js σ j c h = and_both (candidate js σ j) (leb (certainly_ready js σ j) (work_conserving_bound js σ)) c (le-leb (certainly_ready js σ j) (work_conserving_bound js σ) h)

pub goes_out : (js : List Job) (σ : State) (j : ℕ) → goes js σ j ≡ true → (candidate js σ j ≡ true) × (certainly_ready js σ j ≤ work_conserving_bound js σ)
goes_out js σ j g = (
  and_left (candidate js σ j) (leb (certainly_ready js σ j) (work_conserving_bound js σ)) g,
  leb-true (certainly_ready js σ j) (work_conserving_bound js σ) (and_right (candidate js σ j) (leb (certainly_ready js σ j) (work_conserving_bound js σ)) g),
)

-- the job starts at the bound, and none that is ready by then goes before it
pub record Next (js : List Job) (σ : State) (i : ℕ) : Type 0 where
  pub goes_too : goes js σ i ≡ true
  pub early : earliest_start js σ i ≡ work_conserving_bound js σ
  pub late : latest_start js σ i ≡ work_conserving_bound js σ
  pub firstly : (j : ℕ) → j < length js → goes js σ j ≡ true → before js j i ≡ true → ⊥

module _ (js : List Job) (certain : Certain js) (σ : State) (definite : Definite σ) where
  abbrev bound : ℕ
  bound = work_conserving_bound js σ

  ready_is : (i : ℕ) → i < length js → possibly_ready js σ i ≡ certainly_ready js σ i
  unfolding possibly_ready certainly_ready
  ready_is i b =
      ap₂ max (certain.releases i b)
      (largest_same all all (λ w. earliest (finish_of σ w) + rest_of js i w) (λ w. latest (finish_of σ w) + rest_of js i w) (λ w. refl)
      (λ w. omega (arith, definite.finishes w)) (predecessors js i))

  earliest_is : (i : ℕ) → i < length js → earliest_start js σ i ≡ max (first σ.certainly_free) (certainly_ready js σ i)
  unfolding earliest_start
  earliest_is i b = ap₂ max (ap first definite.cores) (ready_is i b)

  -- no candidate starts before the bound
  bound_least : (i : ℕ) → i < length js → candidate js σ i ≡ true → bound ≤ earliest_start js σ i
  unfolding work_conserving_bound
  bound_least i b c =
      rw (earliest_is i b) (go (smallest (candidate js σ) (certainly_ready js σ) (length js)) (smallest_is (candidate js σ) (certainly_ready js σ) (length js)))
    where
      go : (x : Limit) → Smallest (candidate js σ) (certainly_ready js σ) (length js) x
          → max (first σ.certainly_free) (or_zero x) ≤ max (first σ.certainly_free) (certainly_ready js σ i)
      go infinite nobody = omega arith
      go (finite y) least = omega (arith, least.1 i b c)

  -- where there is a candidate, one is ready by the bound
  some_goes : (i : ℕ) → i < length js → candidate js σ i ≡ true → (j : ℕ) × (j < length js) × (goes js σ j ≡ true)
  unfolding work_conserving_bound
  some_goes i b c =
      go (smallest (candidate js σ) (certainly_ready js σ) (length js)) (smallest_is (candidate js σ) (certainly_ready js σ) (length js)) refl
    where
      go : (x : Limit) → Smallest (candidate js σ) (certainly_ready js σ) (length js) x → smallest (candidate js σ) (certainly_ready js σ) (length js) ≡ x
          → (j : ℕ) × (j < length js) × (goes js σ j ≡ true)
      go infinite nobody e = absurd (nobody i b c)
      go (finite y) least e =
          let a = least.0 in
          (a.0, a.1, goes_in js σ a.0 a.2 (rw e (omega (arith, a.3))))

  abbrev higher : ℕ → ℕ → Bool
  higher i j = candidate js σ j && before js j i

  -- an eligible job does so
  pub eligible_next : (i : ℕ) → i < length js → eligible js σ i ≡ true → Next js σ i
  unfolding eligible higher_priority_bound latest_start
  eligible_next i b e =
      record {
        goes_too = goes_in js σ i is_candidate (omega (arith, earliest_is i b, at));
        early = at;
        late = go_late limit below;
        firstly = λ j l g p. go_first j l (goes_out js σ j g) p limit (smallest_is (higher i) (certainly_ready_beside js σ i) (length js)) below;
      }
    where
      limit : Limit
      limit = smallest (higher i) (certainly_ready_beside js σ i) (length js)

      is_candidate : candidate js σ i ≡ true
      is_candidate = and_left (candidate js σ i) (leb (earliest_start js σ i) bound && is_below (earliest_start js σ i) limit) e

      both : (leb (earliest_start js σ i) bound && is_below (earliest_start js σ i) limit) ≡ true
      both = and_right (candidate js σ i) (leb (earliest_start js σ i) bound && is_below (earliest_start js σ i) limit) e

      below : is_below (earliest_start js σ i) limit ≡ true
      below = and_right (leb (earliest_start js σ i) bound) (is_below (earliest_start js σ i) limit) both

      at : earliest_start js σ i ≡ bound
      at =
          le_antisymm (leb-true (earliest_start js σ i) bound (and_left (leb (earliest_start js σ i) bound) (is_below (earliest_start js σ i) limit) both))
          (bound_least i b is_candidate)

      go_late : (x : Limit) → is_below (earliest_start js σ i) x ≡ true → last_below bound x ≡ bound
      go_late infinite h = refl
      go_late (finite y) h = omega (arith, ltb-true (earliest_start js σ i) y h, at)

      go_first : (j : ℕ) → j < length js → (candidate js σ j ≡ true) × (certainly_ready js σ j ≤ bound) → before js j i ≡ true
          → (x : Limit) → Smallest (higher i) (certainly_ready_beside js σ i) (length js) x → is_below (earliest_start js σ i) x ≡ true → ⊥
      go_first j l g p infinite nobody h = nobody j l (and_both (candidate js σ j) (before js j i) g.0 p)
      go_first j l g p (finite y) least h =
          omega (
            arith,
            ltb-true (earliest_start js σ i) y h,
            at,
            g.1,
            beside_le js σ i j,
            least.1 j l (and_both (candidate js σ j) (before js j i) g.0 p),
          )

  -- and one that does so is eligible
  next_eligible : (i : ℕ) → i < length js → goes js σ i ≡ true → ((j : ℕ) → j < length js → goes js σ j ≡ true → before js j i ≡ true → ⊥) → eligible js σ i ≡ true
  unfolding eligible higher_priority_bound
  next_eligible i b g f =
      and_both (candidate js σ i) _ (goes_out js σ i g).0
      (and_both _ _ (le-leb (earliest_start js σ i) bound in_time_holds)
      (go (smallest (higher i) (certainly_ready_beside js σ i) (length js)) (smallest_is (higher i) (certainly_ready_beside js σ i) (length js))))
    where
      in_time_holds : earliest_start js σ i ≤ bound
      in_time_holds = omega (arith, earliest_is i b, (goes_out js σ i g).1, first_le_bound js σ)

      go : (x : Limit) → Smallest (higher i) (certainly_ready_beside js σ i) (length js) x → is_below (earliest_start js σ i) x ≡ true
      go infinite nobody = refl
      go (finite y) least =
          ⊎_elim (λ e. absurd (never (leb-true y (earliest_start js σ i) e))) (λ e. lt-ltb (earliest_start js σ i) y (leb-false y (earliest_start js σ i) e))
          (cases (leb y (earliest_start js σ i)))
        where
          j : ℕ
          j = least.0.0

          never : y ≤ earliest_start js σ i → ⊥
          never h =
              f j least.0.1
              (goes_in js σ j (and_left (candidate js σ j) (before js j i) least.0.2)
              (beside_by js σ i j bound (goes_out js σ i g).1 (omega (arith, least.0.3, h, in_time_holds))))
              (and_right (candidate js σ j) (before js j i) least.0.2)

  -- at most one is
  pub one_next : (i j : ℕ) → i < length js → j < length js → eligible js σ i ≡ true → eligible js σ j ≡ true → i ≡ j
  one_next i j b l e f =
      let x = eligible_next i b e in
      let y = eligible_next j l f in
      same_place js i j (y.firstly i b x.goes_too) (x.firstly j l y.goes_too)

  finish_is : (i : ℕ) → i < length js → eligible js σ i ≡ true → earliest_finish js σ i ≡ latest_finish js σ i
  unfolding earliest_finish latest_finish
  finish_is i b e = omega (arith, (eligible_next i b e).early, (eligible_next i b e).late, certain.executions i b)

  -- in the new state too every range is one moment
  pub successor_definite : (i : ℕ) → i < length js → length σ.finish ≡ length js → eligible js σ i ≡ true → Definite (successor js σ i)
  unfolding successor
  successor_definite i b len e =
      record {
        finishes = set_each (λ k r. earliest r ≡ latest r) σ.finish i (finish_range js σ i) empty (omega (arith, b, len)) definite.finishes (finish_is i b e);
        cores = ap₂ (λ f l. availability (earliest_start js σ i) f l) (finish_is i b e) definite.cores;
      }

-- ---- the job that starts next

abbrev or_zeroth : Option ℕ → ℕ
or_zeroth none = 0
or_zeroth (some i) = i

-- the first by priority of those that are ready by the bound
unfoldable pub next_job : List Job → State → ℕ
unfolding first_of candidate certainly_ready work_conserving_bound
next_job js σ = or_zeroth (first_of js (goes js σ) (length js))

-- where there is a candidate, it is eligible
pub next_starts : (js : List Job) → Certain js → (σ : State) → Definite σ → (i : ℕ) → i < length js → candidate js σ i ≡ true
    → (next_job js σ < length js) × (eligible js σ (next_job js σ) ≡ true)
unfolding next_job
next_starts js certain σ definite i b c = go (first_of js (goes js σ) (length js)) (first_of_holds js (goes js σ) (length js))
  where
    go : (o : Option ℕ) → First js (goes js σ) (length js) o → (or_zeroth o < length js) × (eligible js σ (or_zeroth o) ≡ true)
    go none f = let x = some_goes js certain σ definite i b c in absurd (f x.0 x.1 x.2)
    go (some k) f = (f.0, next_eligible js certain σ definite k f.0 f.1 f.2)
