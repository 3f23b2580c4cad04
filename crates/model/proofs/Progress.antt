-- Every run comes to its end: once all jobs are released, some core is busy or some bell rests until all are done, so the time that is left, of executions
-- and of the rests before them, shrinks each millisecond. Assumes nothing.
use Prim.Native.Nat.{ℕ, suc, ◌+◌, ◌-◌, ◌≤◌, ◌<◌, min}
use mathlib.Core.Path.{◌≡◌, refl}
use mathlib.Core.Logic.{◌⊎◌, inl, inr, ⊎_elim}
use mathlib.Core.Bool.{true, false, not, true≢false, false≢true}
use mathlib.Core.List.{List}
use native.Mathlib.Omega.{arith}
use lib.Dec.{leb}
use lib.ListN.{length, set}
use borrow.Author.Tests.{ltb-true, ltb-false, leb-true, leb-false, not-true, not-false}
use Rattle.model.specs.Folds.{member, largest, all, largest_below, sum}
use Rattle.model.specs.Jobs.{Job, job, predecessors, rest_of}
use Rattle.model.specs.Dispatch.{Scenario}
use Rattle.model.specs.Guarantee.{WellFormed, Admissible}
use Rattle.model.specs.Playing.{horizon}
use Rattle.model.proofs.Booleans.{cases}
use Rattle.model.proofs.Folds.{largest_le, le_largest, count_zero, set_each, get_or_same, AllBelow, FirstFailing, first_failing, le_largest_below, sum_le, sum_lt, le_sum, sum_zero}
use Rattle.model.proofs.Predecessors.{predecessor_earlier}
use Rattle.model.proofs.Rests.{rest_at_most}
use Rattle.model.proofs.History.{Entry, unstarted, ran, entry, has_started, runs_past, busy, Rested, Finished, Ready}
use Rattle.model.proofs.Run.{none_started, Inv, Start, Lasting}

-- what started and runs no more has finished
stopped : (t : ℕ) (x : Entry) → has_started x ≡ true → runs_past t x ≡ false → Finished t x
stopped t unstarted e r = absurd (false≢true e)
stopped t (ran a f) e r = ltb-false t f r

-- ---- what is left of one rest

-- how much of a rest of r is left at t: all of it until the job has finished
abbrev rest_left : ℕ → ℕ → Entry → ℕ
rest_left t r unstarted = r
rest_left t r (ran a f) = min r (f + r - t)

left_at_most : (t r : ℕ) (x : Entry) → rest_left t r x ≤ r
left_at_most t r unstarted = omega arith
left_at_most t r (ran a f) = omega arith

left_fresh : (t r : ℕ) (x : Entry) → has_started x ≡ false → rest_left t r x ≡ r
left_fresh t r unstarted e = refl
left_fresh t r (ran a f) e = absurd (true≢false e)

left_passes : (t r : ℕ) (x : Entry) → rest_left (suc t) r x ≤ rest_left t r x
left_passes t r unstarted = omega arith
left_passes t r (ran a f) = omega arith

-- once the job has finished, less is left a millisecond later
left_shrinks : (t r : ℕ) (x : Entry) → Finished t x → rest_left (suc t) r x ≤ rest_left t r x - 1
left_shrinks t r unstarted g = absurd g
left_shrinks t r (ran a f) g = omega arith

-- and where nothing is left, it has rested
left_over : (t r : ℕ) (x : Entry) → Finished t x → rest_left t r x ≤ 0 → Rested t r x
left_over t r unstarted g e = absurd g
left_over t r (ran a f) g e = omega arith

module _ (js : List Job) (s : Scenario) where
  -- ---- what is left for one job

  -- how much is left at t of the rests that job k waits for
  abbrev rests_left : ℕ → List Entry → ℕ → ℕ
  rests_left t h k = largest all (λ w. rest_left t (rest_of js k w) (entry h w)) (predecessors js k)

  le_rests : (t : ℕ) (h : List Entry) (k w : ℕ) → member w (predecessors js k) ≡ true → rest_left t (rest_of js k w) (entry h w) ≤ rests_left t h k
  le_rests t h k w q = le_largest all (λ w. rest_left t (rest_of js k w) (entry h w)) (predecessors js k) w q refl

  rests_at_most : (t : ℕ) (h : List Entry) (k : ℕ) → rests_left t h k ≤ (job js k).rest
  rests_at_most t h k =
      largest_le all (λ w. rest_left t (rest_of js k w) (entry h w)) (predecessors js k) (job js k).rest
      (λ w q. omega (arith, left_at_most t (rest_of js k w) (entry h w), rest_at_most js k w))

  rests_pass : (t : ℕ) (h : List Entry) (k : ℕ) → rests_left (suc t) h k ≤ rests_left t h k
  rests_pass t h k =
      largest_le all (λ w. rest_left (suc t) (rest_of js k w) (entry h w)) (predecessors js k) (rests_left t h k)
      (λ w q. omega (arith, left_passes t (rest_of js k w) (entry h w), le_rests t h k w q))

  -- how long job k has still to run at t, and before that to wait for rests
  abbrev work : ℕ → List Entry → ℕ → Entry → ℕ
  work t h k unstarted = s.execution k + rests_left t h k
  work t h k (ran a f) = f - t

  work_fresh : (t : ℕ) (h : List Entry) (k : ℕ) (x : Entry) → has_started x ≡ false → work t h k x ≡ s.execution k + rests_left t h k
  work_fresh t h k unstarted e = refl
  work_fresh t h k (ran a f) e = absurd (true≢false e)

  work_passes : (t : ℕ) (h : List Entry) (k : ℕ) (x : Entry) → work (suc t) h k x ≤ work t h k x
  work_passes t h k unstarted = omega (arith, rests_pass t h k)
  work_passes t h k (ran a f) = omega arith

  work_runs : (t : ℕ) (h : List Entry) (k : ℕ) (x : Entry) → runs_past t x ≡ true → work (suc t) h k x < work t h k x
  work_runs t h k unstarted e = absurd (false≢true e)
  work_runs t h k (ran a f) e = omega (arith, ltb-true t f e)

  work_finished : (t : ℕ) (h : List Entry) (k : ℕ) (x : Entry) → Finished t x → work t h k x ≡ 0
  work_finished t h k unstarted g = absurd g
  work_finished t h k (ran a f) g = omega arith

  -- ---- what is left for all

  abbrev left : ℕ → List Entry → ℕ
  left t h = sum (λ k. work t h k (entry h k)) (length js)

  abbrev latest_release : ℕ
  latest_release = largest_below s.release (length js)

  -- all executions and rests
  abbrev whole : ℕ
  whole = sum (λ k. s.execution k + (job js k).rest) (length js)

  -- what is left is at most all, and shrinks once all are released
  abbrev pub Shrinks : ℕ → List Entry → Type 0
  Shrinks t h = (left t h ≤ whole) × (left t h ≤ latest_release + whole - t)

  module _ (m : ℕ) (wf : WellFormed js m) (adm : Admissible js s) where
    abbrev SomeShrinks : ℕ → List Entry → Type 0
    SomeShrinks t h = (k : ℕ) × (k < length js) × (work (suc t) h k (entry h k) < work t h k (entry h k))

    -- once all are released, a job has less left a millisecond later, or nothing is left to do
    some_shrinks : (t : ℕ) (h : List Entry) → Inv js m s (suc t) t h → latest_release ≤ t → SomeShrinks t h ⊎ (left t h ≡ 0)
    some_shrinks t h inv l = go (first_failing (λ k. not (runs_past t (entry h k))) (length js)) (first_failing (λ k. has_started (entry h k)) (length js))
      where
        go : AllBelow (λ k. not (runs_past t (entry h k))) (length js) ⊎ FirstFailing (λ k. not (runs_past t (entry h k))) (length js)
            → AllBelow (λ k. has_started (entry h k)) (length js) ⊎ FirstFailing (λ k. has_started (entry h k)) (length js) → SomeShrinks t h ⊎ (left t h ≡ 0)
        go (inr x) y = inl (x.0, x.1, work_runs t h x.0 (entry h x.0) (not-false (runs_past t (entry h x.0)) x.2))
        go (inl f) (inl g) =
            inr (sum_zero (λ k. work t h k (entry h k)) (length js) (λ k b. work_finished t h k (entry h k) (stopped t (entry h k) (g k b) (not-true (runs_past t (entry h k)) (f k b)))))
        -- no job runs, and the first that has not started waits for nothing but rests
        go (inl f) (inr y) =
            inl (y.0, y.1, omega (arith, work_fresh t h y.0 (entry h y.0) y.2, work_fresh (suc t) h y.0 (entry h y.0) y.2, some_left, fewer_left))
          where
            none_busy : busy t h ≡ 0
            none_busy = count_zero (runs_past t) h unstarted (λ k b. not-true (runs_past t (entry h k)) (f k (omega (arith, inv.all_jobs))))

            over : (w : ℕ) → member w (predecessors js y.0) ≡ true → Finished t (entry h w)
            over w q =
                let c = predecessor_earlier js m wf y.0 y.1 w q in
                stopped t (entry h w) (y.3 w c) (not-true (runs_past t (entry h w)) (f w (omega (arith, y.1))))

            is : rests_left t h y.0 ≤ 0 → Ready js s t h y.0
            is z =
                record {
                  fresh = y.2;
                  released = omega (arith, le_largest_below s.release (length js) y.0 y.1);
                  served = λ w q. left_over t (rest_of js y.0 w) (entry h w) (over w q) (omega (arith, z, le_rests t h y.0 w q));
                }

            some_left : 1 ≤ rests_left t h y.0
            some_left =
                ⊎_elim (λ e. absurd (omega (arith, wf.cores, inv.idle t (omega arith) y.0 y.1 (is (leb-true (rests_left t h y.0) 0 e)), none_busy)))
                (λ e. leb-false (rests_left t h y.0) 0 e) (cases (leb (rests_left t h y.0) 0))

            fewer_left : rests_left (suc t) h y.0 ≤ rests_left t h y.0 - 1
            fewer_left =
                largest_le all (λ w. rest_left (suc t) (rest_of js y.0 w) (entry h w)) (predecessors js y.0) (rests_left t h y.0 - 1)
                (λ w q. omega (arith, left_shrinks t (rest_of js y.0 w) (entry h w) (over w q), le_rests t h y.0 w q))

    pub shrinks : Lasting js m s Shrinks
    shrinks = record { begins = begins; starts = starts; passes = passes }
      where
        begins : Shrinks 0 (none_started js)
        begins =
            let all = sum_le (λ k. work 0 (none_started js) k (entry (none_started js) k)) (λ k. s.execution k + (job js k).rest) (length js)
            (λ k l. rw (get_or_same (length js) k unstarted) (omega (arith, rests_at_most 0 (none_started js) k))) in
            (all, omega (arith, all))

        starts : (t : ℕ) (h : List Entry) (i : ℕ) → Start js m s t h i → Shrinks t h → Shrinks t (set h i (ran t (t + s.execution i)))
        starts t h i start q = (omega (arith, no_more, q.0), omega (arith, no_more, q.1))
          where
            new : List Entry
            new = set h i (ran t (t + s.execution i))

            in_history : i < length h
            in_history = omega (arith, start.inside, start.inv.all_jobs)

            rest_starts : (r w : ℕ) → rest_left t r (entry new w) ≤ rest_left t r (entry h w)
            rest_starts r =
                set_each (λ w x. rest_left t r x ≤ rest_left t r (entry h w)) h i (ran t (t + s.execution i)) unstarted in_history
                (λ w. omega arith) (omega (arith, left_fresh t r (entry h i) start.is.fresh))

            rests_start : (k : ℕ) → rests_left t new k ≤ rests_left t h k
            rests_start k =
                largest_le all (λ w. rest_left t (rest_of js k w) (entry new w)) (predecessors js k) (rests_left t h k)
                (λ w q. omega (arith, rest_starts (rest_of js k w) w, le_rests t h k w q))

            as_before : (k : ℕ) (x : Entry) → work t new k x ≤ work t h k x
            as_before k unstarted = omega (arith, rests_start k)
            as_before k (ran a f) = omega arith

            no_more : left t (set h i (ran t (t + s.execution i))) ≤ left t h
            no_more =
                sum_le (λ k. work t new k (entry new k)) (λ k. work t h k (entry h k)) (length js)
                (λ k l. set_each (λ k x. work t new k x ≤ work t h k (entry h k)) h i (ran t (t + s.execution i)) unstarted in_history
                (λ k. as_before k (entry h k)) (omega (arith, work_fresh t h i (entry h i) start.is.fresh)) k)

        passes : (t : ℕ) (h : List Entry) → Inv js m s (suc t) t h → Shrinks t h → Shrinks (suc t) h
        passes t h inv q = (
          omega (arith, no_more, q.0),
          ⊎_elim (λ e. later (leb-true latest_release t e)) (λ e. omega (arith, leb-false latest_release t e, no_more, q.0)) (cases (leb latest_release t)),
        )
          where
            no_more : left (suc t) h ≤ left t h
            no_more = sum_le (λ k. work (suc t) h k (entry h k)) (λ k. work t h k (entry h k)) (length js) (λ k l. work_passes t h k (entry h k))

            later : latest_release ≤ t → left (suc t) h ≤ latest_release + whole - suc t
            later l =
                ⊎_elim
                (λ x. omega (
                  arith,
                  q.1,
                  sum_lt (λ k. work (suc t) h k (entry h k)) (λ k. work t h k (entry h k)) (length js) (λ k l. work_passes t h k (entry h k)) x.0 x.1 x.2,
                )) (λ e. omega (arith, e, no_more)) (some_shrinks t h inv l)

    -- what starts has its execution still before it, so it finishes by the horizon
    pub start_within : (t : ℕ) (h : List Entry) (i : ℕ) → Start js m s t h i → Shrinks t h → t + s.execution i ≤ horizon js s
    unfolding horizon
    start_within t h i start q =
        omega (
          arith,
          work_fresh t h i (entry h i) start.is.fresh,
          le_sum (λ k. work t h k (entry h k)) (length js) i start.inside,
          q.1,
          wf.lasts i start.inside,
          (adm.executions i start.inside).0,
        )

    -- by the horizon every job has finished
    pub all_over : (t : ℕ) (h : List Entry) → horizon js s ≤ t → Shrinks t h → (k : ℕ) → k < length js → Finished t (entry h k)
    unfolding horizon
    all_over t h l q k b = go (entry h k) (omega (arith, le_sum (λ k. work t h k (entry h k)) (length js) k b, q.1))
      where
        go : (x : Entry) → work t h k x ≤ 0 → Finished t x
        go unstarted e = absurd (omega (arith, wf.lasts k b, (adm.executions k b).0))
        go (ran a f) e = omega arith
