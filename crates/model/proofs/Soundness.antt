-- Soundness (demand 3): where the analysis accepts, every run keeps to what it reports. Assumes nothing.
use Prim.Native.Nat.{ℕ, ◌≤◌, ◌<◌}
use mathlib.Core.Path.{◌≡◌, refl, ◌∙◌}
use mathlib.Core.Bool.{true}
use mathlib.Core.List.{List}
use native.Mathlib.Omega.{arith}
use lib.ListN.{get_or, length}
use borrow.Author.Tests.{le-ltb}
use Rattle.model.specs.Folds.{largest, all}
use Rattle.model.specs.Jobs.{Job, job}
use Rattle.model.specs.Dispatch.{Scenario, done, status, run}
use Rattle.model.specs.States.{Range, empty, range, is_range, latest, State}
use Rattle.model.specs.Exploration.{Exploration, going, full, miss, explored, accepted, verdict_of, analysis}
use Rattle.model.specs.Guarantee.{WellFormed, Admissible, status_at, Contains, Kept}
use Rattle.model.specs.Playing.{horizon, start_time, finish_time, Played}
use Rattle.model.proofs.Folds.{at_largest}
use Rattle.model.proofs.Coverage.{stored_states, Coverage, coverage}
use Rattle.model.proofs.Run.{At, run_after}
use Rattle.model.proofs.Covering.{Covered, covered}
use Rattle.model.proofs.Whole.{played, entry_is, has_started_holds, times_unique}

module _ (js : List Job) (m : ℕ) (s : Scenario) (bounds : List Range) (levels : ℕ → List State) (cov : Coverage js m bounds levels) (wf : WellFormed js m)
    (adm : Admissible js s) where
  whole : Played js m s
  whole = played js m s wf adm

  abbrev starts : ℕ → ℕ
  starts = start_time js m s

  abbrev finishes : ℕ → ℕ
  finishes = finish_time js m s

  -- the history at the horizon is covered, and has every job
  finish_kept : (k : ℕ) → k < length js → Contains (get_or bounds k empty) (finishes k) × (finishes k ≤ (job js k).deadline)
  finish_kept k l = go (run_after js m s wf adm (Covered js m s bounds levels) (covered js m s bounds levels cov wf adm) (horizon js s))
    where
      go : At js m s wf adm (Covered js m s bounds levels) (covered js m s bounds levels cov wf adm) (horizon js s)
          → Contains (get_or bounds k empty) (finishes k) × (finishes k ≤ (job js k).deadline)
      go x =
          rw (entry_is js m s wf adm (horizon js s) x.0 x.1 k l (has_started_holds js m s wf adm (horizon js s) x.0 x.1 k l (omega (arith, whole.over k l, whole.executed k l))))
          at (x.2.in_bounds k)

  quiet : (t : ℕ) → largest all latest bounds ≤ t → (k : ℕ) → k < length js → status (run js m s t).statuses k ≡ done (finishes k)
  unfolding status_at
  quiet t l k r = whole.once k r t ∙ rw (le-ltb t (starts k) (omega (arith, whole.executed k r, in_time_holds)), le-ltb t (finishes k) in_time_holds) refl
    where
      within : (a : Range) (x : ℕ) → Contains a x → x ≤ latest a
      within empty x c = absurd c
      within (range e f) x c = c.1

      in_time_holds : finishes k ≤ t
      in_time_holds = omega (arith, within (get_or bounds k empty) (finishes k) (finish_kept k r).0, at_largest latest bounds k empty refl)

  kept : Kept js m bounds s
  kept =
      record {
        start = starts;
        finish = finishes;
        once = whole.once;
        released = whole.released;
        executed = whole.executed;
        bounded = λ k l. (finish_kept k l).0;
        timely = λ k l. (finish_kept k l).1;
        apart = whole.apart;
        rested = whole.rested;
        quiet = quiet;
      }

-- an accepting analysis has built the last level
last_level : (x : Exploration) (bounds : List Range) (c : ℕ) → verdict_of x ≡ accepted bounds c → (l : List State) × (x ≡ going l bounds c)
last_level (going l seen d) bounds c e = (l, cc)
last_level (full n) bounds c e = absurd (let z : ◌≡◌ {A = ℕ} 0 1 = cc in omega arith)
last_level (miss i x y) bounds c e = absurd (let z : ◌≡◌ {A = ℕ} 0 1 = cc in omega arith)

-- what an accepting analysis reports, every admissible scenario keeps
pub soundness : (js : List Job) (m cap : ℕ) → WellFormed js m → (bounds : List Range) (c : ℕ) → analysis js m cap ≡ accepted bounds c
    → (s : Scenario) → Admissible js s → Kept js m bounds s
unfolding analysis
soundness js m cap wf bounds c e s adm =
    let x = last_level (explored js m cap (length js)) bounds c e in
    kept js m s bounds (λ n. stored_states (explored js m cap n)) (coverage js m cap wf.cores x.0 bounds c x.1) wf adm

-- where no range is empty, an accepting analysis reports a range for every job
pub all_reported : (js : List Job) (m cap : ℕ) → WellFormed js m → (bounds : List Range) (c : ℕ) → analysis js m cap ≡ accepted bounds c
    → ((i : ℕ) → i < length js → ((job js i).earliest_release ≤ (job js i).latest_release) × ((job js i).least_execution ≤ (job js i).most_execution))
    → (k : ℕ) → k < length js → is_range (get_or bounds k empty) ≡ true
all_reported js m cap wf bounds c e ranges k l = go (get_or bounds k empty) (kept.finish k) (kept.bounded k l)
  where
    kept : Kept js m bounds (record { release = λ i. (job js i).earliest_release; execution = λ i. (job js i).least_execution })
    kept =
        soundness js m cap wf bounds c e (record { release = λ i. (job js i).earliest_release; execution = λ i. (job js i).least_execution })
        (record { releases = λ i h. (omega arith, (ranges i h).0); executions = λ i h. (omega arith, (ranges i h).1) })

    go : (r : Range) (x : ℕ) → Contains r x → is_range r ≡ true
    go empty x q = absurd q
    go (range e f) x q = refl

-- the times of which demand 3 speaks are the run's own
pub kept_times : (js : List Job) (m : ℕ) (bounds : List Range) (s : Scenario) → WellFormed js m → Admissible js s → Kept js m bounds s → (k : ℕ) → k < length js
    → Contains (get_or bounds k empty) (finish_time js m s k) × (finish_time js m s k ≤ (job js k).deadline)
kept_times js m bounds s wf adm x k l = rw (times_unique js m s wf adm k l (x.start k) (x.finish k) takes_time (x.once k l)).1 (x.bounded k l, x.timely k l)
  where
    takes_time : x.start k < x.finish k
    takes_time = omega (arith, x.executed k l, wf.lasts k l, (adm.executions k l).0)
