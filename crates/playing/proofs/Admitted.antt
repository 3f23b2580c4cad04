-- What is known of a playing that is admitted, and what is promised of one that was worked out. Assumes nothing.
use Prim.Native.Nat.{ℕ, ◌+◌, ◌*◌, ◌≤◌, ◌<◌}
use mathlib.Core.Path.{◌≡◌, refl, sym, subst}
use mathlib.Core.Logic.{◌⊎◌, inl, inr}
use mathlib.Core.Bool.{Bool, true, false}
use mathlib.Core.List.{List}
use native.Mathlib.Omega.{arith}
use lib.ListN.{get_or, length}
use Rattle.model.specs.Limits.{most_jobs}
use Rattle.model.specs.Refusals.{wrong_playing, outside_range}
use Rattle.model.specs.Jobs.{Job, job}
use Rattle.model.specs.Dispatch.{Scenario}
use Rattle.model.specs.Guarantee.{WellFormed, Admissible}
use Rattle.model.specs.Exploration.{Verdict, accepted, refused as rejected, late}
use Rattle.model.specs.Playing.{start_time, finish_time}
use Rattle.model.proofs.Booleans.{and_left, and_right}
use Rattle.model.proofs.Soundness.{soundness, kept_times}
use Rattle.model.proofs.Whole.{played}
use Rattle.format.specs.Bytes.{AreBytes, within}
use Rattle.format.specs.Phrase.{Phrase}
use Rattle.format.specs.Jobs.{jobs_of}
use Rattle.format.specs.Outcome.{Outcome, ok, refused}
use Rattle.format.specs.Reading.{reading}
use Rattle.format.proofs.Passed.{within_true, never, required, bound, followed}
use Rattle.checking.specs.Checking.{capacity_for, verdict}
use Rattle.checking.proofs.PerJob.{per_job_at}
use Rattle.checking.proofs.Promise.{can_analyse, few_jobs}
use Rattle.playing.specs.Playing.{releases_at, job_bytes, scenario_in, is_playing, in_ranges, first_in_ranges, scenario_for, Times, times_of, played_of}
use Rattle.playing.specs.Promise.{Ran, RanAs, Inside}
use Rattle.playing.proofs.Playings.{has_jobs, each_inside, inside_or_not, wrong_head, by_ranges}

-- ---- a playing that is admitted

-- what the test of a job's ranges says
inside : (js : List Job) (s : Scenario) (i : ℕ) → in_ranges js s i ≡ true
    → (((job js i).earliest_release ≤ s.release i) × (s.release i ≤ (job js i).latest_release))
    × (((job js i).least_execution ≤ s.execution i) × (s.execution i ≤ (job js i).most_execution))
unfolding in_ranges
inside js s i e =
    let a = within (job js i).earliest_release (job js i).latest_release (s.release i) in
    let b = within (job js i).least_execution (job js i).most_execution (s.execution i) in (
      within_true (job js i).earliest_release (job js i).latest_release (s.release i) (and_left a b e),
      within_true (job js i).least_execution (job js i).most_execution (s.execution i) (and_right a b e),
    )

admissible : (js : List Job) (s : Scenario) → first_in_ranges js s (length js) ≡ ok tt → Admissible js s
admissible js s e =
    record {
      releases = λ i l. (inside js s i (each_inside js s (length js) e i l)).0;
      executions = λ i l. (inside js s i (each_inside js s (length js) e i l)).1;
    }

-- The scenario is the one in its bytes, it is admissible, and the bytes of every job are there.
pub admitted : (js : List Job) (p : List ℕ) (s : Scenario) → scenario_for js p ≡ ok s
    → (s ≡ scenario_in p) × Admissible js s × (releases_at + length js * job_bytes ≤ length p)
unfolding scenario_for
admitted js p s e =
    let (head, rest) = required (is_playing p (length js)) wrong_playing 0 e in
    let (u, ranges, last) = followed (first_in_ranges js (scenario_in p) (length js)) rest in
    let same : scenario_in p ≡ s = cc in
    (sym same, subst (Admissible js) same (admissible js (scenario_in p) ranges), has_jobs p (length js) head)

-- A playing is admitted, or it is refused as no playing of these jobs (17) or as outside their ranges (18), at no place above their number.
pub admission_cases : (js : List Job) (p : List ℕ)
    → (scenario_for js p ≡ ok (scenario_in p)) ⊎ ((n : ℕ) × (at : ℕ) × (scenario_for js p ≡ refused n at) × ((n ≡ 17) ⊎ (n ≡ 18)) × (at ≤ length js))
admission_cases js p = go (is_playing p (length js)) refl (inside_or_not js (scenario_in p) (length js))
  where
    go : (b : Bool) → is_playing p (length js) ≡ b
        → (first_in_ranges js (scenario_in p) (length js) ≡ ok tt)
        ⊎ ((i : ℕ) × (i < length js) × (first_in_ranges js (scenario_in p) (length js) ≡ refused outside_range i))
        → (scenario_for js p ≡ ok (scenario_in p)) ⊎ ((n : ℕ) × (at : ℕ) × (scenario_for js p ≡ refused n at) × ((n ≡ 17) ⊎ (n ≡ 18)) × (at ≤ length js))
    go false q r = inr (wrong_playing, 0, wrong_head js p q, inl refl, omega arith)
    go true q (inl r) = inl (by_ranges js p q (ok tt) r)
    go true q (inr x) = inr (outside_range, x.0, by_ranges js p q (refused outside_range x.0) x.2, inr refl, omega (arith, x.1))

-- ---- a playing that was worked out

module _ (file : List ℕ) (bytes : AreBytes file) (p : List ℕ) (t : Times) where
  -- of a phrase that was read, and of its scenario
  module _ (x : Phrase) (e : reading file ≡ ok x) (s : Scenario) (f : scenario_for (jobs_of x) p ≡ ok s) where
    wf : WellFormed (jobs_of x) x.cores
    wf = (can_analyse file bytes x e).well_formed

    few : length (jobs_of x) ≤ most_jobs
    few = few_jobs file bytes x e

    abbrev js : List Job
    js = jobs_of x

    start_at : (k : ℕ) → k < length js → get_or (times_of js x.cores s).starts k 0 ≡ start_time js x.cores s k
    start_at k l = per_job_at (length js) (start_time js x.cores s) few k l

    finish_at : (k : ℕ) → k < length js → get_or (times_of js x.cores s).finishes k 0 ≡ finish_time js x.cores s k
    finish_at k l = per_job_at (length js) (finish_time js x.cores s) few k l

    ran : Ran js x.cores (scenario_in p) (times_of js x.cores s).starts (times_of js x.cores s).finishes
    ran k l t =
        let (same, adm, long) = admitted js p s f in
        rw (start_at k l, finish_at k l, ← same) ((played js x.cores s wf adm).once k l t)

    kept : (words : ℕ) (v : Verdict) → verdict (ok x) words ≡ v → Inside (ok x) v (times_of js x.cores s).finishes
    kept words (accepted bounds c) q = λ k l.
        let adm = (admitted js p s f).1 in
        rw (finish_at k l) (kept_times js x.cores bounds s wf adm (soundness js x.cores (capacity_for x words) wf bounds c q s adm) k l)
    kept words (rejected n at) q = tt
    kept words (late i e f) q = tt

  by_outcome : (o : Outcome Phrase) → reading file ≡ o → played_of o p ≡ ok t
      → RanAs o p t.starts t.finishes × ((words : ℕ) → Inside o (verdict o words) t.finishes)
  by_outcome (ok x) e q =
      let (s, f, last) = bound (scenario_for (jobs_of x) p) q in
      let same : times_of (jobs_of x) x.cores s ≡ t = cc in
      subst (λ (t : Times). RanAs (ok x) p t.starts t.finishes × ((words : ℕ) → Inside (ok x) (verdict (ok x) words) t.finishes)) same
      (ran x e s f, λ words. kept x e s f words (verdict (ok x) words) refl)
  by_outcome (refused n at) e q = absurd (never n at q)

  -- The run is as the times say; and where a check accepts the phrase, each job finishes within the reported bounds and not after its deadline.
  pub played_promise : played_of (reading file) p ≡ ok t
      → RanAs (reading file) p t.starts t.finishes × ((words : ℕ) → Inside (reading file) (verdict (reading file) words) t.finishes)
  played_promise q = by_outcome (reading file) refl q
