-- The words at the beginning, and at the end. Assumes nothing.
use Prim.Native.Nat.{ℕ, zero, suc, ◌≤◌}
use mathlib.Core.Path.{◌≡◌, refl, sym, ap, ◌∙◌, subst}
use mathlib.Core.List.{List}
use native.Mathlib.Omega.{arith}
use lib.Dec.{ltb}
use lib.ListN.{get_or, length, take, replicate, length-take, length-replicate}
use borrow.Author.Tests.{le-ltb}
use Rattle.model.specs.Limits.{most_jobs, most_cores}
use Rattle.model.specs.Jobs.{Job}
use Rattle.model.specs.Dispatch.{Scenario}
use Rattle.model.proofs.Folds.{count_none, count_zero, get_or_same}
use Rattle.model.proofs.History.{unstarted, runs_past, busy}
use Rattle.model.proofs.Following.{Stage, stage_first}
use Rattle.jobs.specs.internal.JobRow.{jobs_of_rows}
use Rattle.jobs.proofs.Jobs.{length_jobs}
use Rattle.checking.specs.Checking.{per_job}
use Rattle.checking.proofs.PerJob.{per_job_is}
use Rattle.playing.specs.Playing.{scenario_in}
use Rattle.dispatch.specs.internal.Wakes.{wake_of, EachWakes}
use Rattle.dispatch.specs.internal.Turns.{Dispatchable, history_of, Turn, IsTime}
use Rattle.dispatch.proofs.Histories.{history_none}
use Rattle.dispatch.proofs.Turning.{word_fresh}

-- every word is zero
abbrev pub AllZero : List ℕ → Type 0
AllZero l = (j : ℕ) → get_or l j 0 ≡ 0

pub cleared : (l : List ℕ) (n : ℕ) → l ≡ replicate n 0 → AllZero l
cleared l n e j = ap (λ l. get_or l j 0) e ∙ get_or_same n j 0

-- as many cores as there are, all free
pub free_cores : (m : ℕ) → m ≤ most_cores → length {A = ℕ} (take m (replicate most_cores 0)) ≡ m
free_cores m h = omega (arith, length-take {A = ℕ} m (replicate most_cores 0), length-replicate {A = ℕ} most_cores 0)

pub free_at_once : (m n : ℕ) → AllZero (take m (replicate n 0))
free_at_once zero n j = refl
free_at_once (suc m) zero j = refl
free_at_once (suc m) (suc n) zero = refl
free_at_once (suc m) (suc n) (suc j) = free_at_once m n j

-- nothing has started
pub beginning : (rows : List ℕ) (k : ℕ) (playing starts finishes wakes cores : List ℕ) → Dispatchable rows k (length cores) playing → AllZero starts → AllZero finishes → AllZero cores
    → k ≤ length starts → k ≤ length finishes → k ≤ length wakes → EachWakes (wake_of (jobs_of_rows rows k) (scenario_in playing) finishes) k wakes
    → Turn rows k playing starts finishes wakes cores
beginning rows k playing starts finishes wakes cores given starts_zero finishes_zero cores-zero p q r woken =
    record {
      time = 0;
      standing =
          record {
            stage =
                subst (Stage js (length cores) s 0) (ap (λ n. replicate n unstarted) (length_jobs rows k) ∙ sym fresh)
                (stage_first js (length cores) s given.well_formed given.admissible);
            in_use = λ v l.
                ap (busy v) fresh ∙ count_none (runs_past v) k unstarted refl
                ∙ sym (count_zero (ltb v) cores 0 (λ c b. ap (ltb v) (cores-zero c) ∙ le-ltb v 0 (omega arith)));
            woken = λ j b. woken j b ∙ sym (word_fresh js s finishes j (finishes_zero j));
            not_before = λ c j b l h. omega arith;
            finishes_within = λ j b. omega (arith, finishes_zero j);
            cores_within = λ c b. omega (arith, cores-zero c);
          };
      kept = record { starts_long = p; finishes_long = q; wakes_long = r; starts_zero = λ j b. starts_zero j; finishes_zero = λ j b. finishes_zero j };
    }
  where
    js : List Job
    js = jobs_of_rows rows k

    s : Scenario
    s = scenario_in playing

    fresh : history_of starts finishes k ≡ replicate k unstarted
    fresh = history_none starts finishes k (λ j b. finishes_zero j)

-- an array with the times of a run, and zeros after them
pub times_are : (f : ℕ → ℕ) (k : ℕ) (l : List ℕ) → k ≤ most_jobs → length l ≡ most_jobs → IsTime f k l → l ≡ per_job k f
times_are f k l h e x = per_job_is k f h l e x.0 (λ j b _. x.1 j b)
