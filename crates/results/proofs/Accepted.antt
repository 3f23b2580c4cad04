-- Where the analysis accepts, the words of the observed ranges hold a range for every job. Assumes nothing.
use Prim.Native.Nat.{ℕ, ◌+◌, ◌≤◌, ◌<◌}
use mathlib.Core.Path.{◌≡◌, refl}
use mathlib.Core.Bool.{Bool, true, false, cond, false≢true}
use mathlib.Core.List.{List}
use native.Mathlib.Omega.{arith}
use lib.Dec.{eqb}
use lib.ListN.{get_or}
use borrow.Author.Tests.{eqb-false}
use Rattle.model.specs.Limits.{most_jobs, latest_time}
use Rattle.model.specs.Jobs.{job}
use Rattle.model.specs.States.{empty, range, is_range}
use Rattle.model.specs.Exploration.{accepted, analysis}
use Rattle.model.specs.Guarantee.{WellFormed}
use Rattle.model.specs.internal.Bounds.{Between}
use Rattle.jobs.specs.internal.JobRow.{jobs_of_rows, Setting}
use Rattle.jobs.proofs.Jobs.{length_jobs}
use Rattle.ranges.specs.internal.Ranges.{range_in}
use Rattle.steps.specs.internal.Observed.{observed_of, Observed}
use Rattle.steps.proofs.Ranges.{observed_at_holds}
use Rattle.checking.proofs.Accepted.{Reported, reported}
use Rattle.results.specs.internal.Finishes.{FinishesObserved}

-- a range in two words, the latest of which is 0 where nothing was observed
in_words : (a d e f : ℕ) → is_range (range_in e f) ≡ true → Between a d (range_in e f) → (a ≤ e) × (e ≤ f) × (1 ≤ f)
in_words a d e f = go (eqb f 0) refl
  where
    go : (b : Bool) → eqb f 0 ≡ b → is_range (cond b empty (range e f)) ≡ true → Between a d (cond b empty (range e f)) → (a ≤ e) × (e ≤ f) × (1 ≤ f)
    go true q r h = absurd (false≢true r)
    go false q r h = omega (arith, eqb-false f 0 q)

-- Where the analysis accepts, every job was observed to finish, after its earliest release.
pub all_finished : (rows seen : List ℕ) (k m cap c : ℕ) → Setting rows k m → WellFormed (jobs_of_rows rows k) m → Observed k seen
    → analysis (jobs_of_rows rows k) m cap ≡ accepted (observed_of k seen) c → FinishesObserved rows k seen
all_finished rows seen k m cap c set wf obs e =
    record {
      rows_of = set.rows_of;
      few = set.jobs;
      observed = obs;
      released = λ i b. (words i b).0;
      in_order_holds = λ i b. (words i b).1;
      finished = λ i b. (words i b).2;
    }
  where
    given : Reported (jobs_of_rows rows k) latest_time (observed_of k seen)
    given = reported (jobs_of_rows rows k) m cap latest_time wf set.timed (observed_of k seen) c e

    words : (i : ℕ) → i < k
        → ((job (jobs_of_rows rows k) i).earliest_release ≤ get_or seen i 0) × (get_or seen i 0 ≤ get_or seen (most_jobs + i) 0) × (1 ≤ get_or seen (most_jobs + i) 0)
    words i b =
        in_words (job (jobs_of_rows rows k) i).earliest_release latest_time (get_or seen i 0) (get_or seen (most_jobs + i) 0)
        (rw (observed_at_holds k seen i b) at (given.ranged i (omega (arith, length_jobs rows k)))) (rw (observed_at_holds k seen i b) at (given.between i))
