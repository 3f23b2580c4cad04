-- A playing of the jobs of rows: refused, or with the times of the run. Assumes nothing.
use Prim.Native.Nat.{ℕ}
use mathlib.Core.Path.{◌≡◌, ap, ◌∙◌, subst}
use mathlib.Core.List.{List}
use native.Mathlib.Omega.{arith}
use Rattle.model.specs.Jobs.{Job}
use Rattle.model.specs.Dispatch.{Scenario}
use Rattle.model.specs.Guarantee.{WellFormed, Admissible}
use Rattle.model.specs.Playing.{start_time, finish_time}
use Rattle.format.specs.Outcome.{Outcome, ok, ◌>>=◌}
use Rattle.jobs.specs.internal.JobRow.{jobs_of_rows, Setting}
use Rattle.jobs.proofs.Jobs.{length_jobs}
use Rattle.checking.specs.Checking.{per_job}
use Rattle.playing.specs.Playing.{Times, scenario_in, scenario_for, times_of, played_for}
use Rattle.playing.proofs.Admitted.{admitted}
use Rattle.dispatch.specs.internal.Turns.{Dispatchable}

module _ (rows : List ℕ) (k m : ℕ) (playing : List ℕ) where
  abbrev js : List Job
  js = jobs_of_rows rows k

  module _ (s : Scenario) (is : scenario_for js playing ≡ ok s) where
    abbrev s_is : s ≡ scenario_in playing
    s_is = (admitted js playing s is).0

    -- it can be dispatched
    pub dispatchable : Setting rows k m → WellFormed js m → Dispatchable rows k m playing
    dispatchable setting well_formed =
        record {
          setting = setting;
          has_jobs = omega (arith, (admitted js playing s is).2, length_jobs rows k);
          well_formed = well_formed;
          admissible = subst (Admissible js) s_is (admitted js playing s is).1;
        }

    -- and its times are these
    abbrev times : Times
    times = record { starts = per_job k (start_time js m (scenario_in playing)); finishes = per_job k (finish_time js m (scenario_in playing)) }

    times_are : times_of js m s ≡ times
    times_are = λ n. record { starts = per_job (length_jobs rows k n) (start_time js m (s_is n)); finishes = per_job (length_jobs rows k n) (finish_time js m (s_is n)) }

    pub played_as : played_for js m playing ≡ ok times
    played_as = ap (λ (o : Outcome Scenario). ◌>>=◌ o (λ s. ok (times_of js m s))) is ∙ ap ok times_are
