-- Scenarios that agree on every job give one run; so there is one run where nothing is uncertain. Assumes nothing.
use Prim.Native.Nat.{ℕ, zero, suc, ◌+◌, ◌<◌}
use mathlib.Core.Path.{◌≡◌, refl, ap, ◌∙◌}
use mathlib.Core.Bool.{Bool, ◌&&◌}
use mathlib.Core.List.{List, map}
use mathlib.Core.Option.{Option, none, some}
use native.Mathlib.Omega.{arith}
use lib.Dec.{leb}
use lib.ListN.{length, set}
use Rattle.model.specs.Folds.{every, count}
use Rattle.model.specs.Jobs.{Job, predecessors, rest_of}
use Rattle.model.specs.Dispatch.{Scenario, Status, running, Moment, status, is_waiting, has_rested, finishes_at, finished, beginning, ready, first_of, if_some, fill, steps, run}
use Rattle.model.specs.Guarantee.{Admissible}
use Rattle.model.specs.Certain.{Certain, only_scenario}
use Rattle.model.proofs.Priority.{First, first_of_holds}

first_same : (js : List Job) (p q : ℕ → Bool) (n : ℕ) → ((i : ℕ) → i < n → p i ≡ q i) → first_of js p n ≡ first_of js q n
unfolding first_of
first_same js p q zero h = refl
first_same js p q (suc n) h = rw (h n (omega arith), first_same js p q n (λ i b. h i (omega arith))) refl

module _ (js : List Job) (s s' : Scenario) (same : (i : ℕ) → i < length js → (s.release i ≡ s'.release i) × (s.execution i ≡ s'.execution i)) where
  ready_same : (t : ℕ) (l : List Status) (i : ℕ) → i < length js → ready js s t l i ≡ ready js s' t l i
  unfolding ready
  ready_same t l i b =
      ap (λ r. is_waiting (status l i) && (leb r t && every (λ w. has_rested t (rest_of js i w) (status l w)) (predecessors js i))) (same i b).0

  fill_same : (t n : ℕ) (l : List Status) → fill js s t n l ≡ fill js s' t n l
  unfolding fill
  fill_same t zero l = refl
  fill_same t (suc n) l =
      rw (first_same js (ready js s t l) (ready js s' t l) (length js) (ready_same t l))
      (go (first_of js (ready js s' t l) (length js)) (first_of_holds js (ready js s' t l) (length js)) (λ x. fill_same t n x))
    where
      go : (o : Option ℕ) → First js (ready js s' t l) (length js) o → ((x : List Status) → fill js s t n x ≡ fill js s' t n x)
          → if_some o (λ i. fill js s t n (set l i (running (t + s.execution i)))) (record { statuses = l; free = suc n })
          ≡ if_some o (λ i. fill js s' t n (set l i (running (t + s'.execution i)))) (record { statuses = l; free = suc n })
      go none f r = refl
      go (some i) f r = r (set l i (running (t + s.execution i))) ∙ ap (λ x. fill js s' t n (set l i (running (t + x)))) (same i f.0).1

  steps_same : (t : ℕ) (x : Moment) → steps js s t x ≡ steps js s' t x
  unfolding steps
  steps_same t x = fill_same t (x.free + count (finishes_at t) x.statuses) (map (finished t) x.statuses)

  run_same : (m t : ℕ) → run js m s t ≡ run js m s' t
  unfolding run
  run_same m zero = steps_same 0 (beginning js m)
  run_same m (suc t) = ap (steps js s (suc t)) (run_same m t) ∙ steps_same (suc t) (run js m s' t)

-- every admissible scenario of jobs with nothing uncertain gives the run of the one
pub one_run_holds : (js : List Job) → Certain js → (s : Scenario) → Admissible js s → (m t : ℕ) → run js m s t ≡ run js m (only_scenario js) t
one_run_holds js certain s adm =
    run_same js s (only_scenario js)
    (λ i b. (omega (arith, adm.releases i b, certain.releases i b), omega (arith, adm.executions i b, certain.executions i b)))

-- which is admissible
pub only_admissible : (js : List Job) → Certain js → Admissible js (only_scenario js)
only_admissible js certain =
    record { releases = λ i b. (omega arith, omega (arith, certain.releases i b)); executions = λ i b. (omega arith, omega (arith, certain.executions i b)) }
