-- The premises of request 107 can be met, and leave out what is uncertain: two jobs of one bell with a rest, in time and late. Assumes nothing.
use Prim.Native.Nat.{ℕ, ◌≤◌, ◌<◌}
use mathlib.Core.Path.{◌≡◌, refl, sym, ap, ◌∙◌}
use mathlib.Core.Bool.{true}
use mathlib.Core.List.{List, [], ◌∷◌}
use native.Mathlib.Omega.{arith}
use Rattle.model.specs.Folds.{member}
use Rattle.model.specs.Jobs.{Job, job}
use Rattle.model.specs.Dispatch.{Scenario}
use Rattle.model.specs.States.{Range, range, earliest}
use Rattle.model.specs.Exploration.{accepted, late, analysis}
use Rattle.model.specs.Guarantee.{WellFormed, Admissible}
use Rattle.model.specs.Playing.{finish_time}
use Rattle.model.specs.Certain.{Certain, only_scenario, run_verdict, Decided}
use Rattle.model.proofs.examples.Marked.{resting}
use Rattle.model.proofs.examples.Instances.{of_two}
use Rattle.model.proofs.Folds.{not_in_nil}
use Rattle.model.proofs.Certain.{decided, accepted_exactly, both_ends, told_late, only_times}

-- two jobs of one bell, which rests for 3; the second is released by rb, executes for cb at the most, and is due at d
abbrev pub phrase : ℕ → ℕ → ℕ → List Job
phrase rb cb d = resting 3 9 [] 0 0 2 2 1 7 ∷ resting 3 d [] 0 rb 1 cb 1 7 ∷ []

-- with nothing uncertain
abbrev pub clockwork : ℕ → List Job
clockwork = phrase 0 1

-- ---- what is left out

-- an uncertain release
pub not_released_once : (d : ℕ) → Certain (phrase 1 1 d) → ⊥
not_released_once d c = omega (arith, c.releases 1 (omega arith))

-- an uncertain execution
pub not_executed_once : (d : ℕ) → Certain (phrase 0 2 d) → ⊥
not_executed_once d c = omega (arith, c.executions 1 (omega arith))

-- ---- the premises

pub certain : (d : ℕ) → Certain (clockwork d)
certain d =
    record {
      releases = of_two (λ i. (job (clockwork d) i).earliest_release ≡ (job (clockwork d) i).latest_release) refl refl;
      executions = of_two (λ i. (job (clockwork d) i).least_execution ≡ (job (clockwork d) i).most_execution) refl refl;
    }

pub well_formed_holds : (d : ℕ) → WellFormed (clockwork d) 1
well_formed_holds d =
    record {
      cores = omega arith;
      lasts = of_two (λ i. 1 ≤ (job (clockwork d) i).least_execution) (omega arith) (omega arith);
      earlier = of_two (λ i. (w : ℕ) → member w (job (clockwork d) i).listed ≡ true → w < i) (λ w e. absurd (not_in_nil w e)) (λ w e. absurd (not_in_nil w e));
    }

pub is_decided : (d : ℕ) → Decided (clockwork d) 1 1
is_decided d = decided (clockwork d) 1 1 (well_formed_holds d) (certain d) (omega arith)

-- ---- what follows

-- when the second job finishes in the one run
abbrev ended : ℕ → ℕ
ended d = finish_time (clockwork d) 1 (only_scenario (clockwork d)) 1

-- Job 0 runs from 0 to 2, job 1 from 2 + 3 to 6.
abbrev pub bounds : List Range
bounds = range 2 2 ∷ range 6 6 ∷ []

accepts : analysis (clockwork 6) 1 1 ≡ accepted bounds 3
unfolding analysis
accepts = refl

pub verdict_in_time : run_verdict (clockwork 6) 1 (only_scenario (clockwork 6)) ≡ accepted bounds 3
verdict_in_time = sym (is_decided 6).verdict ∙ accepts

-- accepted: both its bounds are its finish time
pub ended_in_time : ended 6 ≡ 6
ended_in_time = sym (ap earliest ((both_ends (clockwork 6) 1 1 (well_formed_holds 6) (certain 6) (omega arith) bounds 3 accepts).1 1 (omega arith)))

-- and so in every run
pub ended_always : (s : Scenario) → Admissible (clockwork 6) s → finish_time (clockwork 6) 1 s 1 ≡ 6
ended_always s a = (only_times (clockwork 6) 1 1 (well_formed_holds 6) (certain 6) (omega arith) s a 1 (omega arith)).1 ∙ ended_in_time

-- the run meets both deadlines
pub meets : (k : ℕ) → k < 2 → finish_time (clockwork 6) 1 (only_scenario (clockwork 6)) k ≤ (job (clockwork 6) k).deadline
meets = (accepted_exactly (clockwork 6) 1 1 (well_formed_holds 6) (certain 6) (omega arith)).0 (bounds, 3, accepts)

refuses : analysis (clockwork 5) 1 1 ≡ late 1 6 6
unfolding analysis
refuses = refl

pub verdict_late : run_verdict (clockwork 5) 1 (only_scenario (clockwork 5)) ≡ late 1 6 6
verdict_late = sym (is_decided 5).verdict ∙ refuses

-- late, where it is due a moment before: what is told is its finish time, and that is after 5
pub ended_late : (ended 5 ≡ 6) × (5 < ended 5)
ended_late =
    let x = told_late (clockwork 5) 1 1 (well_formed_holds 5) (certain 5) (omega arith) 1 6 6 refuses in
    (sym x.1, x.3)
