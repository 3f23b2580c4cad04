-- What the statements of Guarantee hold of, and what not: instances at their borders, each by itself. Assumes nothing.
use Rattle.std.specs.Prelude.{ℕ, zero, suc, ◌+◌, ◌≤◌, ◌<◌, ◌≡◌, refl, Bool, true, false, cond, List, [], ◌∷◌, map, ltb, get_or}
use Rattle.std.proofs.lemmas.Bool.{false≢true}
use Rattle.std.proofs.Common.{arith}
use Rattle.std.proofs.Math.Dec.{eqb-suc-zero}
use Rattle.model.specs.Folds.{member, largest, all}
use Rattle.model.specs.Jobs.{Job}
use Rattle.model.specs.Dispatch.{Scenario, waiting, running, done, status, run}
use Rattle.model.specs.States.{Range, empty, range, latest}
use Rattle.model.specs.Guarantee.{WellFormed, Admissible, status_at, Contains, Overlap, Kept}
use Rattle.model.proofs.examples.Marked.{resting, stroke, on_own_bells, m1, phrase_p}
use Rattle.model.proofs.examples.Marked.{waiting as waits}

-- ---- the moments of a range: its ends are among them

pub contains_first : Contains (range 3 5) 3
contains_first = omega arith

pub contains_last : Contains (range 3 5) 5
contains_last = omega arith

pub contains_none_before : Contains (range 3 5) 2 → ⊥
contains_none_before c = omega arith

pub contains_none_after : Contains (range 3 5) 6 → ⊥
contains_none_after c = omega arith

pub empty_contains_none : (x : ℕ) → Contains empty x → ⊥
empty_contains_none x c = c

-- ---- two executions that share a millisecond, and two that touch

pub overlap_in_one : Overlap 2 5 4 7
overlap_in_one = (4, omega arith, omega arith, omega arith, omega arith)

pub overlap_in_one_turned : Overlap 4 7 2 5
overlap_in_one_turned = (4, omega arith, omega arith, omega arith, omega arith)

-- one lies in the other, and the same twice
pub overlap_inside : Overlap 2 7 4 5
overlap_inside = (4, omega arith, omega arith, omega arith, omega arith)

pub overlap_inside_turned : Overlap 4 5 2 7
overlap_inside_turned = (4, omega arith, omega arith, omega arith, omega arith)

pub overlap_same : Overlap 4 5 4 5
overlap_same = (4, omega arith, omega arith, omega arith, omega arith)

-- one may start in the millisecond in which the other ends
pub touching_apart : Overlap 2 4 4 7 → ⊥
touching_apart o = omega arith

pub touching_apart_turned : Overlap 4 7 2 4 → ⊥
touching_apart_turned o = omega arith

-- ---- scenarios: every time lies in its range, the ends of which are allowed

-- one release time and one execution time for each job
abbrev scenario : List ℕ → List ℕ → Scenario
scenario releases executions = record { release = λ k. get_or releases k 0; execution = λ k. get_or executions k 0 }

of_one : (P : ℕ → Type 0) → P 0 → (i : ℕ) → i < 1 → P i
of_one P a zero h = a
of_one P a (suc i) h = absurd (omega arith)

-- what holds of 0 and of 1 holds of every number below 2
pub of_two : (P : ℕ → Type 0) → P 0 → P 1 → (i : ℕ) → i < 2 → P i
of_two P a b zero h = a
of_two P a b (suc zero) h = b
of_two P a b (suc (suc i)) h = absurd (omega arith)

-- M1, whose stroke 0 holds for 1 or for 2
pub m1_shortest : Admissible m1.jobs (scenario (0 ∷ 0 ∷ []) (1 ∷ 3 ∷ []))
m1_shortest = record { releases = of_two _ (omega arith) (omega arith); executions = of_two _ (omega arith) (omega arith) }

pub m1_longest : Admissible m1.jobs (scenario (0 ∷ 0 ∷ []) (2 ∷ 3 ∷ []))
m1_longest = record { releases = of_two _ (omega arith) (omega arith); executions = of_two _ (omega arith) (omega arith) }

-- its stroke 1, called at 1, and held for 2 and for 4
pub m1_called_late : Admissible m1.jobs (scenario (0 ∷ 1 ∷ []) (1 ∷ 3 ∷ [])) → ⊥
m1_called_late a = omega (arith, a.releases 1 (omega arith))

pub m1_held_short : Admissible m1.jobs (scenario (0 ∷ 0 ∷ []) (1 ∷ 2 ∷ [])) → ⊥
m1_held_short a = omega (arith, a.executions 1 (omega arith))

pub m1_held_long : Admissible m1.jobs (scenario (0 ∷ 0 ∷ []) (1 ∷ 4 ∷ [])) → ⊥
m1_held_long a = omega (arith, a.executions 1 (omega arith))

-- what a scenario says of numbers that no job has is free
pub m1_no_third : Admissible m1.jobs (scenario (0 ∷ 0 ∷ 9 ∷ []) (1 ∷ 3 ∷ 0 ∷ []))
m1_no_third = record { releases = of_two _ (omega arith) (omega arith); executions = of_two _ (omega arith) (omega arith) }

-- one job, released between 2 and 5, executing for 3 or 4
abbrev lone : List Job
lone = on_own_bells (stroke 2 5 3 4 1 ∷ [])

pub lone_least : Admissible lone (scenario (2 ∷ []) (3 ∷ []))
lone_least = record { releases = of_one _ (omega arith); executions = of_one _ (omega arith) }

pub lone_most : Admissible lone (scenario (5 ∷ []) (4 ∷ []))
lone_most = record { releases = of_one _ (omega arith); executions = of_one _ (omega arith) }

-- one past each border: released at 1 and at 6, executing for 2 and for 5
pub lone_released_early : Admissible lone (scenario (1 ∷ []) (3 ∷ [])) → ⊥
lone_released_early a = omega (arith, a.releases 0 (omega arith))

pub lone_released_late : Admissible lone (scenario (6 ∷ []) (3 ∷ [])) → ⊥
lone_released_late a = omega (arith, a.releases 0 (omega arith))

pub lone_executes_short : Admissible lone (scenario (2 ∷ []) (2 ∷ [])) → ⊥
lone_executes_short a = omega (arith, a.executions 0 (omega arith))

pub lone_executes_long : Admissible lone (scenario (2 ∷ []) (5 ∷ [])) → ⊥
lone_executes_long a = omega (arith, a.executions 0 (omega arith))

-- ---- phrases that are well-formed, and that are not

listed_zero : (w : ℕ) → member w (0 ∷ []) ≡ true → w < 1
unfolding member
listed_zero zero e = omega arith
listed_zero (suc w) e = absurd (false≢true (rw (eqb-suc-zero w) at e))

listed_none : (w : ℕ) → member w [] ≡ true → w < 0
unfolding member
listed_none w e = absurd (false≢true e)

-- one core, executions of a millisecond, and job 1 lists the number below its own
pub barely : WellFormed (on_own_bells (stroke 0 0 1 1 1 ∷ waits (0 ∷ []) 0 0 1 1 1 ∷ [])) 1
barely = record { cores = omega arith; lasts = of_two _ (omega arith) (omega arith); earlier = of_two _ listed_none listed_zero }

-- no core, and an execution that takes no time
pub no_core : WellFormed lone 0 → ⊥
no_core w = omega (arith, w.cores)

pub no_time : WellFormed (on_own_bells (stroke 0 0 0 1 1 ∷ [])) 1 → ⊥
no_time w = omega (arith, w.lasts 0 (omega arith))

-- it lists itself
pub not_earlier : WellFormed (on_own_bells (waits (0 ∷ []) 0 0 1 1 1 ∷ [])) 1 → ⊥
unfolding member
not_earlier w = omega (arith, w.earlier 0 (omega arith) 0 refl)

-- ---- the status of a job that starts at 2 and finishes at 5, at 0 to 6

pub statuses : map (status_at 2 5) (0 ∷ 1 ∷ 2 ∷ 3 ∷ 4 ∷ 5 ∷ 6 ∷ []) ≡ waiting ∷ waiting ∷ running 5 ∷ running 5 ∷ running 5 ∷ done 5 ∷ done 5 ∷ []
unfolding status_at
statuses = refl

-- ---- what a run that is kept gives, for phrase P within its bounds

abbrev within : List Range
within = range 2 7 ∷ range 4 6 ∷ []

-- a job that starts at 2 and finishes at 6 waits at 1, runs from 2 to 5, and is done at 6
pub kept_once : (s : Scenario) (k : Kept (phrase_p 7) 1 within s) → k.start 1 ≡ 2 → k.finish 1 ≡ 6
    → map (λ t. status (run (phrase_p 7) 1 s t).statuses 1) (1 ∷ 2 ∷ 5 ∷ 6 ∷ []) ≡ waiting ∷ running 6 ∷ running 6 ∷ done 6 ∷ []
unfolding status_at
kept_once s k b e =
    rw (k.once 1 (omega arith) 1, k.once 1 (omega arith) 2, k.once 1 (omega arith) 5, k.once 1 (omega arith) 6, b, e) refl

-- it starts at or after its release, and finishes when it has executed
pub kept_released : (s : Scenario) (k : Kept (phrase_p 7) 1 within s) → s.release 1 ≡ 3 → 3 ≤ k.start 1
kept_released s k e = omega (arith, e, k.released 1 (omega arith))

pub kept_executed : (s : Scenario) (k : Kept (phrase_p 7) 1 within s) → s.execution 1 ≡ 4 → k.finish 1 ≡ k.start 1 + 4
kept_executed s k e = omega (arith, e, k.executed 1 (omega arith))

-- it finishes within its bounds, both of them
pub kept_bounded : (s : Scenario) (k : Kept (phrase_p 7) 1 within s)
    → (2 ≤ k.finish 0) × (k.finish 0 ≤ 7) × (4 ≤ k.finish 1) × (k.finish 1 ≤ 6)
kept_bounded s k = omega (arith, k.bounded 0 (omega arith), k.bounded 1 (omega arith))

-- it is in time even where the bounds would allow more
pub kept_timely : (s : Scenario) (k : Kept (phrase_p 7) 1 (range 0 9 ∷ range 0 9 ∷ []) s) → (k.finish 0 ≤ 7) × (k.finish 1 ≤ 6)
kept_timely s k = omega (arith, k.timely 0 (omega arith), k.timely 1 (omega arith))

-- the largest of the latest finish times; 0 where there is none
pub largest_latest :
    map (largest all latest) ((range 2 7 ∷ range 4 6 ∷ []) ∷ (range 4 6 ∷ range 2 7 ∷ []) ∷ [] ∷ (empty ∷ []) ∷ []) ≡ 7 ∷ 7 ∷ 0 ∷ 0 ∷ []
unfolding largest
largest_latest = refl

-- from 7 on, the largest latest finish time, every job is done
pub kept_quiet : (s : Scenario) (k : Kept (phrase_p 7) 1 within s) (t : ℕ) → 7 ≤ t
    → (status (run (phrase_p 7) 1 s t).statuses 0 ≡ done (k.finish 0)) × (status (run (phrase_p 7) 1 s t).statuses 1 ≡ done (k.finish 1))
unfolding largest
kept_quiet s k t l = (k.quiet t (omega arith) 0 (omega arith), k.quiet t (omega arith) 1 (omega arith))

-- two jobs of one bell do not both run at 5, in either order
abbrev two : List Job
two = stroke 0 0 3 3 1 7 ∷ stroke 0 0 2 2 1 7 ∷ []

pub kept_apart : (s : Scenario) (bounds : List Range) (k : Kept two 2 bounds s)
    → (k.start 0 ≤ 5) × (5 < k.finish 0) × (k.start 1 ≤ 5) × (5 < k.finish 1) → ⊥
kept_apart s bounds k r =
    k.apart 0 1 (omega arith) (omega arith) (λ e. omega arith) refl (5, omega arith, omega arith, omega arith, omega arith)

pub kept_apart_turned : (s : Scenario) (bounds : List Range) (k : Kept two 2 bounds s)
    → (k.start 0 ≤ 5) × (5 < k.finish 0) × (k.start 1 ≤ 5) × (5 < k.finish 1) → ⊥
kept_apart_turned s bounds k r =
    k.apart 1 0 (omega arith) (omega arith) (λ e. omega arith) refl (5, omega arith, omega arith, omega arith, omega arith)

-- the second of three jobs of one bell starts at least its rest of 3 after the first has finished, and the third its rest of 2 after either
abbrev three : List Job
three = stroke 0 0 3 3 1 7 ∷ resting 3 9 [] 0 0 2 2 1 7 ∷ resting 2 9 [] 0 0 2 2 1 7 ∷ []

pub kept_rested : (s : Scenario) (bounds : List Range) (k : Kept three 2 bounds s) → k.finish 0 ≡ 4 → k.finish 1 ≡ 9
    → (7 ≤ k.start 1) × (6 ≤ k.start 2) × (11 ≤ k.start 2)
kept_rested s bounds k e e' =
    omega (
      arith,
      e,
      e',
      k.rested 0 1 (omega arith) (omega arith) refl,
      k.rested 0 2 (omega arith) (omega arith) refl,
      k.rested 1 2 (omega arith) (omega arith) refl,
    )

-- ---- runs that are not kept: P on one core, its job 0 released at 1, which runs from 4 until 6

abbrev pub later : Scenario
later = scenario (1 ∷ 0 ∷ []) (2 ∷ 4 ∷ [])

pub later_admissible : Admissible (phrase_p 7) later
later_admissible = record { releases = of_two _ (omega arith) (omega arith); executions = of_two _ (omega arith) (omega arith) }

runs_until_holds : (b c : Bool) (f g : ℕ) → running g ≡ cond b waiting (cond c (running f) (done f)) → f ≡ g
runs_until_holds true c f g e = absurd (let z : ◌≡◌ {A = ℕ} 0 1 = cc in omega arith)
runs_until_holds false true f g e = cc
runs_until_holds false false f g e = absurd (let z : ◌≡◌ {A = ℕ} 0 1 = cc in omega arith)

-- so its finish time is 6, whatever the bounds and its deadline are
six : (d : ℕ) (bounds : List Range) (k : Kept (phrase_p d) 1 bounds later) → k.finish 0 ≡ 6
unfolding run status_at
six d bounds k = runs_until_holds (ltb 4 (k.start 0)) (ltb 4 (k.finish 0)) (k.finish 0) 6 (k.once 0 (omega arith) 4)

pub not_from_seven : Kept (phrase_p 7) 1 (range 7 7 ∷ range 4 6 ∷ []) later → ⊥
not_from_seven k = omega (arith, six 7 (range 7 7 ∷ range 4 6 ∷ []) k, k.bounded 0 (omega arith))

pub not_until_five : Kept (phrase_p 7) 1 (range 2 5 ∷ range 4 6 ∷ []) later → ⊥
not_until_five k = omega (arith, six 7 (range 2 5 ∷ range 4 6 ∷ []) k, k.bounded 0 (omega arith))

pub not_due_at_five : Kept (phrase_p 5) 1 within later → ⊥
not_due_at_five k = omega (arith, six 5 within k, k.timely 0 (omega arith))

-- a job without bounds
pub not_without_bounds : Kept (phrase_p 7) 1 (range 2 7 ∷ []) later → ⊥
not_without_bounds k = k.bounded 1 (omega arith)
