-- Starts, finish times and horizons of whole runs, worked out by hand, in one table with one result; what they are made of; and what `Played` says.
-- Assumes nothing.
use Rattle.std.specs.Prelude.{ℕ, ◌+◌, ◌≤◌, ◌<◌, ◌≡◌, refl, List, [], ◌∷◌, map, get_or, length}
use Rattle.std.proofs.Common.{arith}
use Rattle.words.specs.Tabulate.{tabulate}
use Rattle.model.specs.Folds.{member, largest_below}
use Rattle.model.specs.Jobs.{Job}
use Rattle.model.specs.Dispatch.{Scenario, Moment, waiting, running, done, status, run}
use Rattle.model.specs.Guarantee.{status_at}
use Rattle.model.specs.Playing.{horizon, first_time, runs_until, start_time, finish_time, Played}
use Rattle.model.proofs.examples.Marked.{resting, stroke, on_own_bells, phrase_p}
use Rattle.model.proofs.examples.Runs.{Case, scenario_of, p_at, order_at, bell_at, together_at, last_core_at, nearest_at, both_at, rest_at}

-- ---- whole runs

-- the start and the finish time of each job, and the horizon
pub record Times : Type 0 where
  pub starts : List ℕ
  pub finishes : List ℕ
  pub over : ℕ

-- a run, whatever its moment and state, and the times that are due
pub record Play : Type 0 where
  pub of : Case
  pub due : Times

abbrev play : (ℕ → Moment → Case) → List ℕ → List ℕ → ℕ → Play
play f starts finishes over =
    record { of = f 0 (record { statuses = []; free = 0 }); due = record { starts = starts; finishes = finishes; over = over } }

abbrev times : List Job → ℕ → Scenario → Times
times js m s = record { starts = tabulate (start_time js m s) 0 (length js); finishes = tabulate (finish_time js m s) 0 (length js); over = horizon js s }

abbrev pub times_of : Play → Times
times_of p = times p.of.jobs p.of.cores (scenario_of p.of)

-- no job
abbrev none_at : ℕ → Moment → Case
none_at t x = record { cores = 1; jobs = []; releases = 9 ∷ []; executions = 9 ∷ []; moment = t; expected = x }

-- one, released at 5, which executes for 3; it is over at the horizon
abbrev lone_at : ℕ → Moment → Case
lone_at t x =
    record { cores = 2; jobs = on_own_bells (stroke 0 9 1 9 1 ∷ []); releases = 5 ∷ 9 ∷ []; executions = 3 ∷ 9 ∷ []; moment = t; expected = x }

-- by hand, as in Runs; the horizon is the latest release, all executions and all rests
abbrev pub plays : List Play
plays =
    -- job 1 starts at 0; job 0, released at 1, waits for the core until 4
    play p_at (4 ∷ 0 ∷ []) (6 ∷ 4 ∷ []) 7
    -- jobs 0 and 1 have equal priority: the smaller number starts before the other
    ∷ play order_at (1 ∷ 2 ∷ 0 ∷ []) (2 ∷ 3 ∷ 1 ∷ []) 3
    -- job 1 waits for its bell until 3, and job 2 for job 1
    ∷ play bell_at (0 ∷ 3 ∷ 5 ∷ []) (3 ∷ 5 ∷ 6 ∷ []) 6
    -- two start at 0, and job 0 waits for a core
    ∷ play together_at (2 ∷ 0 ∷ 0 ∷ []) (6 ∷ 2 ∷ 2 ∷ []) 8
    -- jobs 0, 1 and 2 start when they are released, job 3 two milliseconds later
    ∷ play last_core_at (2 ∷ 1 ∷ 1 ∷ 4 ∷ []) (5 ∷ 4 ∷ 5 ∷ 5 ∷ []) 13
    -- job 2 waits for job 1, which is released last
    ∷ play nearest_at (0 ∷ 4 ∷ 6 ∷ []) (1 ∷ 6 ∷ 7 ∷ []) 8
    -- job 2 waits for both
    ∷ play both_at (0 ∷ 0 ∷ 3 ∷ []) (1 ∷ 3 ∷ 4 ∷ []) 5
    -- job 1 waits until its bell has rested, and job 2 runs meanwhile; all executions are 5, all rests 6
    ∷ play rest_at (0 ∷ 5 ∷ 2 ∷ []) (2 ∷ 6 ∷ 4 ∷ []) 11
    ∷ play none_at [] [] 0
    ∷ play lone_at (5 ∷ []) (8 ∷ []) 8
    ∷ []

pub played : map times_of plays ≡ map (λ (p : Play). p.due) plays
unfolding start_time finish_time tabulate
played = refl

-- ---- what they are made of

-- the first of these moments up to n
abbrev first_among : ℕ → List ℕ → ℕ
first_among n l = first_time (λ t. member t l) n

-- up to 0; up to 4: of two, in either order, at 0, at 4 itself, none so early, and none at all
pub first_times :
    first_among 0 (3 ∷ []) ∷ map (first_among 4) ((2 ∷ 3 ∷ []) ∷ (3 ∷ 2 ∷ []) ∷ (0 ∷ 3 ∷ []) ∷ (4 ∷ []) ∷ (7 ∷ []) ∷ [] ∷ [])
    ≡ 0 ∷ 2 ∷ 2 ∷ 0 ∷ 4 ∷ 4 ∷ 4 ∷ []
unfolding first_time member
first_times = refl

pub until : map runs_until (waiting ∷ running 4 ∷ done 4 ∷ []) ≡ 0 ∷ 4 ∷ 0 ∷ []
until = refl

-- the largest of the first n of these numbers
abbrev largest_of : ℕ → List ℕ → ℕ
largest_of n l = largest_below (λ k. get_or l k 0) n

-- of none; of two, where a third is larger; of three: in the middle, first and last
pub largests :
    largest_of 0 (7 ∷ []) ∷ largest_of 2 (3 ∷ 5 ∷ 7 ∷ []) ∷ map (largest_of 3) ((3 ∷ 7 ∷ 5 ∷ []) ∷ (7 ∷ 3 ∷ 5 ∷ []) ∷ (3 ∷ 5 ∷ 7 ∷ []) ∷ [])
    ≡ 0 ∷ 5 ∷ 7 ∷ 7 ∷ 7 ∷ []
unfolding largest_below
largests = refl

-- ---- what every run gives, for phrase P

abbrev start : Scenario → ℕ → ℕ
start = start_time (phrase_p 7) 1

abbrev finish : Scenario → ℕ → ℕ
finish = finish_time (phrase_p 7) 1

-- a job that starts at 2 and finishes at 6 waits at 1, runs from 2 to 5, and is done at 6
pub played_once : (s : Scenario) → Played (phrase_p 7) 1 s → start s 1 ≡ 2 → finish s 1 ≡ 6
    → map (λ t. status (run (phrase_p 7) 1 s t).statuses 1) (1 ∷ 2 ∷ 5 ∷ 6 ∷ []) ≡ waiting ∷ running 6 ∷ running 6 ∷ done 6 ∷ []
unfolding status_at
played_once s p b e =
    rw (p.once 1 (omega arith) 1, p.once 1 (omega arith) 2, p.once 1 (omega arith) 5, p.once 1 (omega arith) 6, b, e) refl

-- it starts at or after its release, finishes when it has executed, and does so by the horizon
pub played_released : (s : Scenario) → Played (phrase_p 7) 1 s → s.release 1 ≡ 3 → 3 ≤ start s 1
played_released s p e = omega (arith, e, p.released 1 (omega arith))

pub played_executed : (s : Scenario) → Played (phrase_p 7) 1 s → s.execution 1 ≡ 4 → finish s 1 ≡ start s 1 + 4
played_executed s p e = omega (arith, e, p.executed 1 (omega arith))

pub played_over : (s : Scenario) → Played (phrase_p 7) 1 s → horizon (phrase_p 7) s ≡ 7 → (finish s 0 ≤ 7) × (finish s 1 ≤ 7)
played_over s p e = omega (arith, e, p.over 0 (omega arith), p.over 1 (omega arith))

-- two jobs of one bell do not both run at 5
abbrev two : List Job
two = stroke 0 0 3 3 1 7 ∷ stroke 0 0 2 2 1 7 ∷ []

pub played_apart : (s : Scenario) → Played two 2 s
    → (start_time two 2 s 0 ≤ 5) × (5 < finish_time two 2 s 0) × (start_time two 2 s 1 ≤ 5) × (5 < finish_time two 2 s 1) → ⊥
played_apart s p o = p.apart 0 1 (omega arith) (omega arith) (λ e. omega arith) refl (5, omega arith, omega arith, omega arith, omega arith)

-- the second starts at least its rest of 3 after the first has finished
abbrev resting_two : List Job
resting_two = stroke 0 0 3 3 1 7 ∷ resting 3 9 [] 0 0 2 2 1 7 ∷ []

pub played_rested : (s : Scenario) → Played resting_two 2 s → finish_time resting_two 2 s 0 ≡ 4 → 7 ≤ start_time resting_two 2 s 1
played_rested s p e = omega (arith, e, p.rested 0 1 (omega arith) (omega arith) refl)
