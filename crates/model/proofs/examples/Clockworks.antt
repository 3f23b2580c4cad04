-- Phrases with nothing uncertain, worked out by hand, in one table with one result: the one run, the verdict on it, and the same verdict by the analysis
-- where a level has room for one state. Then what these are made of, and what `Decided` says. Assumes nothing.
use Rattle.std.specs.Prelude.{ℕ, suc, ◌<◌, ◌≡◌, refl, Bool, true, false, List, [], ◌∷◌, map, length}
use Rattle.std.proofs.Math.Option.{Option, none, some}
use Rattle.std.proofs.Common.{arith}
use Rattle.words.specs.Tabulate.{tabulate}
use Rattle.model.specs.Jobs.{Job}
use Rattle.model.specs.Dispatch.{Scenario, running, done, run}
use Rattle.model.specs.States.{Range, empty, range, State}
use Rattle.model.specs.Exploration.{Exploration, going, miss, explored, Verdict, accepted, refused, late, analysis}
use Rattle.model.specs.Guarantee.{Admissible}
use Rattle.model.specs.Playing.{start_time}
use Rattle.model.specs.Certain.{only_scenario, is_late, first_late, run_verdict, Decided}
use Rattle.model.proofs.examples.Marked.{resting, due_waiting, due, stroke, on_own_bells}

-- a phrase on so many cores, when each job starts in its one run, and the verdict that is due
pub record Case : Type 0 where
  pub cores : ℕ
  pub jobs : List Job
  pub starts : List ℕ
  pub expected : Verdict

-- when each job starts, the verdict on the run, and that of the analysis
pub record Outcome : Type 0 where
  pub begun : List ℕ
  pub of_run : Verdict
  pub of_analysis : Verdict

abbrev pub outcome : Case → Outcome
outcome c =
    record {
      begun = tabulate (start_time c.jobs c.cores (only_scenario c.jobs)) 0 (length c.jobs);
      of_run = run_verdict c.jobs c.cores (only_scenario c.jobs);
      of_analysis = analysis c.jobs c.cores 1;
    }

abbrev pub expected_of : Case → Outcome
expected_of c = record { begun = c.starts; of_run = c.expected; of_analysis = c.expected }

-- a job due at d, released at r, which executes for c, of priority p; its bell comes last
abbrev pub sure : ℕ → ℕ → ℕ → ℕ → ℕ → Job
sure d r c p = due d r r c c p

-- ---- in time, and not

-- no job: level 0 is the last
abbrev pub nothing : Case
nothing = record { cores = 1; jobs = []; starts = []; expected = accepted [] 1 }

-- One job, released at 2, ends at 2 + 3: in time where it is due then.
abbrev pub alone : ℕ → Verdict → Case
alone d v = record { cores = 1; jobs = on_own_bells (sure d 2 3 1 ∷ []); starts = 2 ∷ []; expected = v }

abbrev pub in_time : Case
in_time = alone 5 (accepted (range 5 5 ∷ []) 2)

-- .. and late where it is due a moment before
abbrev pub late_by_one : Case
late_by_one = alone 4 (late 0 5 5)

-- Jobs 0 and 1 strike one bell, with a rest of 3. Job 0 runs from 0 to 2, so job 1 from 2 + 3 to 6; between them job 2, of lower priority, from 2 to 4.
abbrev pub with_rest : ℕ → Verdict → Case
with_rest d v =
    record {
      cores = 1;
      jobs = resting 3 9 [] 0 0 2 2 1 7 ∷ resting 3 d [] 0 0 1 1 1 7 ∷ stroke 0 0 2 2 2 8 ∷ [];
      starts = 0 ∷ 5 ∷ 2 ∷ [];
      expected = v;
    }

abbrev pub rest_in_time : Case
rest_in_time = with_rest 6 (accepted (range 2 2 ∷ range 6 6 ∷ range 4 4 ∷ []) 4)

abbrev pub rest_late : Case
rest_late = with_rest 5 (late 1 6 6)

-- Job 1 goes before job 0, but is not there when job 0 starts. Job 0 runs from 0 to 4, job 1, released at 1, from 4 to 6.
abbrev first_come_first : Case
first_come_first =
    record {
      cores = 1;
      jobs = on_own_bells (sure 4 0 4 2 ∷ sure 6 1 2 1 ∷ []);
      starts = 0 ∷ 4 ∷ [];
      expected = accepted (range 4 4 ∷ range 6 6 ∷ []) 3;
    }

-- On two cores jobs 1 and 2 both wait for job 0, which runs from 0 to 2. Job 1 goes before job 2, but is released at 5: job 2 runs from 2 to 6, and job 1,
-- on the other core, from 5 to 7.
abbrev shared_wait : Case
shared_wait =
    record {
      cores = 2;
      jobs = on_own_bells (sure 2 0 2 3 ∷ due_waiting 7 (0 ∷ []) 5 5 2 2 1 ∷ due_waiting 6 (0 ∷ []) 0 0 4 4 2 ∷ []);
      starts = 0 ∷ 5 ∷ 2 ∷ [];
      expected = accepted (range 2 2 ∷ range 7 7 ∷ range 6 6 ∷ []) 4;
    }

-- On two cores jobs 0 and 1 start at 0, by priority, and end at 3 and 2. Job 2 takes the core that is free at 2, and ends at 3; both cores are free at 3, and
-- nothing runs until job 3 is released, at 9: it runs from 9 to 10.
abbrev two_cores : Case
two_cores =
    record {
      cores = 2;
      jobs = on_own_bells (sure 3 0 3 2 ∷ sure 2 0 2 1 ∷ sure 3 0 1 3 ∷ sure 10 9 1 0 ∷ []);
      starts = 0 ∷ 0 ∷ 2 ∷ 9 ∷ [];
      expected = accepted (range 3 3 ∷ range 2 2 ∷ range 3 3 ∷ range 10 10 ∷ []) 5;
    }

-- ---- which job is told

-- The first to start is in time: job 0 runs from 0 to 2, and is due then. Job 1 runs from 2 to 4, due at 3. Job 2 runs from 4 to 5, in time.
abbrev pub later_late : Case
later_late =
    record { cores = 1; jobs = on_own_bells (sure 2 0 2 1 ∷ sure 3 0 2 2 ∷ sure 5 0 1 3 ∷ []); starts = 0 ∷ 2 ∷ 4 ∷ []; expected = late 1 4 4 }

-- Both are late, on two cores: job 1 runs from 0 to 9, due at 8, job 0 from 2 to 3, due at 2. Job 1 starts first, though it has the larger number and ends
-- later.
abbrev pub larger_number : Case
larger_number = record { cores = 2; jobs = on_own_bells (sure 2 2 1 2 ∷ sure 8 0 9 1 ∷ []); starts = 2 ∷ 0 ∷ []; expected = late 1 9 9 }

-- The same, but job 0 starts first, so that its number is the smaller: job 0 runs from 0 to 9, job 1 from 2 to 3.
abbrev pub ends_earlier : Case
ends_earlier = record { cores = 2; jobs = on_own_bells (sure 8 0 9 1 ∷ sure 2 2 1 2 ∷ []); starts = 0 ∷ 2 ∷ []; expected = late 0 9 9 }

-- Both are late, on one core: job 0 runs from 0 to 2, due at 1, job 1 from 2 to 4, due at 3. Job 1 goes before job 0, but is released at 1: job 0 starts first.
abbrev pub higher_starts_later : Case
higher_starts_later = record { cores = 1; jobs = on_own_bells (sure 1 0 2 2 ∷ sure 3 1 2 1 ∷ []); starts = 0 ∷ 2 ∷ []; expected = late 0 2 2 }

-- Both are late, and start at 1 on two cores: job 0 ends at 3, due at 2, job 1 at 4, due at 3. Of these job 1 goes before job 0.
abbrev pub together_by_priority : Case
together_by_priority = record { cores = 2; jobs = on_own_bells (sure 2 1 2 2 ∷ sure 3 1 3 1 ∷ []); starts = 1 ∷ 1 ∷ []; expected = late 1 4 4 }

-- .. of equal priority, and with the times of the other: job 0 ends at 4, due at 3, job 1 at 3, due at 2. Of these job 0 goes before job 1.
abbrev pub together_by_number : Case
together_by_number = record { cores = 2; jobs = on_own_bells (sure 3 1 3 1 ∷ sure 2 1 2 1 ∷ []); starts = 1 ∷ 1 ∷ []; expected = late 0 4 4 }

-- On three cores jobs 0, 1 and 2 start at 0. The first of them by priority, job 2, is in time: it ends at 1. Jobs 0 and 1 end at 2, due at 1; of these job 1
-- goes before job 0. Job 3, which goes before all, is late too: it is released at 1, takes the core that job 2 left, and ends at 3, due at 2.
abbrev pub among_others : Case
among_others =
    record {
      cores = 3;
      jobs = on_own_bells (sure 1 0 2 3 ∷ sure 1 0 2 2 ∷ sure 1 0 1 1 ∷ sure 2 1 2 0 ∷ []);
      starts = 0 ∷ 0 ∷ 0 ∷ 1 ∷ [];
      expected = late 1 2 2;
    }

abbrev pub late_ones : List Case
late_ones =
    late_by_one
    ∷ rest_late
    ∷ later_late
    ∷ larger_number
    ∷ ends_earlier
    ∷ higher_starts_later
    ∷ together_by_priority
    ∷ together_by_number
    ∷ among_others
    ∷ []

abbrev pub table : List Case
table = nothing ∷ in_time ∷ rest_in_time ∷ first_come_first ∷ shared_wait ∷ two_cores ∷ late_ones

pub clockworks : map outcome table ≡ map expected_of table
unfolding start_time run_verdict analysis tabulate
clockworks = refl

-- ---- what they are made of

-- job 1 of `first_come_first` is released at 1, and executes for 2
pub only_times : ((only_scenario first_come_first.jobs).release 1 ≡ 1) × ((only_scenario first_come_first.jobs).execution 1 ≡ 2)
only_times = (refl, refl)

-- is job k late?
abbrev late_in : Case → ℕ → Bool
late_in c = is_late c.jobs c.cores (only_scenario c.jobs)

-- at the deadline itself it is not, a moment later it is
pub late_after : late_in in_time 0 ∷ late_in late_by_one 0 ∷ late_in rest_in_time 1 ∷ late_in rest_late 1 ∷ [] ≡ false ∷ true ∷ false ∷ true ∷ []
unfolding is_late
late_after = refl

abbrev first_of_case : Case → Option ℕ
first_of_case c = first_late c.jobs c.cores (only_scenario c.jobs)

pub none_late : map first_of_case (nothing ∷ in_time ∷ rest_in_time ∷ two_cores ∷ []) ≡ none ∷ none ∷ none ∷ none ∷ []
unfolding first_late
none_late = refl

pub first_late_holds : map first_of_case late_ones ≡ map some (0 ∷ 1 ∷ 1 ∷ 1 ∷ 0 ∷ 0 ∷ 1 ∷ 0 ∷ 1 ∷ [])
unfolding first_late
first_late_holds = refl

-- ---- level by level, with room for one state

abbrev level_of : Case → ℕ → Exploration
level_of c = explored c.jobs c.cores 1

-- a state: the finish times, and when the core is free
abbrev on_one_core : List Range → ℕ → State
on_one_core finishes t = record { finish = finishes; possibly_free = t ∷ []; certainly_free = t ∷ [] }

-- one state with these finish times, which are all that have been observed; the core is free from t on, and c states have been stored
abbrev single : List Range → ℕ → ℕ → Exploration
single finishes t c = going (on_one_core finishes t ∷ []) finishes c

-- each level has one state, up to the last, which tells when each job ends; a level after it would hold none
pub level_by_level :
    map (level_of first_come_first) (0 ∷ 1 ∷ 2 ∷ 3 ∷ [])
    ≡ single (empty ∷ empty ∷ []) 0 1
    ∷ single (range 4 4 ∷ empty ∷ []) 4 2
    ∷ single (range 4 4 ∷ range 6 6 ∷ []) 6 3
    ∷ going [] (range 4 4 ∷ range 6 6 ∷ []) 3
    ∷ []
unfolding explored
level_by_level = refl

-- levels 0 and 1 are completed; in level 2 the edge of job 1 is late, and there it ends
pub until_late :
    map (level_of later_late) (0 ∷ 1 ∷ 2 ∷ 3 ∷ [])
    ≡ single (empty ∷ empty ∷ empty ∷ []) 0 1 ∷ single (range 2 2 ∷ empty ∷ empty ∷ []) 2 2 ∷ miss 1 4 4 ∷ miss 1 4 4 ∷ []
unfolding explored
until_late = refl

-- with room for none, level 0 is full
pub no_room : map (λ (c : Case). analysis c.jobs c.cores 0) (nothing ∷ in_time ∷ late_by_one ∷ []) ≡ refused 13 0 ∷ refused 13 0 ∷ refused 13 0 ∷ []
unfolding analysis
no_room = refl

-- ---- what `Decided` says, here with room for five states

abbrev short_phrase : List Job
short_phrase = first_come_first.jobs

abbrev late_phrase : List Job
late_phrase = later_late.jobs

-- every run is the one run, which at 4 lets job 0 end and job 1 start
pub decided_run : Decided short_phrase 1 5 → (s : Scenario) → Admissible short_phrase s
    → run short_phrase 1 s 4 ≡ record { statuses = done 4 ∷ running 6 ∷ []; free = 0 }
unfolding run
decided_run d s a = rw (d.one_run s a 4) refl

-- the last level too holds no second state and not none, and three states have been stored
pub decided_no_second : Decided short_phrase 1 5 → (σ τ : State) (seen : List Range) (c : ℕ) → explored short_phrase 1 5 2 ≡ going (σ ∷ τ ∷ []) seen c → ⊥
decided_no_second d σ τ seen c e = omega (arith, (d.one_state 2 (omega arith) (σ ∷ τ ∷ []) seen c e).0)

pub decided_not_none : Decided short_phrase 1 5 → (seen : List Range) (c : ℕ) → explored short_phrase 1 5 2 ≡ going [] seen c → ⊥
decided_not_none d seen c e = omega (arith, (d.one_state 2 (omega arith) [] seen c e).0)

pub decided_counted : Decided short_phrase 1 5 → (l : List State) (seen : List Range) (c : ℕ) → explored short_phrase 1 5 2 ≡ going l seen c → c ≡ 3
decided_counted d l seen c e = (d.one_state 2 (omega arith) l seen c e).1

pub decided_verdict : Decided short_phrase 1 5 → analysis short_phrase 1 5 ≡ accepted (range 4 4 ∷ range 6 6 ∷ []) 3
unfolding run_verdict
decided_verdict d = d.verdict

-- a late job is so in the level after the last that is completed
pub decided_stopped : Decided late_phrase 1 5 → analysis late_phrase 1 5 ≡ late 1 4 4
    → (n : ℕ) × (n < 3) × (explored late_phrase 1 5 (suc n) ≡ miss 1 4 4)
    × (σ : State) × (seen : List Range) × (explored late_phrase 1 5 n ≡ going (σ ∷ []) seen (suc n))
decided_stopped d e =
    let x = d.stopped 1 4 4 e in
    let y = x.3 x.0 (omega arith) in
    (x.0, x.1, x.2, y.0, y.1, y.2)
