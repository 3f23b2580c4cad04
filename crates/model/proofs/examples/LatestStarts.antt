-- The test whether a job may go next, step by step as source document 004 takes it, on states worked out by hand: EST, twc, thigh, LST, and whether EST is at
-- most LST; beside it document 01's own answer. Assumes nothing.
use Rattle.std.specs.Prelude.{ℕ, ◌≡◌, refl, Bool, true, false, List, [], ◌∷◌, map, ℤ, pos, neg_ℤ}
use Rattle.model.specs.Folds.{Limit, infinite, finite}
use Rattle.model.specs.Jobs.{Job}
use Rattle.model.specs.States.{State, empty, range, initial}
use Rattle.model.specs.Edges.{earliest_start, work_conserving_bound, higher_priority_bound, eligible}
use Rattle.model.specs.Eligibility.{latest_start_z, in_order}
use Rattle.model.proofs.examples.Marked.{resting, stroke, waiting, on_own_bells}

-- EST, twc, thigh, LST; whether EST is at most LST, and whether the job may go next
pub record Steps : Type 0 where
  pub earliest : ℕ
  pub bound : ℕ
  pub higher : Limit
  pub latest : ℤ
  pub compared : Bool
  pub goes_next : Bool

-- a state of some jobs, a candidate, and the steps that are due
pub record Example : Type 0 where
  pub jobs : List Job
  pub state : State
  pub asked : ℕ
  pub expected : Steps

abbrev steps : Example → Steps
steps x =
    record {
      earliest = earliest_start x.jobs x.state x.asked;
      bound = work_conserving_bound x.jobs x.state;
      higher = higher_priority_bound x.jobs x.state x.asked;
      latest = latest_start_z x.jobs x.state x.asked;
      compared = in_order x.jobs x.state x.asked;
      goes_next = eligible x.jobs x.state x.asked;
    }

-- Example 4 of Nasri, Nelissen and Brandenburg. Jobs 0 and 1 hold the two cores: [8,15] and [13,18]. Job 2, called at 9 at the earliest, waits for job 1, so
-- EST is 13. Job 3, which goes after it, is certainly ready at 16: twc 16. Job 4, which goes before it, is certainly called at 22: thigh 22. LST is 16.
abbrev example4 : Example
example4 =
    record {
      jobs = on_own_bells (stroke 0 0 8 15 1 ∷ stroke 0 0 13 18 1 ∷ waiting (1 ∷ []) 9 10 5 7 2 ∷ stroke 12 16 1 1 3 ∷ stroke 20 22 1 1 1 ∷ []);
      state = record { finish = range 8 15 ∷ range 13 18 ∷ empty ∷ empty ∷ empty ∷ []; possibly_free = 8 ∷ 13 ∷ []; certainly_free = 15 ∷ 18 ∷ [] };
      asked = 2;
      expected = record { earliest = 13; bound = 16; higher = finite 22; latest = pos 16; compared = true; goes_next = true };
    }

-- Two jobs are called at 0, and job 0 goes before job 1: thigh 0, so LST lies a millisecond before time 0. One clipped at 0 would let job 1 go next.
abbrev below_zero : Example
below_zero =
    record {
      jobs = on_own_bells (stroke 0 0 1 1 0 ∷ stroke 0 0 1 1 1 ∷ []);
      state = initial 1 2;
      asked = 1;
      expected = record { earliest = 0; bound = 0; higher = finite 0; latest = neg_ℤ (pos 1); compared = false; goes_next = false };
    }

-- .. also where the job can start long after 0: jobs 1 and 2 wait for job 0, which ends 5..6, and job 1 is certainly called at 0.
abbrev below_zero_later : Example
below_zero_later =
    record {
      jobs = on_own_bells (stroke 0 1 5 5 0 ∷ waiting (0 ∷ []) 0 0 1 1 0 ∷ waiting (0 ∷ []) 0 0 1 1 1 ∷ []);
      state = record { finish = range 5 6 ∷ empty ∷ empty ∷ []; possibly_free = 5 ∷ []; certainly_free = 6 ∷ [] };
      asked = 2;
      expected = record { earliest = 5; bound = 6; higher = finite 0; latest = neg_ℤ (pos 1); compared = false; goes_next = false };
    }

-- The moment before thigh comes before twc, and is EST: the job starts then or not at all. A strict comparison would hold it back.
abbrev only_then : Example
only_then =
    record {
      jobs = on_own_bells (stroke 1 1 2 2 0 ∷ stroke 0 1 1 1 1 ∷ []);
      state = initial 1 2;
      asked = 1;
      expected = record { earliest = 0; bound = 1; higher = finite 1; latest = pos 0; compared = true; goes_next = true };
    }

-- A job called after twc goes later, though none goes before it: twc left out would let it go next.
abbrev past_the_bound : Example
past_the_bound =
    record {
      jobs = on_own_bells (stroke 0 0 1 1 1 ∷ stroke 5 5 1 1 0 ∷ []);
      state = initial 1 2;
      asked = 1;
      expected = record { earliest = 5; bound = 0; higher = infinite; latest = pos 0; compared = false; goes_next = false };
    }

-- .. and though thigh is later still: job 1, which goes before it, is certainly called at 9. Here LST = thigh - 1 would let it go next.
abbrev past_the_bound_alone : Example
past_the_bound_alone =
    record {
      jobs = on_own_bells (stroke 0 0 1 1 3 ∷ stroke 9 9 1 1 0 ∷ stroke 5 5 1 1 2 ∷ []);
      state = initial 1 3;
      asked = 2;
      expected = record { earliest = 5; bound = 0; higher = finite 9; latest = pos 0; compared = false; goes_next = false };
    }

-- A job that could start in the moment of thigh is held back, though twc allows it: LST is the moment before.
abbrev held_back : Example
held_back =
    record {
      jobs = on_own_bells (stroke 0 3 1 1 0 ∷ stroke 3 9 1 1 1 ∷ []);
      state = initial 1 2;
      asked = 1;
      expected = record { earliest = 3; bound = 3; higher = finite 3; latest = pos 2; compared = false; goes_next = false };
    }

-- Jobs 1 and 2 wait for job 0, which ends 1..2: job 1 as the next of its bell, which rests for 3, and job 2, which goes after it, because it lists it. Job 1
-- is certainly ready at 2 + 3, so twc and thigh are 5. Job 2 is not held by the rest: EST is 1.
abbrev beside_arest : Example
beside_arest =
    record {
      jobs = stroke 0 0 1 2 0 7 ∷ resting 3 9 [] 0 0 1 1 0 7 ∷ waiting (0 ∷ []) 0 9 1 1 1 8 ∷ [];
      state = record { finish = range 1 2 ∷ empty ∷ empty ∷ []; possibly_free = 1 ∷ []; certainly_free = 2 ∷ [] };
      asked = 2;
      expected = record { earliest = 1; bound = 5; higher = finite 5; latest = pos 4; compared = true; goes_next = true };
    }

-- The same, but job 1 is asked: EST is 1 + 3, and no job goes before it.
abbrev after_arest : Example
after_arest =
    record {
      jobs = beside_arest.jobs;
      state = beside_arest.state;
      asked = 1;
      expected = record { earliest = 4; bound = 5; higher = infinite; latest = pos 5; compared = true; goes_next = true };
    }

abbrev pub table : List Example
table =
    example4
    ∷ below_zero
    ∷ below_zero_later
    ∷ only_then
    ∷ past_the_bound
    ∷ past_the_bound_alone
    ∷ held_back
    ∷ beside_arest
    ∷ after_arest
    ∷ []

pub stepped : map steps table ≡ map (λ (x : Example). x.expected) table
unfolding earliest_start work_conserving_bound higher_priority_bound eligible latest_start_z in_order
stepped = refl
