-- Phrases for mistakes that the marked ones let pass. The answers were worked out by hand from document 01, level by level, as the comments show:
-- a state is written {started jobs} [A1min,A1max] [A2min,A2max] .., an edge by its job and its ends. Assumes nothing.
use Rattle.std.specs.Prelude.{ℕ, ◌≡◌, refl, List, [], ◌∷◌, map}
use Rattle.model.specs.Jobs.{Job}
use Rattle.model.specs.States.{range}
use Rattle.model.specs.Exploration.{accepted, refused, late, analysis}
use Rattle.model.proofs.examples.Marked.{Case, answer, due, resting, waiting, stroke, on_own_bells, usual}

-- The latest start is the moment before the higher-priority bound. Level 0: twc 1; job 0 ends 3..3; job 1 has thigh 1, so starts at 0: 1..1.
-- Level 1: {0} [3,3]: job 1 ends 4..4; {1} [1,1]: job 0 ends 3..3. Level 2: [4,4] and [3,3].
abbrev latest_before_higher : Case
latest_before_higher =
    record {
      cores = 1;
      jobs = on_own_bells (stroke 1 1 2 2 0 ∷ stroke 0 1 1 1 1 ∷ []);
      words = usual;
      expected = accepted (range 3 3 ∷ range 1 4 ∷ []) 5;
    }

-- States of different sets do not merge. S = 1. Level 0: twc 0; job 0 and job 1 both end 1..1. {0} [1,1] is stored; {1} [1,1] finds no room.
abbrev other_set : Case
other_set = record { cores = 1; jobs = on_own_bells (stroke 0 0 1 1 2 ∷ stroke 0 2 1 1 0 ∷ []); words = 16; expected = refused 13 1 }

-- The deadline is tested before the room: the same, but job 1 is due at 0.
abbrev late_before_full : Case
late_before_full = record { cores = 1; jobs = on_own_bells (stroke 0 0 1 1 2 ∷ due 0 0 2 1 1 0 ∷ []); words = 16; expected = late 1 1 1 }

-- A predecessor of both jobs is left out of the higher-priority bound. Level 0: job 0 ends 2..3. Level 1, {0} [2,3]: job 1 ends 3..4; job 2 could start
-- at 2, but has thigh 1. Level 2, {0,1} [3,4]: job 2 ends 4..5.
abbrev shared_predecessor : Case
shared_predecessor =
    record {
      cores = 1;
      jobs = on_own_bells (stroke 1 2 1 1 0 ∷ waiting (0 ∷ []) 1 1 1 1 0 ∷ waiting (0 ∷ []) 0 0 1 1 2 ∷ []);
      words = usual;
      expected = accepted (range 2 3 ∷ range 3 4 ∷ range 4 5 ∷ []) 4;
    }

-- A merge widens finish ranges and availabilities. Level 0: twc 1; job 0 ends 3..3, job 1 2..3. Level 1: {0} [3,3]: job 1 ends 5..6; {1} [2,3]: job 0
-- ends 4..5. Level 2: [5,6] and [4,5] merge to [4,6], job 0 3..5, job 1 2..6; so job 2 starts between 4 and 6, and ends 5..7.
abbrev merge_widens : Case
merge_widens =
    record {
      cores = 1;
      jobs = on_own_bells (stroke 1 1 2 2 2 ∷ stroke 0 1 2 3 3 ∷ waiting (0 ∷ 1 ∷ []) 0 0 1 1 0 ∷ []);
      words = usual;
      expected = accepted (range 3 5 ∷ range 2 6 ∷ range 5 7 ∷ []) 5;
    }

-- .. also where the later state reaches further. Level 0: twc 0; job 1 ends 1..2: {1} [1,2]; job 2, thigh 1, 2..2: {2} [2,2]. Level 1: {1}: job 0 ends
-- 4..4, job 2, thigh 2, 3..3; {2}: job 0 has thigh 1; job 1 ends 3..4: {1,2} [3,3] and [3,4] merge to [3,4]. Level 2: {0,1} [4,4]: job 2 ends 6..6;
-- {1,2} [3,4]: job 0 ends 5..6. Level 3: [6,6] and [5,6] merge.
abbrev merge_widens_upwards : Case
merge_widens_upwards =
    record {
      cores = 1;
      jobs = on_own_bells (stroke 2 2 2 2 2 ∷ stroke 0 1 1 2 1 ∷ stroke 0 0 2 2 2 ∷ []);
      words = usual;
      expected = accepted (range 4 6 ∷ range 1 4 ∷ range 2 6 ∷ []) 6;
    }

-- .. and keeps what the first state has beyond the second. Level 0: twc 2; job 0 ends 1..4; job 1, thigh 2, ends 2..2; job 2 has EST 2 and thigh 2. Level 1,
-- where job 2 has thigh 2 again: {0} [1,4]: twc 4; job 1 ends 2..5; {1} [2,2]: twc 2; job 0 ends 3..4. Level 2: [2,5] and [3,4] merge to [2,5]: job 2
-- starts between 2 and 5, and ends 4..8.
abbrev merge_keeps : Case
merge_keeps =
    record {
      cores = 1;
      jobs = on_own_bells (stroke 0 2 1 2 0 ∷ stroke 1 2 1 1 0 ∷ stroke 2 3 2 3 2 ∷ []);
      words = usual;
      expected = accepted (range 1 4 ∷ range 2 5 ∷ range 4 8 ∷ []) 5;
    }

-- All availability ranges have to meet. Level 0: twc 1; job 0 ends 2..2: {0} [1,1] [2,2]; job 1, thigh 1, 2..2: {1} [0,0] [2,2]. Level 1: {0}: job 1
-- ends 3..4: [2,2] [3,4]; {1}: job 0 ends 2..2: [2,2] [2,2]. The second ranges do not meet.
abbrev every_availability : Case
every_availability =
    record {
      cores = 2;
      jobs = on_own_bells (stroke 1 1 1 1 0 ∷ stroke 0 2 2 2 0 ∷ []);
      words = usual;
      expected = accepted (range 2 2 ∷ range 2 4 ∷ []) 5;
    }

-- The lower availabilities are raised to the earliest start. Level 0: twc 1; job 0 ends 2..2: {0} [1,1] [2,2]; job 1, thigh 1, 1..1: {1} [0,0] [1,1].
-- Level 1: {0}: job 1 ends 2..2: [2,2] [2,2]; {1}: job 0 ends 2..2: [1,1] [2,2].
abbrev lower_raised : Case
lower_raised =
    record {
      cores = 2;
      jobs = on_own_bells (stroke 1 1 1 1 0 ∷ stroke 0 1 1 1 0 ∷ []);
      words = usual;
      expected = accepted (range 2 2 ∷ range 1 2 ∷ []) 5;
    }

-- The upper availabilities are raised to the earliest start. Level 0: twc 1; both jobs end 2..2: {0} and {1}, each [1,1] [1,1] [2,2]. Level 1: {0}: job 1
-- ends 2..2: [1,1] [2,2] [2,2]; {1}: job 0 ends 2..3: [1,1] [2,2] [2,3]. They merge.
abbrev upper_raised : Case
upper_raised =
    record {
      cores = 3;
      jobs = on_own_bells (stroke 1 2 1 1 0 ∷ stroke 1 1 1 1 0 ∷ []);
      words = usual;
      expected = accepted (range 2 3 ∷ range 2 2 ∷ []) 4;
    }

-- .. and not to the latest start. Level 0: twc 1; job 0 ends 3..3: {0} [1,1] [3,3]. Level 1: twc 2; job 1 ends 5..6: {0,1} [3,3] [5,6]; job 2 ends 4..4:
-- {0,2} [3,3] [4,4]. Level 2: {0,1}: job 2 ends 5..5: [5,5] [5,6]; {0,2}: job 1 starts between 3 and 5, ends 6..9: [4,4] [6,9]. They do not meet.
abbrev raised_to_earliest : Case
raised_to_earliest =
    record {
      cores = 2;
      jobs = on_own_bells (stroke 1 1 2 2 0 ∷ stroke 2 5 3 4 0 ∷ stroke 2 2 2 2 0 ∷ []);
      words = usual;
      expected = accepted (range 3 3 ∷ range 5 9 ∷ range 4 5 ∷ []) 6;
    }

-- Lower and upper availabilities are sorted each for itself. Level 0: twc 2; job 0, thigh 3, ends 4..4: {0} [2,2] [4,4]; job 1 ends 3..7: {1} [0,0] [3,7].
-- Level 1: {0}: job 1 ends 5..8: [4,4] [5,8]; {1}: job 0 ends 4..4: lower 3 4, upper 4 7: [3,4] [4,7]. They merge.
abbrev sorted_apart : Case
sorted_apart =
    record {
      cores = 2;
      jobs = on_own_bells (stroke 2 2 2 2 1 ∷ stroke 0 3 3 5 0 ∷ []);
      words = usual;
      expected = accepted (range 4 4 ∷ range 3 8 ∷ []) 4;
    }

-- A full level still merges. S = 2. Level 0: twc 0; job 0 and job 2 end 1..1. Level 1: {0} [1,1]: job 1 ends 4..4, job 2, thigh 2, 2..2; {2} [1,1]: twc 1;
-- job 0 ends 2..2, and {0,2} [2,2] merges. Level 2: {0,1} [4,4]: job 2 ends 5..5; {0,2} [2,2]: job 1 ends 4..4. Level 3: [5,5] and [4,4].
abbrev full_merges : Case
full_merges =
    record {
      cores = 1;
      jobs = on_own_bells (stroke 0 0 1 1 1 ∷ stroke 2 2 2 2 0 ∷ stroke 0 2 1 1 0 ∷ []);
      words = 40;
      expected = accepted (range 1 2 ∷ range 4 4 ∷ range 1 5 ∷ []) 7;
    }

-- A merged state is not tried again. Level 0: twc 0; job 0 ends 1..3, job 2 2..2. Level 1: {0} [1,3]: job 1 ends 3..4, job 2, thigh 2, 3..3; {2} [2,2]:
-- job 0 has thigh 2; job 1 ends 3..3. Level 2: {0,1} [3,4]: job 2 ends 5..6; {0,2} [3,3]: job 1 ends 4..4; {1,2} [3,3]: job 0 ends 4..6.
-- Level 3: [5,6], [4,4]; [4,6] merges with the first, which then meets [4,4] too: 2 states.
abbrev merged_once : Case
merged_once =
    record {
      cores = 1;
      jobs = on_own_bells (stroke 0 1 1 3 1 ∷ stroke 2 2 1 1 0 ∷ stroke 0 0 2 2 1 ∷ []);
      words = usual;
      expected = accepted (range 1 6 ∷ range 3 4 ∷ range 2 6 ∷ []) 8;
    }

-- A state merges with the first that it meets. Level 0: twc 1; job 1, thigh 1, ends 3..3: {1} [0,0] [3,3]; job 2 ends 5..5: {2} [1,1] [5,5]. Level 1: {1}:
-- job 2 ends 5..5: {1,2} [3,3] [5,5]; {2}: twc 4; job 0, thigh 4, ends 6..12: {0,2} [5,5] [6,12]; job 1 ends 4..7: {1,2} [4,5] [5,7]. Level 2: the first
-- {1,2}: job 0 ends 7..13: X [5,5] [7,13]; {0,2}: job 1 ends 8..8: Y [6,8] [8,12]; the second {1,2}: job 0 ends 8..14: [5,7] [8,14], which meets X and Y.
-- Level 3: X with it, [5,7] [7,14], job 0 7..14, job 1 3..7: job 3 ends 9..16; Y: job 3 ends 10..14. Level 4: they merge.
abbrev first_that_meets : Case
first_that_meets =
    record {
      cores = 2;
      jobs = on_own_bells (stroke 2 4 4 9 2 ∷ stroke 0 4 3 3 1 ∷ stroke 1 1 4 4 0 ∷ waiting (0 ∷ 1 ∷ []) 5 5 2 2 1 ∷ []);
      words = usual;
      expected = accepted (range 6 14 ∷ range 3 8 ∷ range 5 5 ∷ range 9 16 ∷ []) 9;
    }

-- A job waits for the nearest earlier one of its bell, though it does not list it. Here job 1 strikes the bell of job 0, and is possibly ready when that
-- possibly ends. Level 0: twc 0; job 0 ends 3..3: {0} [0,0] [3,3]. Level 1: Rmin 3, Rmax 4, twc 4; job 1 ends 4..5: [3,3] [4,5].
abbrev possibly_ready_by_bell : Case
possibly_ready_by_bell =
    record {
      cores = 2;
      jobs = stroke 0 0 3 3 1 7 ∷ stroke 0 4 1 1 1 7 ∷ [];
      words = usual;
      expected = accepted (range 3 3 ∷ range 4 5 ∷ []) 3;
    }

-- .. and certainly ready when that certainly ends. Level 0: twc 0; job 0 ends 2..5: {0} [0,0] [2,5]. Level 1: Rmin 3, Rmax 5, twc 5; job 1 ends 4..6:
-- [3,5] [4,6].
abbrev certainly_ready_by_bell : Case
certainly_ready_by_bell =
    record {
      cores = 2;
      jobs = stroke 0 0 2 5 1 7 ∷ stroke 3 3 1 1 1 7 ∷ [];
      words = usual;
      expected = accepted (range 2 5 ∷ range 4 6 ∷ []) 3;
    }

-- Of three jobs of one bell the last waits for the second, not for the first. Level 0: twc 0; job 0 ends 1..1: {0} [0,0] [1,1]. Level 1: job 2 is no
-- candidate; job 1 has Rmin 4, twc 4, and ends 6..6: {0,1} [4,4] [6,6]. Level 2: job 2 has Rmin 6, twc 6, and ends 7..7: [6,6] [7,7].
abbrev nearest_of_bell : Case
nearest_of_bell =
    record {
      cores = 2;
      jobs = stroke 0 0 1 1 1 7 ∷ stroke 4 4 2 2 1 7 ∷ stroke 0 0 1 1 1 7 ∷ [];
      words = usual;
      expected = accepted (range 1 1 ∷ range 6 6 ∷ range 7 7 ∷ []) 4;
    }

-- The phrase of `shared_predecessor`, but job 2 waits for job 0 as the earlier one of its bell: that too is left out of its higher-priority bound.
-- Level 0: twc 2; job 0 ends 2..3. Level 1, {0} [2,3]: job 1 ends 3..4; job 2 could start at 2, but has thigh 1. Level 2, {0,1} [3,4]: job 2 ends 4..5.
abbrev shared_by_bell : Case
shared_by_bell =
    record {
      cores = 1;
      jobs = stroke 1 2 1 1 0 7 ∷ waiting (0 ∷ []) 1 1 1 1 0 8 ∷ stroke 0 0 1 1 2 7 ∷ [];
      words = usual;
      expected = accepted (range 2 3 ∷ range 3 4 ∷ range 4 5 ∷ []) 4;
    }

-- M6, but job 1 waits for job 0 as the earlier one of its bell: that counts in the bound of job 2. Level 0: twc 0; job 0 ends 2..4; job 1 is no
-- candidate, job 2 has EST 3. Level 1, {0} [0,0] [2,4]: twc 3; job 1 ends 3..4, job 2, thigh 4, 5..5. Level 2: {0,1} [2,4] [3,4]: twc 4; job 2 ends 5..6:
-- [3,4] [5,6]; {0,2} [3,4] [5,5]: twc 4; job 1 ends 4..5: [4,5] [5,5]. They share one moment in each range, and merge.
abbrev foreign_by_bell : Case
foreign_by_bell =
    record {
      cores = 2;
      jobs = stroke 0 0 2 4 2 7 ∷ stroke 0 0 1 1 1 7 ∷ stroke 3 3 2 2 3 8 ∷ [];
      words = usual;
      expected = accepted (range 2 4 ∷ range 3 5 ∷ range 5 6 ∷ []) 5;
    }

-- ---- rests

-- Two jobs of one bell, with a rest of 3; the second is due at d.
abbrev resting_pair : ℕ → List Job
resting_pair d = resting 3 3600000 [] 0 0 2 2 1 7 ∷ resting 3 d [] 0 0 1 1 1 7 ∷ []

-- The rest makes the second late. Level 0: twc 0; job 0 ends 2..2, for no job of its bell is before it: {0} [2,2]. Level 1: Rmin and Rmax 2 + 3, twc 5;
-- job 1 ends 6..6, after 5. (Without the rest it would end 3..3.)
abbrev rest_late : Case
rest_late = record { cores = 1; jobs = resting_pair 5; words = usual; expected = late 1 6 6 }

-- .. and just not. Level 2: [6,6].
abbrev rest_in_time : Case
rest_in_time = record { cores = 1; jobs = resting_pair 6; words = usual; expected = accepted (range 2 2 ∷ range 6 6 ∷ []) 3 }

-- The note lists the job before it on its bell too: the rest is the same. Level 0: twc 0; job 0 ends 1..2: {0} [0,0] [1,2]. Level 1: Rmin 1 + 1, Rmax 2 + 1,
-- twc 3; job 1 ends 3..5: [2,2] [3,5].
abbrev rest_listed_too : Case
rest_listed_too =
    record {
      cores = 2;
      jobs = resting 1 3600000 [] 0 0 1 2 1 7 ∷ resting 1 3600000 (0 ∷ []) 0 0 1 2 1 7 ∷ [];
      words = usual;
      expected = accepted (range 1 2 ∷ range 3 5 ∷ []) 3;
    }

-- A job of another bell is not waited for any longer. Level 0: twc 0; job 0 ends 1..1: {0} [0,0] [1,1]. Level 1: job 1, of a bell with a rest of 4, has Rmin
-- and Rmax 1, and ends 3..3: [1,1] [3,3].
abbrev rest_of_own_bell : Case
rest_of_own_bell =
    record {
      cores = 2;
      jobs = stroke 0 0 1 1 1 7 ∷ resting 4 3600000 (0 ∷ []) 0 0 2 2 1 8 ∷ [];
      words = usual;
      expected = accepted (range 1 1 ∷ range 3 3 ∷ []) 3;
    }

-- .. nor is an earlier job of the bell that is not the nearest. Jobs 0, 2 and 3 strike one bell, with a rest of 1, and job 3 lists job 0. Level 0: twc 4; job 0
-- ends 1..5; job 1 has EST 4 and thigh 4. Level 1, {0} [1,5]: job 1 has Rmax 4, job 2 Rmin 2 and Rmax 6; twc 5; job 1 ends 5..6: {0,1} [5,6]; job 2, thigh 4,
-- starts from 2 to 3 and ends 3..4: {0,2} [3,4]. Level 2: {0,1}: twc 6; job 2 ends 6..7: [6,7]; {0,2}: job 3 has Rmin 3 + 1, for job 2, and Rmax 5, for both;
-- twc 4; job 1 ends 5..5: [5,5]; job 3 has EST 4 and thigh 4. Level 3: [6,7]: job 3 has Rmin 7, Rmax 8, and ends 8..10; [5,5]: job 3 has Rmax 5 again, twc 5,
-- and ends 6..7. Level 4: [8,10] and [6,7] do not meet.
abbrev rest_of_nearest : Case
rest_of_nearest =
    record {
      cores = 1;
      jobs = resting 1 3600000 [] 0 4 1 1 0 7 ∷ stroke 4 4 1 1 1 8 ∷ resting 1 3600000 [] 0 0 1 1 2 7 ∷ resting 1 3600000 (0 ∷ []) 0 0 1 2 3 7 ∷ [];
      words = usual;
      expected = accepted (range 1 5 ∷ range 5 6 ∷ range 3 7 ∷ range 6 10 ∷ []) 8;
    }

-- Jobs 1 and 2 wait for job 0: job 1, which goes before job 2, as the next of its bell, with a rest of r, and job 2 because it lists it.
abbrev shared_resting : ℕ → List Job
shared_resting r = resting r 3600000 [] 0 0 1 3 0 7 ∷ resting r 3600000 [] 0 0 1 1 0 7 ∷ waiting (0 ∷ []) 0 9 2 2 1 8 ∷ []

-- The rest of the shared wait is larger for job 1: it counts in the higher-priority bound of job 2. Level 0: twc 0; job 0 ends 1..3: {0} [1,3]. Level 1:
-- job 1 has Rmin 1 + 2, Rmax 3 + 2, job 2 Rmin 1, Rmax 9; twc 5; job 1 ends 4..6: {0,1} [4,6]; job 2, thigh 3 + 2, starts from 1 to 4 and ends 3..6:
-- {0,2} [3,6]. Level 2: {0,1}: twc 9; job 2 ends 6..11; {0,2}: twc 6; job 1 ends 4..7. Level 3: [6,11] and [4,7] merge.
abbrev rest_larger_beside : Case
rest_larger_beside =
    record { cores = 1; jobs = shared_resting 2; words = usual; expected = accepted (range 1 3 ∷ range 4 7 ∷ range 3 11 ∷ []) 5 }

-- It is 0 for both: it is left out. Level 0: twc 0; job 0 ends 1..3: {0} [1,3]. Level 1: job 1 has Rmin 1, Rmax 3; twc 3; it ends 2..4; job 2 could start at 1,
-- but has thigh 0. Level 2, {0,1} [2,4]: twc 9; job 2 ends 4..11.
abbrev rest_equal_beside : Case
rest_equal_beside =
    record { cores = 1; jobs = shared_resting 0; words = usual; expected = accepted (range 1 3 ∷ range 2 4 ∷ range 4 11 ∷ []) 4 }

-- It is smaller for job 1, which lists job 0 and goes before job 2, the next of job 0's bell: it is left out. Level 0: twc 0; job 0 ends 1..3: {0} [1,3].
-- Level 1: job 1 has Rmin 1, Rmax 3, job 2 Rmin 1 + 1, Rmax 3 + 1; twc 3; job 1 ends 3..5; job 2 could start at 2, but has thigh 0. Level 2, {0,1} [3,5]:
-- twc 5; job 2 ends 4..6.
abbrev rest_smaller_beside : Case
rest_smaller_beside =
    record {
      cores = 1;
      jobs = resting 1 3600000 [] 0 0 1 3 0 7 ∷ waiting (0 ∷ []) 0 0 2 2 0 8 ∷ resting 1 3600000 [] 0 0 1 1 1 7 ∷ [];
      words = usual;
      expected = accepted (range 1 3 ∷ range 3 5 ∷ range 4 6 ∷ []) 4;
    }

abbrev pub table : List Case
table =
    latest_before_higher
    ∷ other_set
    ∷ late_before_full
    ∷ shared_predecessor
    ∷ merge_widens
    ∷ merge_widens_upwards
    ∷ merge_keeps
    ∷ every_availability
    ∷ lower_raised
    ∷ upper_raised
    ∷ raised_to_earliest
    ∷ sorted_apart
    ∷ full_merges
    ∷ merged_once
    ∷ first_that_meets
    ∷ possibly_ready_by_bell
    ∷ certainly_ready_by_bell
    ∷ nearest_of_bell
    ∷ shared_by_bell
    ∷ foreign_by_bell
    ∷ rest_late
    ∷ rest_in_time
    ∷ rest_listed_too
    ∷ rest_of_own_bell
    ∷ rest_of_nearest
    ∷ rest_larger_beside
    ∷ rest_equal_beside
    ∷ rest_smaller_beside
    ∷ []

pub cautioned : map answer table ≡ map (λ (c : Case). c.expected) table
unfolding analysis
cautioned = refl
