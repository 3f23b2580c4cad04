-- States that starts make, worked out by hand. Assumes nothing.
use Rattle.std.specs.Prelude.{◌≡◌, refl, List, [], ◌∷◌}
use Rattle.model.specs.Jobs.{Job}
use Rattle.model.specs.States.{empty, range, initial}
use Rattle.model.specs.Edges.{successor}
use Rattle.model.proofs.examples.Marked.{resting, stroke, on_own_bells}

-- Example 1 of Nasri, Nelissen and Brandenburg: three jobs on three cores, whose finish times lie in 10..45, 30..40 and 15..25.
abbrev pub three_jobs : List Job
three_jobs = on_own_bells (stroke 0 0 10 45 1 ∷ stroke 0 0 30 40 2 ∷ stroke 0 0 15 25 3 ∷ [])

-- One core is possibly free from 10 on, two from 15, three from 30; one is certainly free from 25 on, two from 40, three from 45: [10,25] [15,40] [30,45].
-- Every job starts at 0: EST 0, twc 0. The states between are {0} [0,0] [0,0] [10,45] and {0,1} [0,0] [10,40] [30,45].
pub example1 :
    successor three_jobs (successor three_jobs (successor three_jobs (initial 3 3) 0) 1) 2
    ≡ record {
      finish = range 10 45 ∷ range 30 40 ∷ range 15 25 ∷ [];
      possibly_free = 10 ∷ 15 ∷ 30 ∷ [];
      certainly_free = 25 ∷ 40 ∷ 45 ∷ [];
    }
unfolding successor
example1 = refl

-- Two jobs of one bell, with a rest of 3, on two cores. Job 0 ends 2..4: {0} [0,0] [2,4]. Job 1 has EST 2 + 3 and twc 4 + 3, and ends 6..8. While the bell
-- rests its core is free: the rest is in no end and in no availability.
abbrev pub resting_pair : List Job
resting_pair = resting 3 9 [] 0 0 2 4 1 7 ∷ resting 3 9 [] 0 0 1 1 1 7 ∷ []

pub first_of_pair :
    successor resting_pair (initial 2 2) 0 ≡ record { finish = range 2 4 ∷ empty ∷ []; possibly_free = 0 ∷ 2 ∷ []; certainly_free = 0 ∷ 4 ∷ [] }
unfolding successor
first_of_pair = refl

pub second_of_pair :
    successor resting_pair (successor resting_pair (initial 2 2) 0) 1
    ≡ record { finish = range 2 4 ∷ range 6 8 ∷ []; possibly_free = 5 ∷ 6 ∷ []; certainly_free = 5 ∷ 8 ∷ [] }
unfolding successor
second_of_pair = refl
