-- Jobs of bells that rest: their rows, and the rests of their last waits, worked out by hand. Assumes nothing.
use Rattle.std.specs.Prelude.{ℕ, ◌≡◌, refl, List, [], ◌∷◌, ◌++◌, map}
use Rattle.model.specs.Jobs.{Job}
use Rattle.model.proofs.examples.Marked.{resting}
use Rattle.jobs.specs.internal.JobRow.{job_rows, jobs_of_rows}
use Rattle.jobs.specs.internal.Rests.{last_rest}

-- Bells 0, 1 and 2 rest for 5, 7 and 9. Jobs 0, 1 and 4 are the first of theirs, though job 4 lists one. Job 2 waits for job 0; job 3 for those that it
-- lists, and for job 1 of its bell; job 5 lists job 2, the nearest of its bell, too.
abbrev six : List Job
six =
    resting 5 7 [] 0 5 2 2 1 0
    ∷ resting 7 6 [] 0 0 4 4 2 1
    ∷ resting 5 9 [] 1 2 2 2 1 0
    ∷ resting 7 9 (0 ∷ 2 ∷ []) 2 3 4 4 2 1
    ∷ resting 9 9 (0 ∷ []) 3 4 1 1 3 2
    ∷ resting 5 9 (2 ∷ []) 4 5 2 2 1 0
    ∷ []

abbrev rows_of_six : List ℕ
rows_of_six =
    (0 ∷ 5 ∷ 2 ∷ 2 ∷ 7 ∷ 1 ∷ []) ++ (0 ∷ 0 ∷ 0 ∷ 0 ∷ 0 ∷ 0 ∷ []) ++ (5 ∷ 0 ∷ 0 ∷ 0 ∷ [])
    ++ (0 ∷ 0 ∷ 4 ∷ 4 ∷ 6 ∷ 2 ∷ []) ++ (0 ∷ 0 ∷ 0 ∷ 0 ∷ 0 ∷ 0 ∷ []) ++ (7 ∷ 1 ∷ 0 ∷ 0 ∷ [])
    ++ (1 ∷ 2 ∷ 2 ∷ 2 ∷ 9 ∷ 1 ∷ []) ++ (1 ∷ 0 ∷ 0 ∷ 0 ∷ 0 ∷ 0 ∷ []) ++ (5 ∷ 0 ∷ 0 ∷ 0 ∷ [])
    ++ (2 ∷ 3 ∷ 4 ∷ 4 ∷ 9 ∷ 2 ∷ []) ++ (3 ∷ 0 ∷ 2 ∷ 1 ∷ 0 ∷ 0 ∷ []) ++ (7 ∷ 1 ∷ 2 ∷ 0 ∷ [])
    ++ (3 ∷ 4 ∷ 1 ∷ 1 ∷ 9 ∷ 3 ∷ []) ++ (1 ∷ 0 ∷ 0 ∷ 0 ∷ 0 ∷ 0 ∷ []) ++ (9 ∷ 2 ∷ 1 ∷ 0 ∷ [])
    ++ (4 ∷ 5 ∷ 2 ∷ 2 ∷ 9 ∷ 1 ∷ []) ++ (2 ∷ 2 ∷ 2 ∷ 0 ∷ 0 ∷ 0 ∷ []) ++ (5 ∷ 0 ∷ 1 ∷ 0 ∷ [])

-- These are their rows.
pub rows : job_rows six 6 ≡ rows_of_six
unfolding job_rows
rows = refl

-- They are what is read from these rows.
pub read : jobs_of_rows rows_of_six 6 ≡ six
unfolding jobs_of_rows
read = refl

-- The last wait has a rest where it is for the job before on the bell.
pub rests : map (last_rest six) (0 ∷ 1 ∷ 2 ∷ 3 ∷ 4 ∷ 5 ∷ []) ≡ 0 ∷ 0 ∷ 5 ∷ 7 ∷ 0 ∷ 5 ∷ []
unfolding last_rest
rests = refl
