-- From when on bells have rested, worked out by hand. Assumes nothing.
use Rattle.std.specs.Prelude.{ℕ, ◌≡◌, refl, List, [], ◌∷◌, map}
use Rattle.model.specs.Jobs.{Job}
use Rattle.model.specs.States.{State, empty, range, earliest, latest, finish_of}
use Rattle.model.proofs.examples.Marked.{resting}
use Rattle.edges.specs.internal.Edges.{rested_after}

-- Bells 0 to 3 rest for 5, 7, 9 and not at all. Jobs 0 and 2 are of bell 0, jobs 1 and 3 of bell 1, job 4 of bell 2, jobs 5 and 6 of bell 3. Job 2 lists job
-- 1, jobs 3 and 4 list job 0.
abbrev seven : List Job
seven =
    resting 5 99 [] 0 0 3 8 1 0
    ∷ resting 7 99 [] 0 0 6 20 1 1
    ∷ resting 5 99 (1 ∷ []) 0 0 1 1 1 0
    ∷ resting 7 99 (0 ∷ []) 0 0 1 1 1 1
    ∷ resting 9 99 (0 ∷ []) 0 0 1 1 1 2
    ∷ resting 0 99 [] 0 0 2 4 1 3
    ∷ resting 0 99 [] 0 0 1 1 1 3
    ∷ []

-- Jobs 0, 1 and 5 have ended.
abbrev three : State
three =
    record {
      finish = range 3 8 ∷ range 6 20 ∷ empty ∷ empty ∷ empty ∷ range 2 4 ∷ empty ∷ [];
      possibly_free = 6 ∷ 6 ∷ 6 ∷ [];
      certainly_free = 20 ∷ 20 ∷ 20 ∷ [];
    }

abbrev numbers : List ℕ
numbers = 0 ∷ 1 ∷ 2 ∷ 3 ∷ 4 ∷ 5 ∷ 6 ∷ []

-- The bell of job 2 has possibly rested from 3 + 5 on, that of job 3 from 6 + 7 on; the others do not have to: they are the first of their bells, or there is
-- no rest.
pub possibly : map (λ i. rested_after seven i (λ w. earliest (finish_of three w))) numbers ≡ 0 ∷ 0 ∷ 8 ∷ 13 ∷ 0 ∷ 0 ∷ 0 ∷ []
unfolding rested_after
possibly = refl

-- They have certainly rested from 8 + 5 and from 20 + 7 on.
pub certainly : map (λ i. rested_after seven i (λ w. latest (finish_of three w))) numbers ≡ 0 ∷ 0 ∷ 13 ∷ 27 ∷ 0 ∷ 0 ∷ 0 ∷ []
unfolding rested_after
certainly = refl
