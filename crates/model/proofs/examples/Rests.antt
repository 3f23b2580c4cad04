-- The rest of each wait, when it is over, and which waits are over with those of another job, worked out by hand. Assumes nothing.
use Rattle.std.specs.Prelude.{ℕ, ◌≡◌, refl, true, false, List, [], ◌∷◌, map}
use Rattle.model.specs.Jobs.{Job, rest_of}
use Rattle.model.specs.Dispatch.{waiting, running, done, has_rested}
use Rattle.model.specs.Edges.{rested_with}
use Rattle.model.proofs.examples.Marked.{resting}

-- Jobs 0, 1 and 3 strike one bell, jobs 2 and 4 another. Job 3 lists jobs 0 and 1, and jobs 2 and 4 list job 1. Each job has a rest of its own, so that
-- it shows whose is taken.
abbrev pub five_jobs : List Job
five_jobs =
    resting 1 9 [] 0 0 1 1 1 7
    ∷ resting 2 9 [] 0 0 1 1 1 7
    ∷ resting 3 9 (1 ∷ []) 0 0 1 1 1 8
    ∷ resting 4 9 (0 ∷ 1 ∷ []) 0 0 1 1 1 7
    ∷ resting 5 9 (1 ∷ []) 0 0 1 1 1 8
    ∷ []

abbrev numbers : List ℕ
numbers = 0 ∷ 1 ∷ 2 ∷ 3 ∷ 4 ∷ []

-- for each job, the rest of each of the five
pub rests : map (λ i. map (rest_of five_jobs i) numbers) numbers
    -- no job is before it on its bell
    ≡ (0 ∷ 0 ∷ 0 ∷ 0 ∷ 0 ∷ [])
    -- job 0 is the nearest: the rest is that of job 1
    ∷ (2 ∷ 0 ∷ 0 ∷ 0 ∷ 0 ∷ [])
    -- no job is before it on its bell, and job 1, which it lists, is of another
    ∷ (0 ∷ 0 ∷ 0 ∷ 0 ∷ 0 ∷ [])
    -- job 1 is the nearest, and listed too; job 0, of the bell and listed, is not the nearest
    ∷ (0 ∷ 4 ∷ 0 ∷ 0 ∷ 0 ∷ [])
    -- job 2 is the nearest; job 1 is listed, of another bell
    ∷ (0 ∷ 0 ∷ 5 ∷ 0 ∷ 0 ∷ [])
    ∷ []
unfolding rest_of
rests = refl

-- done since 5, with a rest of 2, at 4 to 8; with none, at 4 and 5; and neither what waits nor what runs has rested
pub rested_from :
    map (λ t. has_rested t 2 (done 5)) (4 ∷ 5 ∷ 6 ∷ 7 ∷ 8 ∷ [])
    ≡ false ∷ false ∷ false ∷ true ∷ true ∷ []
rested_from = refl

pub without_rest : map (λ t. has_rested t 0 (done 5)) (4 ∷ 5 ∷ []) ≡ false ∷ true ∷ []
without_rest = refl

pub not_rested : map (has_rested 9 0) (waiting ∷ running 5 ∷ []) ≡ false ∷ false ∷ []
not_rested = refl

-- job i is ready; whether job w has then been done for as long as job j asks
pub record Beside : Type 0 where
  pub i : ℕ
  pub j : ℕ
  pub w : ℕ

abbrev pub besides : List Beside
besides =
    -- 0 for both
    record { i = 2; j = 4; w = 1 }
    -- 0 for job 2, and 4 for job 3
    ∷ record { i = 2; j = 3; w = 1 }
    -- the other way round
    ∷ record { i = 3; j = 2; w = 1 }
    -- 2 for job 1, and 0 for job 3, which lists job 0
    ∷ record { i = 1; j = 3; w = 0 }
    -- the other way round
    ∷ record { i = 3; j = 1; w = 0 }
    -- job 2 does not wait for job 0
    ∷ record { i = 2; j = 3; w = 0 }
    ∷ []

pub besides_rested :
    map (λ (b : Beside). rested_with five_jobs b.i b.j b.w) besides ≡ true ∷ false ∷ true ∷ true ∷ false ∷ false ∷ []
unfolding rested_with
besides_rested = refl
