-- Jobs that may hold others back, in words, and what is left of a bound, worked out by hand. Assumes nothing.
use Rattle.std.specs.Prelude.{◌+◌, ◌*◌, ◌≡◌, refl, List, [], ◌∷◌, map}
use Rattle.model.specs.Folds.{infinite, finite}
use Rattle.model.specs.Jobs.{Job, before}
use Rattle.model.specs.States.{State, empty, range}
use Rattle.model.specs.Edges.{certainly_ready, certainly_ready_beside}
use Rattle.model.proofs.examples.Marked.{stroke, waiting, on_own_bells}
use Rattle.edges.specs.internal.Edges.{bound_over, holder_word}

-- Job 0 has ended between 5 and 9. Jobs 1 and 2 wait for it, job 3 does not.
abbrev four : List Job
four = on_own_bells (stroke 0 0 5 9 0 ∷ waiting (0 ∷ []) 0 3 1 1 1 ∷ waiting (0 ∷ []) 0 2 1 1 2 ∷ stroke 0 7 1 1 2 ∷ [])

abbrev one : State
one = record { finish = range 5 9 ∷ empty ∷ empty ∷ empty ∷ []; possibly_free = 5 ∷ []; certainly_free = 9 ∷ [] }

-- Jobs 1, 2 and 3 stand at 1 * 64 + 1, 2 * 64 + 2 and 2 * 64 + 3, and are certainly ready from 9, 9 and 7 on.
pub held : map (holder_word four one) (1 ∷ 2 ∷ 3 ∷ []) ≡ (65 * 67108864 + 9) ∷ (130 * 67108864 + 9) ∷ (131 * 67108864 + 7) ∷ []
unfolding certainly_ready
held = refl

-- The bound of job 3: jobs 1 and 2 go before it, and both wait for job 0, which it does not. That of job 2: only job 1 goes before it; job 0 is shared, so
-- its latest release counts. None goes before job 1.
pub bounds : map (λ i. bound_over four one i (1 ∷ 2 ∷ 3 ∷ [])) (3 ∷ 2 ∷ 1 ∷ []) ≡ finite 9 ∷ finite 3 ∷ infinite ∷ []
unfolding certainly_ready_beside before
bounds = refl
