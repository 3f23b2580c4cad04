-- Where jobs stand in the order of priority, worked out by hand. Assumes nothing.
use Rattle.std.specs.Prelude.{◌≡◌, refl, List, [], ◌∷◌, map}
use Rattle.model.specs.Jobs.{Job}
use Rattle.model.proofs.examples.Marked.{stroke, on_own_bells}
use Rattle.jobs.specs.internal.Order.{precedence}

-- Job 0 has priority 2, jobs 1 and 2 have priority 1: 2 * 64 + 0, 1 * 64 + 1, 1 * 64 + 2. So job 1 goes first, then job 2, then job 0.
abbrev three : List Job
three = on_own_bells (stroke 0 0 1 1 2 ∷ stroke 0 0 1 1 1 ∷ stroke 0 0 1 1 1 ∷ [])

pub standing : map (precedence three) (0 ∷ 1 ∷ 2 ∷ []) ≡ 128 ∷ 65 ∷ 66 ∷ []
standing = refl
