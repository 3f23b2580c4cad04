-- Sorted lists of availabilities, for internal contracts and proofs. Assumes nothing.
use Rattle.std.specs.Prelude.{ℕ, ◌≤◌, List, [], ◌∷◌}
use Rattle.model.specs.States.{State}

-- x is at most the first
abbrev pub Least : ℕ → List ℕ → Type 0
Least x [] = Unit {0}
Least x (y ∷ ys) = x ≤ y

pub data Sorted : List ℕ → Type 0 where
  none : Sorted []
  more : {x : ℕ} {xs : List ℕ} → Least x xs → Sorted xs → Sorted (x ∷ xs)

-- both kinds of availability are
abbrev pub Ordered : State → Type 0
Ordered σ = Sorted σ.possibly_free × Sorted σ.certainly_free
