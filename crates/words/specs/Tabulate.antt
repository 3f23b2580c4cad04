-- A list given by a function of the index. Assumes nothing.
use Rattle.std.specs.Prelude.{ℕ, zero, suc, List, [], ◌∷◌}

-- f a, f (a + 1), .., n of them
unfoldable pub tabulate : {A : Type 0} → (ℕ → A) → ℕ → ℕ → List A
tabulate f a zero = []
tabulate f a (suc n) = f a ∷ tabulate f (suc a) n
