-- Rows of one width, one after the other. Assumes nothing.
use Rattle.std.specs.Prelude.{ℕ, zero, suc, List, [], ◌∷◌, drop}

-- what the first n rows of a width hold, each by what the words that it begins hold
unfoldable pub rows_in : {A : Type 0} → (List ℕ → A) → ℕ → List ℕ → ℕ → List A
rows_in one w t zero = []
rows_in one w t (suc n) = one t ∷ rows_in one w (drop w t) n
