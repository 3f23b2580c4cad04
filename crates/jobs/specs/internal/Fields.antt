-- The fields of a job that are numbers, in the order of its row. Assumes nothing.
use Rattle.std.specs.Prelude.{ℕ, List, [], ◌∷◌, get_or}
use Rattle.model.specs.Jobs.{Job}

-- how many they are
abbrev pub field_count : ℕ
field_count = 6

abbrev pub fields : Job → List ℕ
fields j = j.earliest_release ∷ j.latest_release ∷ j.least_execution ∷ j.most_execution ∷ j.deadline ∷ j.priority ∷ []

-- the field at an offset of the row
abbrev pub field_at : ℕ → Job → ℕ
field_at at j = get_or (fields j) at 0
