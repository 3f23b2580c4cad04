-- The rows of a phrase's jobs while they are made from its table. Assumes nothing.
use Rattle.std.specs.Prelude.{ℕ, List, [], ◌∷◌, length, Option, Some, None}
use Rattle.std.proofs.Math.Option as definition
use Rattle.std.proofs.Math.Option.{none, some}
use Rattle.model.specs.Jobs.{Job}
use Rattle.words.specs.Padded.{padded}
use Rattle.format.specs.Jobs.{jobs_of}
use Rattle.format.specs.internal.Analysable.{most_predecessors}
use Rattle.rows.specs.PhraseTable.{phrase_of}

-- the jobs of the phrase that a table holds
unfoldable pub jobs_held : List ℕ → List Job
jobs_held t = jobs_of (phrase_of t)

-- the outcome of a search, as the code answers it
abbrev pub found_of : definition.Option ℕ → Option ℕ
found_of (some x) = Some x
found_of none = None

-- the parts of a job's row after its fields: its predecessors, and what follows them
unfoldable pub predecessor_words : List ℕ → List ℕ
predecessor_words l = length l ∷ padded most_predecessors l

unfoldable pub origin_words : Job → List ℕ
origin_words j = j.rest ∷ j.bell ∷ length j.listed ∷ 0 ∷ []
