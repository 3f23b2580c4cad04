-- What is answered of what was read. Assumes nothing.
use Rattle.std.specs.Prelude.{◌≡◌, refl, [], ◌∷◌, map, Ok, Err}
use Rattle.format.specs.Outcome.{ok, refused}
use Rattle.format.specs.Phrase.{Phrase}
use Rattle.format.proofs.examples.Files.{phrase_q}
use Rattle.records.specs.internal.Answers.{reading_of}

-- a phrase that was read, and refusal 12 at 36
pub answers : map (reading_of {A = Phrase}) (ok phrase_q ∷ refused 12 36 ∷ []) ≡ Ok tt ∷ Err (record { number = 12; place = 36 }) ∷ []
answers = refl
