-- What is answered of what was written. Assumes nothing.
use Rattle.std.specs.Prelude.{◌≡◌, refl, [], ◌∷◌, map, Ok, Err}
use Rattle.format.specs.Outcome.{ok, refused}
use Rattle.format.proofs.examples.Files.{file_p}
use Rattle.format.proofs.examples.Rests.{file_r}
use Rattle.writer.specs.internal.Answers.{writing_of}

-- P's file, R's, whose bells rest, and refusals 16 and 6
pub answers : map writing_of (ok file_p ∷ ok file_r ∷ refused 16 0 ∷ refused 6 17 ∷ []) ≡ Ok 50 ∷ Ok 55 ∷ Err (record { number = 16; place = 0 }) ∷ Err (record { number = 6; place = 17 }) ∷ []
answers = refl
