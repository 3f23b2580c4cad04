-- The counts that the reader takes from files. Assumes nothing.
use Rattle.std.specs.Prelude.{◌≡◌, refl, [], ◌∷◌, map}
use Rattle.format.specs.Bytes.{number}
use Rattle.format.specs.Layout.{first, second, third}
use Rattle.format.proofs.examples.Files.{file_p, file_q}
use Rattle.format.proofs.examples.Shifts.{file_s}
use Rattle.format.proofs.examples.Rests.{file_r}
use Rattle.reader.specs.internal.Filling.{counts_in}

-- two bells and two notes, and two bells and four notes; the number of notes stands after the bells, at 21
pub counts :
    map (counts_in first) (file_p ∷ file_q ∷ [])
    ≡ record { version = 1; cores = 1; shift = 0; bells = 2; notes = 2 } ∷ record { version = 1; cores = 1; shift = 0; bells = 2; notes = 4 } ∷ []
unfolding number
counts = refl

-- with a shift of -4 after the cores, each a byte further on
pub shifted : counts_in second file_s ≡ record { version = 2; cores = 1; shift = 252; bells = 2; notes = 2 }
unfolding number
shifted = refl

-- with rests too: two bells of nine bytes, and the number of notes after them, at 26
pub rested : counts_in third file_r ≡ record { version = 3; cores = 1; shift = 252; bells = 2; notes = 2 }
unfolding number
rested = refl
