-- What is heard, opposites, phrases written with a shift, and which can be. Assumes nothing.
use Rattle.std.specs.Prelude.{ℕ, ◌≡◌, refl, List, [], ◌∷◌, map}
use Rattle.std.proofs.Common.{arith}
use Rattle.format.specs.Phrase.{Phrase}
use Rattle.format.specs.Fits.{All}
use Rattle.format.specs.Shifting.{heard, opposite, shifted_by, Movable}
use Rattle.format.proofs.examples.Files.{note, note0, note1, phrase_p, noted}
use Rattle.format.proofs.examples.Shifts.{shifted, phrase_s}
use Rattle.format.proofs.examples.Rests.{phrase_r}

-- S, written as 64 and 78 with a shift of -4, is heard as P; a shift up, with a number listed; and a key that falls below zero
pub heard_table :
    map heard (phrase_s ∷ phrase_p ∷ shifted 2 4 (note 56 1 2 9 [] ∷ note 70 3 4 5 (0 ∷ []) ∷ []) ∷ shifted 2 252 (note 3 0 5 7 [] ∷ []) ∷ [])
    ≡ (note0 ∷ note1 ∷ []) ∷ (note0 ∷ note1 ∷ []) ∷ (note 60 1 2 9 [] ∷ note 74 3 4 5 (0 ∷ []) ∷ []) ∷ (note 0 0 5 7 [] ∷ []) ∷ []
heard_table = refl

-- of 0, 1, 4 and 24, and of -4, -24 and -1
pub opposites : map opposite (0 ∷ 1 ∷ 4 ∷ 24 ∷ 252 ∷ 232 ∷ 255 ∷ []) ≡ 0 ∷ 255 ∷ 252 ∷ 232 ∷ 4 ∷ 24 ∷ 1 ∷ []
opposites = refl

-- a phrase with a shift, and the phrase that is due
pub record Case : Type 0 where
  pub shift : ℕ
  pub of : Phrase
  pub expected : Phrase

abbrev row : ℕ → Phrase → Phrase → Case
row t x y = record { shift = t; of = x; expected = y }

abbrev pub table : List Case
table =
    -- P down a third is S, whose keys are written four higher
    row 252 phrase_p phrase_s
    -- with a shift of 0 the version alone is another; with one of 24 and of -24
    ∷ row 0 phrase_p (shifted 2 0 (note0 ∷ note1 ∷ []))
    ∷ row 24 phrase_p (shifted 2 24 (note 36 0 5 7 [] ∷ note 50 0 0 6 [] ∷ []))
    ∷ row 232 phrase_p (shifted 2 232 (note 84 0 5 7 [] ∷ note 98 0 0 6 [] ∷ []))
    -- the numbers that a note lists stay
    ∷ row 1 (noted (note 60 1 2 9 [] ∷ note 74 3 4 5 (0 ∷ []) ∷ [])) (shifted 2 1 (note 59 1 2 9 [] ∷ note 73 3 4 5 (0 ∷ []) ∷ []))
    -- no note
    ∷ row 4 (noted []) (shifted 2 4 [])
    -- versions 2 and 3 stay, and rests do
    ∷ row 252 (shifted 2 0 (note0 ∷ note1 ∷ [])) phrase_s
    ∷ row 252 (record { version = 3; cores = 1; shift = 0; bells = phrase_r.bells; notes = note0 ∷ note1 ∷ [] }) phrase_r
    ∷ []

-- Every row holds.
pub examples : map (λ (c : Case). shifted_by c.shift c.of) table ≡ map (λ (c : Case). c.expected) table
examples = refl

-- ---- `Movable` is a statement, so each stands by itself

-- keys of 24 and 60 become 0 and 36
pub just : Movable 24 (noted (note 24 0 5 7 [] ∷ note0 ∷ []))
unfolding All
just up = (omega arith, (omega arith, tt))

-- 23 - 24 is below zero
pub too_low : Movable 24 (noted (note0 ∷ note 23 0 5 7 [] ∷ [])) → ⊥
unfolding All
too_low m = let low = m (omega arith) in omega (arith, low.1.0)

-- written higher, every key can be moved
pub higher : Movable 232 (noted (note 0 0 5 7 [] ∷ []))
higher up = absurd (omega arith)
