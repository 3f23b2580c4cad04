-- Texts one after the other in a buffer. Assumes nothing.
use Prim.Native.Nat.{ℕ, ◌≤◌}
use mathlib.Core.Path.{sym, ◌∙◌, ap}
use mathlib.Core.List.{List, [], ◌++◌}
use native.Mathlib.Omega.{arith}
use lib.ListN.{length, length-append}
use Rattle.words.proofs.Placing.{placed_nothing, placed_append, length_placed}
use Rattle.text.specs.internal.Written.{Room, Written}

-- a place from which on there is room lies in the buffer, or at its end
pub within : {before : List ℕ} {at : ℕ} {s : List ℕ} → Room before at s → at ≤ length before
within h = omega (arith, h.fits)

-- room for a text and the next one is room for the first
pub room_first : {before : List ℕ} {at : ℕ} (s t : List ℕ) → Room before at (s ++ t) → Room before at s
room_first s t h = record { fits = omega (arith, length-append s t, h.fits) }

-- no text changes nothing
pub written_nothing : (before : List ℕ) (at : ℕ) → Written before at [] before at
written_nothing before at = record { ended = omega arith; holds = sym (placed_nothing before at) }

module _ {before : List ℕ} {at : ℕ} {s mid : List ℕ} {e₁ : ℕ} where
  -- a text and the next one are one text
  pub more : {t after : List ℕ} {e₂ : ℕ} → at ≤ length before → Written before at s mid e₁ → Written mid e₁ t after e₂ →
      Written before at (s ++ t) after e₂
  more {t} h a b =
      record {
        ended = omega (arith, length-append s t, a.ended, b.ended);
        holds = b.holds ∙ rw a.holds (placed_append before at e₁ s t h (omega (arith, a.ended)));
      }

  -- and once that is written, for the next
  pub room_rest : (t : List ℕ) → Room before at (s ++ t) → Written before at s mid e₁ → Room mid e₁ t
  room_rest t h a =
      record { fits = omega (arith, length-append s t, h.fits, a.ended, ap length a.holds, length_placed before at s (room_first s t h).fits) }
