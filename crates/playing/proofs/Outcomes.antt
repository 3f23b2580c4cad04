-- What an answer of the code says of the outcome behind it. Assumes nothing.
use Prim.Native.Nat.{ℕ}
use mathlib.Core.Path.{◌≡◌, refl}
use native.Mathlib.Omega.{arith}
use Rattle.std.specs.Prelude.{Ok, Err}
use Rattle.model.specs.declared.refusals.Refusal.{Refusal}
use Rattle.format.specs.Outcome.{Outcome, ok, refused}
use Rattle.playing.specs.Playing.{admission_of}

module _ {A : Type 0} where
  -- It can be played: there is a value.
  pub was_admitted : (o : Outcome A) → admission_of o ≡ Ok tt → (a : A) × (o ≡ ok a)
  was_admitted (ok a) e = (a, refl)
  was_admitted (refused n at) e = let z : ◌≡◌ {A = ℕ} 0 1 = cc in absurd (omega arith)

  -- A refusal of the code is that of the outcome.
  pub was_refused : (o : Outcome A) (r : Refusal) → admission_of o ≡ Err r → o ≡ refused r.number r.place
  was_refused (ok a) r e = cc
  was_refused (refused m to) r e = cc
