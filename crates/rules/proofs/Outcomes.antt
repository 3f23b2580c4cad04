-- What an answer of the code says. Assumes nothing.
use Prim.Native.Nat.{ℕ}
use mathlib.Core.Path.{◌≡◌, refl}
use Rattle.std.specs.Prelude.{Ok, Err}
use Rattle.model.specs.declared.refusals.Refusal.{Refusal}
use Rattle.format.specs.Outcome.{Outcome, ok, refused}
use Rattle.rules.specs.internal.Answers.{end_of}

module _ {A : Type 0} where
  -- What ends at a place has passed.
  pub has_ended : (o : Outcome A) (end size : ℕ) → end_of o end ≡ Ok size → (a : A) × (o ≡ ok a) × (end ≡ size)
  has_ended (ok a) end size e = (a, refl, cc)
  has_ended (refused n at) end size e = cc

  -- A refusal of the code is that of the outcome.
  pub has_stopped : (o : Outcome A) (end : ℕ) (r : Refusal) → end_of o end ≡ Err r → o ≡ refused r.number r.place
  has_stopped (ok a) end r e = cc
  has_stopped (refused m to) end r e = cc
