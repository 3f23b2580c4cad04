-- What an answer of the code says of the outcome behind it. Assumes nothing.
use Prim.Native.Nat.{ℕ}
use mathlib.Core.Path.{◌≡◌, refl, sym, ap, subst, ◌∙◌}
use mathlib.Core.List.{List}
use mathlib.Core.Option.{Option, none, some}
use native.Mathlib.Omega.{arith}
use Rattle.format.specs.Outcome.{Outcome, ok, refused}
use Rattle.format.specs.Phrase.{Bell, Note}
use Rattle.records.specs.internal.Answers.{reading_of, found_of}
use Rattle.records.specs.internal.Filling.{note_put}
use mathlib.Core.Bool.{true, false, false≢true}
use Rattle.std.specs.Prelude.{Result, Some, None, Ok, Err, IsErrAnd, is_some}
use Rattle.std.proofs.lemmas.Result.{err_from_is_err_and}
use Rattle.model.specs.declared.refusals.Refusal.{Refusal}

module _ {A : Type 0} where
  -- All was read: there is a value.
  pub was_ok : (o : Outcome A) {u : Unit} → reading_of o ≡ Ok u → (a : A) × (o ≡ ok a)
  was_ok (ok a) e = (a, refl)
  was_ok (refused n at) e = let z : ◌≡◌ {A = ℕ} 0 1 = cc in absurd (omega arith)

  -- A refusal of the code is that of the outcome.
  pub was_refused : (o : Outcome A) (r : Refusal) → reading_of o ≡ Err r → o ≡ refused r.number r.place
  was_refused (ok a) r e = cc
  was_refused (refused m to) r e = cc

  -- The answer that an outcome gives, and what holds of it.
  pub carried : {o p : Outcome A} (P : Outcome A → Type 0) → o ≡ p → P p → (reading_of p ≡ reading_of o) × P o
  carried P e x = (ap reading_of (sym e), subst P (sym e) x)

-- A refusal that `?` hands on.
pub passed_on : {A : Type 0} {a : Result A Refusal} {r : Refusal} → IsErrAnd a (λ x. x ≡ r) → a ≡ Err r
passed_on {a = a} e = let p = err_from_is_err_and a e in p.1 ∙ ap Err p.2

-- A note that is no value leaves the table as it is.
pub kept_unless : (shift : ℕ) (bells : List Bell) (o : Outcome Note) (t : List ℕ) (own : ℕ) → ((n : Note) → o ≡ ok n → ⊥) → t ≡ note_put shift bells o t own
kept_unless shift bells (ok n) t own h = absurd (h n refl)
kept_unless shift bells (refused r at) t own h = refl

-- A number that the code found is the one that is there.
pub was_some : (o : Option ℕ) (x : ℕ) → found_of o ≡ Some x → o ≡ some x
was_some (some y) x e = ap some (cc)
was_some none x e = cc

-- Where the code found nothing, there is nothing.
pub was_none : (o : Option ℕ) → found_of o ≡ None → o ≡ none
was_none (some y) e = cc
was_none none e = refl

-- What is found is there, and what is not found is not.
pub found : (o : Option ℕ) → is_some (found_of o) ≡ true → (x : ℕ) × (o ≡ some x)
found (some y) e = (y, refl)
found none e = absurd (false≢true e)

pub not_found : (o : Option ℕ) → is_some (found_of o) ≡ false → o ≡ none
not_found (some y) e = absurd (false≢true (sym e))
not_found none e = refl
