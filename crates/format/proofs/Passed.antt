-- What a test that holds says, and what an outcome that is no refusal says. Assumes nothing.
use Prim.Native.Nat.{ℕ, ◌≤◌}
use mathlib.Core.Path.{◌≡◌, refl, ap}
use mathlib.Core.Bool.{Bool, true, false, false≢true}
use mathlib.Core.Option.{Option, none, some}
use native.Mathlib.Omega.{arith}
use lib.Dec.{leb}
use borrow.Author.Tests.{leb-true, le-leb}
use Rattle.model.proofs.Booleans.{and_left, and_right}
use Rattle.format.specs.Bytes.{within}
use Rattle.format.specs.Outcome.{Outcome, ok, refused, ◌>>=◌, ◌>>◌, require}
use Rattle.format.specs.Phrase.{is_none}

-- A number that is within two bounds lies between them.
pub within_true : (low high x : ℕ) → within low high x ≡ true → (low ≤ x) × (x ≤ high)
unfolding within
within_true low high x e = (leb-true low x (and_left (leb low x) (leb x high) e), leb-true x high (and_right (leb low x) (leb x high) e))

-- A number between two bounds is within them.
pub true_within : (low high x : ℕ) → (low ≤ x) × (x ≤ high) → within low high x ≡ true
unfolding within
true_within low high x h = simp (le-leb low x h.0, le-leb x high h.1)

-- What tests as none is none.
pub is_none_holds : (o : Option ℕ) → is_none o ≡ true → o ≡ none
is_none_holds none e = refl
is_none_holds (some x) e = absurd (false≢true e)

module _ {A : Type 0} {x : A} where
  -- A refusal is no value.
  pub never : (n at : ℕ) → refused n at ≡ ok x → ⊥
  never n at e = let z : ◌≡◌ {A = ℕ} 0 1 = cc in omega arith

  -- A value after a test: the test holds, and the value is that of what follows.
  pub required : (b : Bool) (n at : ℕ) {k : Outcome A} → ◌>>◌ (require b n at) k ≡ ok x → (b ≡ true) × (k ≡ ok x)
  required true n at e = (refl, e)
  required false n at e = absurd (never n at e)

  -- A value after another outcome: that is a value too, and the value is that of what follows on it.
  pub bound : {B : Type 0} (o : Outcome B) {k : B → Outcome A} → ◌>>=◌ o k ≡ ok x → (b : B) × (o ≡ ok b) × (k b ≡ ok x)
  bound (ok b) e = (b, refl, e)
  bound (refused n at) e = absurd (never n at e)

  -- The same, where what follows does not depend on it.
  pub followed : {B : Type 0} (o : Outcome B) {k : Outcome A} → ◌>>◌ o k ≡ ok x → (b : B) × (o ≡ ok b) × (k ≡ ok x)
  followed (ok b) e = (b, refl, e)
  followed (refused n at) e = absurd (never n at e)

module _ {A : Type 0} where
  -- Equal steps after one outcome are equal.
  pub same_then : {B : Type 0} (o : Outcome B) (f g : B → Outcome A) → ((b : B) → f b ≡ g b) → ◌>>=◌ o f ≡ ◌>>=◌ o g
  same_then (ok b) f g h = h b
  same_then (refused n at) f g h = refl

  -- Equal steps after equal tests are equal.
  pub same_require : (a b : Bool) (n at : ℕ) (f g : Outcome A) → a ≡ b → f ≡ g → ◌>>◌ (require a n at) f ≡ ◌>>◌ (require b n at) g
  same_require a b n at f g p q = λ i. ◌>>◌ (require (p i) n at) (q i)

  -- A test that holds leaves what follows.
  pub passed : (b : Bool) (n at : ℕ) (k : Outcome A) → b ≡ true → ◌>>◌ (require b n at) k ≡ k
  passed b n at k e = ap (λ (t : Bool). ◌>>◌ (require t n at) k) e
