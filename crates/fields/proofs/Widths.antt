-- Tests of a field beside that of its width. Assumes nothing.
use Prim.Native.Nat.{ℕ, zero, suc, ◌^◌, ◌<◌}
use mathlib.Core.Path.{◌≡◌, refl, sym, ap, ◌∙◌}
use mathlib.Core.Bool.{Bool, true, false, ◌&&◌}
use native.Mathlib.Omega.{arith}
use lib.Dec.{eqb}
use borrow.Author.Tests.{lt-ltb, le-ltb, ne_eqb}
use Rattle.format.specs.Bytes.{fits}

-- Where a field has no bytes, 0 alone fits, if the other test lets it pass.
pub only_zero : (test : ℕ → Bool) → test 0 ≡ true → (x : ℕ) → eqb x 0 ≡ (test x && fits 0 x)
only_zero test e zero = simp e
only_zero test e (suc n) =
    ne_eqb (suc n) 0 (λ e. omega arith) ∙ never (test (suc n)) ∙ ap (λ (b : Bool). test (suc n) && b) (sym (le-ltb (suc n) 1 (omega arith)))
  where
    never : (b : Bool) → false ≡ (b && false)
    never true = refl
    never false = refl

-- Where all that the other test lets pass fits, it says enough.
pub all_fit : (w x : ℕ) (test : Bool) → (test ≡ true → x < 256 ^ w) → test ≡ (test && fits w x)
all_fit w x true h = sym (lt-ltb x (256 ^ w) (h refl))
all_fit w x false h = refl
