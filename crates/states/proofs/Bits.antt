-- Sets as the bits of a number: what is in a meet, a union and a set of one, and that two sets with the same elements are one. Assumes nothing.
use Prim.Native.Nat.{ℕ, zero, suc, ◌+◌, ◌*◌, ◌/◌, ◌%◌, ◌^◌, ◌≤◌, ◌<◌, min, max}
use mathlib.Core.Path.{◌≡◌, refl, sym, ap, ap₂, ◌∙◌}
use mathlib.Core.Bool.{Bool, true, false, ◌&&◌, ◌||◌}
use native.Mathlib.Nat.{zero-div, one-mul}
use native.Mathlib.Omega.{arith}
use lib.Arith.{half_le}
use lib.Bits.{bit_and, bit_or, and_shr, and_step, or_shr, or_step}
use lib.Dec.{eqb, eqb-zero-suc, eqb-suc-zero, eqb-suc-suc}
use lib.Pow.{shl_exact}
use Rattle.model.specs.Folds.{ind}
use Rattle.model.proofs.Booleans.{ind_le}
use Rattle.model.proofs.StartedSet.{half_power}
use Rattle.states.specs.internal.Slots.{in_set}

-- a digit is 1 or 0 as a truth value says
pub digit : (d : ℕ) → d < 2 → d ≡ ind (eqb d 1)
digit zero h = refl
digit (suc zero) h = refl
digit (suc (suc d)) h = absurd (omega arith)

says : (b : Bool) → eqb (ind b) 1 ≡ b
says true = refl
says false = refl

-- an operation digit by digit, as one on truth values
module _ (op f : ℕ → ℕ → ℕ) (g : Bool → Bool → Bool) (same : (p q : Bool) → f (ind p) (ind q) ≡ ind (g p q))
    (shr : (a b w : ℕ) → op a b / 2 ^ w ≡ op (a / 2 ^ w) (b / 2 ^ w)) (step : (a b : ℕ) → op a b ≡ op (a / 2) (b / 2) * 2 + f (a % 2) (b % 2)) where
  in_op : (a b w : ℕ) → in_set (op a b) w ≡ g (in_set a w) (in_set b w)
  in_op a b w = ap (λ (d : ℕ). eqb d 1) low ∙ says (g (in_set a w) (in_set b w))
    where
      digits : f (a / 2 ^ w % 2) (b / 2 ^ w % 2) ≡ ind (g (in_set a w) (in_set b w))
      digits = ap₂ f (digit (a / 2 ^ w % 2) (omega arith)) (digit (b / 2 ^ w % 2) (omega arith)) ∙ same (in_set a w) (in_set b w)

      low : op a b / 2 ^ w % 2 ≡ ind (g (in_set a w) (in_set b w))
      low = omega (arith, shr a b w, step (a / 2 ^ w) (b / 2 ^ w), digits, ind_le (g (in_set a w) (in_set b w)))

-- what is in a meet is in both sets
pub in_meet : (a b w : ℕ) → in_set (bit_and a b) w ≡ (in_set a w && in_set b w)
in_meet = in_op bit_and min ◌&&◌ go and_shr and_step
  where
    go : (p q : Bool) → min (ind p) (ind q) ≡ ind (p && q)
    go true true = refl
    go true false = refl
    go false true = refl
    go false false = refl

-- what is in a union is in one of the sets
pub in_union : (a b w : ℕ) → in_set (bit_or a b) w ≡ (in_set a w || in_set b w)
in_union = in_op bit_or max ◌||◌ go or_shr or_step
  where
    go : (p q : Bool) → max (ind p) (ind q) ≡ ind (p || q)
    go true true = refl
    go true false = refl
    go false true = refl
    go false false = refl

-- all but the lowest digit
pub in_half : (x w : ℕ) → in_set x (suc w) ≡ in_set (x / 2) w
in_half x w = ap (λ (n : ℕ). eqb (n % 2) 1) (half_power x w)

-- nothing is in the empty set
pub in_none : (w : ℕ) → in_set 0 w ≡ false
in_none w = ap (λ (x : ℕ). eqb (x % 2) 1) (zero-div (2 ^ w))

-- in the set of one is that one only
pub in_one : (p w : ℕ) → in_set (2 ^ p) w ≡ eqb w p
in_one zero zero = refl
in_one zero (suc w) = in_half 1 w ∙ in_none w ∙ sym (eqb-suc-zero w)
in_one (suc p) zero = ap (λ (d : ℕ). eqb d 1) {x = 2 ^ suc p / 1 % 2} {y = 0} (omega arith) ∙ sym (eqb-zero-suc p)
in_one (suc p) (suc w) = in_half (2 ^ suc p) w ∙ ap (λ (x : ℕ). in_set x w) (omega arith) ∙ in_one p w ∙ sym (eqb-suc-suc w p)

-- sets with the same elements are one number
pub same_set : (a b : ℕ) → ((w : ℕ) → in_set a w ≡ in_set b w) → a ≡ b
same_set a b = go (a + b) a b (omega arith) (omega arith)
  where
    low : (x y : ℕ) → in_set x 0 ≡ in_set y 0 → x % 2 ≡ y % 2
    low x y e = omega (arith, digit (x / 1 % 2) (omega arith), digit (y / 1 % 2) (omega arith), ap ind e)

    go : (n x y : ℕ) → x ≤ n → y ≤ n → ((w : ℕ) → in_set x w ≡ in_set y w) → x ≡ y
    go zero x y h g f = omega arith
    go (suc n) x y h g f =
        omega (arith, low x y (f 0), go n (x / 2) (y / 2) (half_le h) (half_le g) (λ w. sym (in_half x w) ∙ f (suc w) ∙ in_half y w))

-- a one shifted by less than the width
pub shifted_one : (width w : ℕ) → w < width → (1 * 2 ^ w) % 2 ^ width ≡ 2 ^ w
shifted_one width w h = shl_exact {a = 1} 1 w width (omega arith) (omega arith) ∙ one-mul (2 ^ w)
