-- Laws of the digits of a number. Assumes nothing.
use Prim.Native.Nat.{ℕ, zero, suc, ◌/◌, ◌≤◌, ◌<◌}
use mathlib.Core.Path.{◌≡◌, refl, ap, ◌∙◌}
use mathlib.Core.Bool.{Bool, true, false}
use mathlib.Core.List.{List, [], ◌∷◌, ◌++◌, append_assoc}
use native.Mathlib.Omega.{arith}
use lib.Dec.{ltb}
use borrow.Author.Tests.{lt-ltb, le-ltb}
use Rattle.text.specs.Decimal.{digit, decimal_within, decimal}

one : (d n : ℕ) → decimal_within d n true ≡ digit n ∷ []
unfolding decimal_within
one zero n = refl
one (suc d) n = refl

-- the digits as far as they are allowed
abbrev within : ℕ → ℕ → List ℕ
within d n = decimal_within d n (ltb n 10)

next : (d e n : ℕ) (b : Bool) → within d (n / 10) ≡ within e (n / 10) → decimal_within (suc d) n b ≡ decimal_within (suc e) n b
unfolding decimal_within
next d e n true h = refl
next d e n false h = ap (λ (l : List ℕ). l ++ (digit n ∷ [])) h

-- two bounds that are large enough give the same
enough : (d e n : ℕ) → n ≤ d → n ≤ e → within d n ≡ within e n
enough zero e n hd he = rw (lt-ltb n 10 (omega arith), one zero n, one e n)
enough (suc d) zero n hd he = rw (lt-ltb n 10 (omega arith), one (suc d) n, one zero n)
enough (suc d) (suc e) n hd he = next d e n (ltb n 10) (enough d e (n / 10) (omega arith) (omega arith))

-- A number below ten is its digit.
pub decimal_low : (n : ℕ) → n < 10 → decimal n ≡ digit n ∷ []
unfolding decimal
decimal_low n h = rw (lt-ltb n 10 h) (one n n)

-- Any other is the number without its last digit, and that digit.
pub decimal_high : (n : ℕ) → 10 ≤ n → decimal n ≡ decimal (n / 10) ++ (digit n ∷ [])
unfolding decimal decimal_within
decimal_high n h =
    enough n (suc n) n (omega arith) (omega arith)
    ∙ rw (le-ltb n 10 h) (ap (λ (l : List ℕ). l ++ (digit n ∷ [])) (enough n (n / 10) (n / 10) (omega arith) (omega arith)))

-- A number of two digits is these.
pub decimal_two : (n : ℕ) → 10 ≤ n → n < 100 → decimal n ≡ digit (n / 10) ∷ digit n ∷ []
decimal_two n h l = decimal_high n h ∙ ap (λ (z : List ℕ). z ++ (digit n ∷ [])) (decimal_low (n / 10) (omega arith))

-- One of more digits is the number without its last two, and these.
pub decimal_pair : (n : ℕ) → 100 ≤ n → decimal n ≡ decimal (n / 100) ++ (digit (n / 10) ∷ digit n ∷ [])
decimal_pair n h =
    let hundreds : n / 10 / 10 ≡ n / 100 = omega arith in
    decimal_high n (omega arith)
    ∙ ap (λ (z : List ℕ). z ++ (digit n ∷ [])) (decimal_high (n / 10) (omega arith))
    ∙ append_assoc (decimal (n / 10 / 10)) (digit (n / 10) ∷ []) (digit n ∷ [])
    ∙ ap (λ (z : ℕ). decimal z ++ (digit (n / 10) ∷ digit n ∷ [])) hundreds
