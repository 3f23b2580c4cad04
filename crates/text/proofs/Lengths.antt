-- How long the texts of numbers and keys are. Assumes nothing.
use Prim.Native.Nat.{ℕ, zero, suc, ◌+◌, ◌-◌, ◌/◌, ◌%◌, ◌^◌, ◌≤◌, ◌<◌, max}
use mathlib.Core.Path.{◌≡◌, refl, ap}
use mathlib.Core.Bool.{Bool, true, false}
use mathlib.Core.List.{List, [], ◌∷◌}
use native.Mathlib.Nat.{pow-suc}
use native.Mathlib.Omega.{arith}
use lib.Dec.{ltb}
use lib.ListN.{length, get_or, length-append}
use borrow.Author.Tests.{ltb-true, ltb-false}
use Rattle.text.specs.Decimal.{digit, decimal}
use Rattle.text.specs.Keys.{names, key_text}
use Rattle.text.proofs.Decimal.{decimal_low, decimal_high, decimal_two, decimal_pair}

-- A number below ten has one digit.
pub length_low : (n : ℕ) → n < 10 → length (decimal n) ≡ 1
length_low n h = rw (decimal_low n h)

-- Any other has one more than the number without its last digit.
pub length_high : (n : ℕ) → 10 ≤ n → length (decimal n) ≡ length (decimal (n / 10)) + 1
length_high n h = rw (decimal_high n h) (length-append (decimal (n / 10)) (digit n ∷ []))

-- A number from ten to 99 has two.
pub length_two : (n : ℕ) → 10 ≤ n → n < 100 → length (decimal n) ≡ 2
length_two n h l = rw (decimal_two n h l)

-- A number from a hundred on has two more than the number without its last two.
pub length_pair : (n : ℕ) → 100 ≤ n → length (decimal n) ≡ length (decimal (n / 100)) + 2
length_pair n h = rw (decimal_pair n h) (length-append (decimal (n / 100)) (digit (n / 10) ∷ digit n ∷ []))

-- A number from ten thousand on has four digits more than its ten-thousandth.
pub length_ten_thousand : (n : ℕ) → 10000 ≤ n → length (decimal n) ≡ length (decimal (n / 10000)) + 4
length_ten_thousand n h =
    let e : n / 10 / 10 / 10 / 10 ≡ n / 10000 = omega arith in
    let p = ap (λ (q : ℕ). length (decimal q)) e in
    omega (
      arith,
      p,
      length_high n (omega arith),
      length_high (n / 10) (omega arith),
      length_high (n / 10 / 10) (omega arith),
      length_high (n / 10 / 10 / 10) (omega arith),
    )

longer : (k n : ℕ) (b : Bool) → ltb n 10 ≡ b → length (decimal (n / 10)) ≤ k → length (decimal n) ≤ suc k
longer k n true e h = omega (arith, length_low n (ltb-true n 10 e))
longer k n false e h = omega (arith, length_high n (ltb-false n 10 e))

-- k + 1 digits are enough below ten to the k + 1
pub decimal_length : (k n : ℕ) → n < 10 ^ suc k → length (decimal n) ≤ suc k
decimal_length zero n h = omega (arith, length_low n h)
decimal_length (suc k) n h = longer (suc k) n (ltb n 10) refl (decimal_length k (n / 10) (omega (arith, pow-suc 10 (suc k))))

abbrev longest : List (List ℕ) → ℕ
longest [] = 0
longest (x ∷ l) = max (length x) (longest l)

at_most : (l : List (List ℕ)) (i : ℕ) → length (get_or l i []) ≤ longest l
at_most [] i = omega arith
at_most (x ∷ l) zero = omega arith
at_most (x ∷ l) (suc i) = omega (arith, at_most l i)

-- A name of a note has at most two bytes.
pub name_length : (i : ℕ) → length (get_or names i []) ≤ 2
name_length = at_most names

-- The name of a key is as long as its note and its octave.
pub key_parts : (key : ℕ) → length (key_text key) ≡ length (get_or names (key % 12) []) + length (decimal (key / 12 - 1))
unfolding key_text
key_parts key = length-append (get_or names (key % 12) []) (decimal (key / 12 - 1))

-- The name of a key of 32 bits has at most eleven bytes.
pub key_length : (key : ℕ) → key < 4294967296 → length (key_text key) ≤ 11
key_length key h = omega (arith, key_parts key, name_length (key % 12), decimal_length 8 (key / 12 - 1) (omega arith))
