-- A number in bytes, byte by byte. Assumes nothing.
use Prim.Native.Nat.{ℕ, ◌/◌, ◌%◌, ◌<◌}
use mathlib.Core.Path.{◌≡◌}
use mathlib.Core.List.{[], ◌∷◌}
use native.Mathlib.Omega.{arith}
use Rattle.format.specs.Bytes.{digits}

-- A number that fits one byte is that byte.
pub digits_one : (x : ℕ) → x < 256 → digits 1 x ≡ x ∷ []
unfolding digits
digits_one x h =
    let e : x % 256 ≡ x = omega arith in
    λ i. e i ∷ []

-- A number in four bytes, each by one division, as std has it.
pub four_bytes : (x : ℕ) → digits 4 x ≡ x / 16777216 % 256 ∷ x / 65536 % 256 ∷ x / 256 % 256 ∷ x % 256 ∷ []
unfolding digits
four_bytes x =
    let a : x / 256 / 256 / 256 % 256 ≡ x / 16777216 % 256 = omega arith in
    let b : x / 256 / 256 % 256 ≡ x / 65536 % 256 = omega arith in
    λ i. a i ∷ b i ∷ x / 256 % 256 ∷ x % 256 ∷ []
