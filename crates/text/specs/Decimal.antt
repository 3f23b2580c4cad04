-- A number in decimal: the most significant digit first, no zeros in front, `0` for zero. Assumes nothing.
use Rattle.std.specs.Prelude.{ℕ, zero, suc, ◌+◌, ◌/◌, ◌%◌, Bool, true, false, List, [], ◌∷◌, ◌++◌, ltb}

-- the last digit of n
abbrev pub digit : ℕ → ℕ
digit n = 48 + n % 10

-- the digits of n, at most d + 1 of them; the test says that n has one
unfoldable pub decimal_within : ℕ → ℕ → Bool → List ℕ
decimal_within zero n b = digit n ∷ []
decimal_within (suc d) n true = digit n ∷ []
decimal_within (suc d) n false = decimal_within d (n / 10) (ltb (n / 10) 10) ++ (digit n ∷ [])

-- n has at most n + 1 digits
unfoldable pub decimal : ℕ → List ℕ
decimal n = decimal_within n n (ltb n 10)
