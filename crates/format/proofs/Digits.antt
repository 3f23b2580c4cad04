-- A number written in bytes is read back, and bytes read as a number are written back, for any width. Assumes nothing.
use Prim.Native.Nat.{ℕ, zero, suc, ◌+◌, ◌*◌, ◌/◌, ◌%◌, ◌^◌, ◌≤◌, ◌<◌}
use mathlib.Core.Path.{◌≡◌, refl, sym, ap, ◌∙◌}
use mathlib.Core.List.{List, [], ◌∷◌, ◌++◌, append_assoc}
use native.Mathlib.Nat.{pow-suc, add-zero}
use native.Mathlib.Omega.{arith}
use lib.ListN.{length, take, drop, length-append, length-drop}
use lib.Seq.{take-suc, get_or-drop, get_or_at, get_or-append-add}
use Rattle.format.specs.Bytes.{byte_at, AreBytes, number, digits}

-- A number is written in as many bytes as its width says.
pub digits_length : (w x : ℕ) → length (digits w x) ≡ w
unfolding digits
digits_length zero x = refl
digits_length (suc w) x = omega (arith, length-append (digits w (x / 256)) (x % 256 ∷ []), digits_length w (x / 256))

-- An element of a list of bytes is below 256, beyond its end too.
pub byte_small : (s : List ℕ) → AreBytes s → (i : ℕ) → byte_at s i < 256
byte_small [] bytes i = omega arith
byte_small (a ∷ s) bytes zero = bytes 0 (omega arith)
byte_small (a ∷ s) bytes (suc i) = byte_small s (λ j h. bytes (suc j) (omega arith)) i

-- A number read from bytes fits its width.
pub number_small : (w at : ℕ) (s : List ℕ) → AreBytes s → number w at s < 256 ^ w
unfolding number
number_small zero at s bytes = omega arith
number_small (suc w) at s bytes =
    omega (arith, number_small w at s bytes, byte_small s bytes (at + w), pow-suc 256 w)

-- A number that fits its width is read back where it was written.
pub number_digits : (w x : ℕ) → x < 256 ^ w → (before more : List ℕ) (at : ℕ) → length before ≡ at
    → number w at (before ++ (digits w x ++ more)) ≡ x
unfolding number digits
number_digits zero x h before more at l = omega arith
number_digits (suc w) x h before more at l =
    let y : ℕ = x / 256 in
    let s : List ℕ = before ++ (digits w y ++ (x % 256 ∷ more)) in
    let split : before ++ (digits w y ++ x % 256 ∷ [] ++ more) ≡ s = ap (λ (r : List ℕ). before ++ r) (append_assoc (digits w y) (x % 256 ∷ []) more) in
    let small : y < 256 ^ w = omega (arith, pow-suc 256 w) in
    let high : number w at s ≡ y = number_digits w y small before (x % 256 ∷ more) at l in
    let low : byte_at s (at + w) ≡ x % 256 =
    ap (λ (k : ℕ). byte_at s (k + w)) (sym l)
    ∙ get_or-append-add before (digits w y ++ (x % 256 ∷ more)) w 0
    ∙ get_or_at (digits w y) (x % 256) more 0 w (digits_length w y) in
    let sum : number w at s * 256 + byte_at s (at + w) ≡ x = omega (arith, high, low) in
    ap (λ (t : List ℕ). number w at t * 256 + byte_at t (at + w)) split ∙ sum

-- Bytes that are read as a number are written back.
pub digits_number : (s : List ℕ) → AreBytes s → (w at : ℕ) → at + w ≤ length s → digits w (number w at s) ≡ take w (drop at s)
unfolding number digits
digits_number s bytes zero at h = refl
digits_number s bytes (suc w) at h =
    let b : ℕ = byte_at s (at + w) in
    let small : b < 256 = byte_small s bytes (at + w) in
    let high : (number w at s * 256 + b) / 256 ≡ number w at s = omega arith in
    let low : (number w at s * 256 + b) % 256 ≡ b = omega arith in
    let here : b ≡ byte_at (drop at s) w = sym (get_or-drop at s w 0) in
    (λ i. digits w (high i) ++ (low ∙ here) i ∷ [])
    ∙ ap (λ (r : List ℕ). r ++ byte_at (drop at s) w ∷ []) (digits_number s bytes w at (omega arith))
    ∙ sym (take-suc (drop at s) w 0 (omega (arith, length-drop at s)))

-- A number at a place begins the part of the list from there.
pub number_drop : (w at : ℕ) (s : List ℕ) → number w 0 (drop at s) ≡ number w at s
unfolding number
number_drop zero at s = refl
number_drop (suc w) at s =
    let k : 0 + w ≡ w = omega arith in
    let low : byte_at (drop at s) (0 + w) ≡ byte_at s (at + w) = ap (byte_at (drop at s)) k ∙ get_or-drop at s w 0 in
    λ i. number_drop w at s i * 256 + low i

-- A number of one byte is that byte.
pub number_one : (at : ℕ) (s : List ℕ) → number 1 at s ≡ byte_at s at
unfolding number
number_one at s =
    let k : byte_at s (at + 0) ≡ byte_at s at = ap (byte_at s) (add-zero at) in
    omega (arith, k)

-- A number of two bytes, by its bytes.
pub number_two : (at : ℕ) (s : List ℕ) → number 2 at s ≡ byte_at s at * 256 + byte_at s (at + 1)
unfolding number
number_two at s =
    let k : byte_at s (at + 0) ≡ byte_at s at = ap (byte_at s) (add-zero at) in
    omega (arith, k)

-- A number of four bytes, by its halves.
pub number_four : (at : ℕ) (s : List ℕ) → number 4 at s ≡ number 2 at s * 65536 + number 2 (at + 2) s
unfolding number
number_four at s =
    let p : byte_at s (at + 2 + 0) ≡ byte_at s (at + 2) = ap (byte_at s) (add-zero (at + 2)) in
    let k : at + 2 + 1 ≡ at + 3 = omega arith in
    let q : byte_at s (at + 2 + 1) ≡ byte_at s (at + 3) = ap (byte_at s) k in
    omega (arith, p, q)
