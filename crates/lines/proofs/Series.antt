-- Laws of lines over the numbers below a bound. Assumes nothing.
use Prim.Native.Nat.{ℕ, zero, suc, ◌+◌, ◌≤◌, ◌<◌}
use mathlib.Core.Path.{◌≡◌, refl, ap}
use mathlib.Core.Bool.{Bool, true, false}
use mathlib.Core.List.{List, ◌++◌}
use native.Mathlib.Numerals.{add-one}
use native.Mathlib.Omega.{arith}
use lib.Dec.{leb}
use lib.ListN.{length, length-append}
use borrow.Author.Tests.{leb-true, leb-false}
use Rattle.text.specs.internal.Written.{Room}
use Rattle.lines.specs.Lines.{lines}

-- The lines of n + 1 numbers are those of n and one more.
pub lines_next : (f : ℕ → List ℕ) (n : ℕ) → lines f (n + 1) ≡ lines f n ++ f n
unfolding lines
lines_next f n = rw add-one

-- Lines that agree below n are the same.
pub lines_ext : (f g : ℕ → List ℕ) (n : ℕ) → ((i : ℕ) → i < n → f i ≡ g i) → lines f n ≡ lines g n
unfolding lines
lines_ext f g zero h = refl
lines_ext f g (suc n) h =
    let p = lines_ext f g n (λ i b. h i (omega arith)) in
    let q = h n (omega arith) in
    λ i. p i ++ q i

-- one line more, or the same lines
shorter : (f : ℕ → List ℕ) (i n : ℕ) → i ≤ suc n → (b : Bool) → leb i n ≡ b → (i ≤ n → length (lines f i) ≤ length (lines f n))
    → length (lines f i) ≤ length (lines f (suc n))
unfolding lines
shorter f i n h true e next = omega (arith, next (leb-true i n e), length-append (lines f n) (f n))
shorter f i n h false e next =
    let same : i ≡ suc n = omega (arith, leb-false i n e) in
    omega (arith, ap (λ (k : ℕ). length (lines f k)) same)

-- fewer lines are not longer
lines_shorter : (f : ℕ → List ℕ) (i n : ℕ) → i ≤ n → length (lines f i) ≤ length (lines f n)
lines_shorter f i zero h =
    let none : i ≡ 0 = omega arith in
    omega (arith, ap (λ (k : ℕ). length (lines f k)) none)
lines_shorter f i (suc n) h = shorter f i n h (leb i n) refl (lines_shorter f i n)

-- where n lines have room, so has each of them after those before it
pub lines_room : {buffer : List ℕ} {at : ℕ} (f : ℕ → List ℕ) (i n : ℕ) → i < n → Room buffer at (lines f n) → Room buffer at (lines f i ++ f i)
lines_room f i n b h = record { fits = omega (arith, h.fits, lines_shorter f (i + 1) n (omega arith), ap length (lines_next f i)) }
