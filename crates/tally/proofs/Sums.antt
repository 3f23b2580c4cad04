-- Laws of sums that are split by a key. Assumes nothing.
use Prim.Native.Nat.{ℕ, zero, suc, ◌+◌, ◌*◌, ◌<◌}
use mathlib.Core.Path.{◌≡◌, refl, sym, ap, ◌∙◌}
use mathlib.Core.Bool.{Bool, true, false, cond}
use native.Mathlib.Nat.{zero-mul, add-mul, not-suc-le-zero}
use native.Mathlib.Decide.{ℕ_discrete}
use native.Mathlib.Omega.{arith}
use lib.Dec.{eqb}
use borrow.Author.Tests.{eq-eqb, ne_eqb}
use Rattle.model.specs.Folds.{sum}
use Rattle.model.proofs.Folds.{sum_zero}

-- The sum of sums is the sum of the sums.
pub sum_plus : (f g : ℕ → ℕ) (n : ℕ) → sum (λ i. f i + g i) n ≡ sum f n + sum g n
unfolding sum
sum_plus f g zero = refl
sum_plus f g (suc n) = omega (arith, sum_plus f g n)

-- A factor of every number is one of the sum.
pub sum_scaled : (f : ℕ → ℕ) (c n : ℕ) → sum (λ i. f i * c) n ≡ sum f n * c
unfolding sum
sum_scaled f c zero = sym (zero-mul c)
sum_scaled f c (suc n) = omega (arith, sum_scaled f c n, add-mul (sum f n) (f n) c)

-- n ones are n
pub sum_ones : (n : ℕ) → sum (λ i. 1) n ≡ n
unfolding sum
sum_ones zero = refl
sum_ones (suc n) = omega (arith, sum_ones n)

-- a number that counts for one of the numbers below n
sum_at : (c w n : ℕ) → c < n → sum (λ b. cond (eqb c b) w 0) n ≡ w
unfolding sum
sum_at c w zero h = absurd (not-suc-le-zero h)
sum_at c w (suc n) h = go (ℕ_discrete c n) (λ d. sum_at c w n d)
  where
    at : (b : ℕ) (e : Bool) → eqb c b ≡ e → cond (eqb c b) w 0 ≡ cond e w 0
    at b e q = ap (λ (z : Bool). cond z w 0) q

    go : Dec (c ≡ n) → (c < n → sum (λ b. cond (eqb c b) w 0) n ≡ w) → sum (λ b. cond (eqb c b) w 0) n + cond (eqb c n) w 0 ≡ w
    go (yes d) r =
        omega (
          arith,
          sum_zero (λ b. cond (eqb c b) w 0) n (λ b l. at b false (ne_eqb c b (λ q. omega (arith, d, q, l)))),
          at n true (eq-eqb c n d),
        )
    go (no d) r = omega (arith, r (omega (arith, d)), at n false (ne_eqb c n d))

-- Numbers split by a key below n, and each part added up, add up to all of them.
pub sum_by : (key w : ℕ → ℕ) (k n : ℕ) → ((i : ℕ) → i < k → key i < n) → sum (λ b. sum (λ i. cond (eqb (key i) b) (w i) 0) k) n ≡ sum w k
unfolding sum
sum_by key w zero n h = sum_zero (λ b. 0) n (λ b l. refl)
sum_by key w (suc k) n h =
    sum_plus (λ b. sum (λ i. cond (eqb (key i) b) (w i) 0) k) (λ b. cond (eqb (key k) b) (w k) 0) n
    ∙ (let p = sum_by key w k n (λ i l. h i (omega arith)) in
    let q = sum_at (key k) (w k) n (h k (omega arith)) in
    λ i. p i + q i)
