-- The least of what was looked at, one more at a time. Assumes nothing.
use Prim.Native.Nat.{ℕ, ◌+◌, ◌≤◌, ◌<◌}
use mathlib.Core.Path.{◌≡◌, refl}
use native.Mathlib.Omega.{arith}
use Rattle.model.proofs.Folds.{below_suc}
use Rattle.dispatch.specs.internal.Choice.{asleep_key}

-- what holds below n, and at n, holds below n + 1
pub below_next : (P : ℕ → Type 0) (n : ℕ) → ((j : ℕ) → j < n → P j) → P n → (j : ℕ) → j < n + 1 → P j
below_next P n f x j h = below_suc P n f x j (omega arith)

module _ (key : ℕ → ℕ) where
  -- of the first n jobs none has a smaller key, nor is one awake whose key is not below that of sleep; and where it is below, it is first that of this job
  pub record Seen (n next least : ℕ) : Type 0 where
    pub below : (l : ℕ) → l < n → least ≤ key l
    pub at_most : least ≤ asleep_key
    pub kept : least < asleep_key → (next < n) × (least ≡ key next) × ((l : ℕ) → l < n → key l ≡ least → next ≤ l)

  module _ (n next least : ℕ) (seen : Seen n next least) where
    pub seen_lower : key n < least → Seen (n + 1) n (key n)
    seen_lower h =
        record {
          below = below_next (λ l. key n ≤ key l) n (λ l b. omega (arith, seen.below l b)) (omega arith);
          at_most = omega (arith, seen.at_most);
          kept = λ a. (
            omega arith,
            refl,
            below_next (λ l. key l ≡ key n → n ≤ l) n (λ l b e. absurd (omega (arith, seen.below l b))) (λ e. omega arith),
          );
        }

    pub seen_higher : least ≤ key n → Seen (n + 1) next least
    seen_higher h =
        record {
          below = below_next (λ l. least ≤ key l) n seen.below h;
          at_most = seen.at_most;
          kept = λ a.
              let x = seen.kept a in (omega (arith, x.0), x.1, below_next (λ l. key l ≡ least → next ≤ l) n x.2 (λ e. omega (arith, x.0)));
        }
