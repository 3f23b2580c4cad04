-- What the words of a state say of a job, and of the set. Assumes nothing.
use Prim.Native.Nat.{ℕ, suc, ◌+◌, ◌/◌, ◌%◌, ◌^◌, ◌<◌}
use mathlib.Core.Path.{◌≡◌, refl, sym, ap, ◌∙◌}
use mathlib.Core.Bool.{Bool, true, false, cond}
use mathlib.Core.List.{List, [], ◌∷◌}
use native.Mathlib.Nat.{zero-add, pow-suc, div-one}
use native.Mathlib.Omega.{arith}
use lib.Count.{ones}
use lib.ListN.{get_or, length}
use Rattle.model.specs.Folds.{ind}
use Rattle.model.specs.States.{Range, empty, range, is_range, finish_of, started, level}
use Rattle.model.proofs.StartedSet.{mask_of, half_power, mask_ones}
use Rattle.words.proofs.Tabulate.{length_tabulate, get_or_tabulate}
use Rattle.states.proofs.Bits.{digit}
use Rattle.states.specs.internal.Slots.{earliest_at, latest_at, set_of, in_set, range_at, state_of}

-- ---- a job

module _ (m k : ℕ) (ws : List ℕ) where
  -- there are k finish ranges
  pub finish_length : length (state_of m k ws).finish ≡ k
  unfolding state_of
  finish_length = length_tabulate (range_at m k ws) 0 k

  module _ (i : ℕ) (h : i < k) where
    -- the finish range of job i is what its words say
    pub finish_at : finish_of (state_of m k ws) i ≡ range_at m k ws i
    unfolding state_of
    finish_at = get_or_tabulate (range_at m k ws) 0 k i empty h ∙ ap (range_at m k ws) (zero-add i)

    -- job i has started exactly if its bit is set
    pub started_at : started (state_of m k ws) i ≡ in_set (set_of ws) i
    unfolding range_at
    started_at = ap is_range finish_at ∙ go (in_set (set_of ws) i)
      where
        go : (b : Bool) → is_range (cond b (range (get_or ws (earliest_at m + i) 0) (get_or ws (latest_at m k + i) 0)) empty) ≡ b
        go true = refl
        go false = refl

    -- the finish range of job i, by whether it has started
    pub finish_in_holds : (b : Bool) → started (state_of m k ws) i ≡ b
        → finish_of (state_of m k ws) i ≡ cond b (range (get_or ws (earliest_at m + i) 0) (get_or ws (latest_at m k + i) 0)) empty
    unfolding range_at
    finish_in_holds b e = finish_at ∙ ap (λ (c : Bool). cond c (range (get_or ws (earliest_at m + i) 0) (get_or ws (latest_at m k + i) 0)) empty) (sym started_at ∙ e)

-- ---- the set

-- a number is the mask of the ranges that its bits tell
mask_is : (l : List Range) (x : ℕ) → x < 2 ^ length l → ((i : ℕ) → i < length l → ind (is_range (get_or l i empty)) ≡ x / 2 ^ i % 2) → mask_of l ≡ x
unfolding mask_of
mask_is [] x h b = omega arith
mask_is (r ∷ rs) x h b =
    let low : ind (is_range r) ≡ x % 2 = b 0 (omega arith) ∙ ap (λ (n : ℕ). n % 2) (div-one x) in
    omega (
      arith,
      low,
      mask_is rs (x / 2) (omega (arith, pow-suc 2 (length rs))) (λ i g. b (suc i) (omega arith) ∙ ap (λ (n : ℕ). n % 2) (half_power x i)),
    )

-- the set, as a mask of the finish ranges
pub set_mask : (m k : ℕ) (ws : List ℕ) → set_of ws < 2 ^ k → mask_of (state_of m k ws).finish ≡ set_of ws
set_mask m k ws h =
    mask_is (state_of m k ws).finish (set_of ws) (rw (finish_length m k ws) h)
    (λ i b. ap ind (started_at m k ws i (rw (finish_length m k ws) at b)) ∙ sym (digit (set_of ws / 2 ^ i % 2) (omega arith)))

-- the count of ones is the level
pub set_ones : (m k : ℕ) (ws : List ℕ) → set_of ws < 2 ^ k → ones (set_of ws) ≡ level (state_of m k ws)
set_ones m k ws h = ap ones (sym (set_mask m k ws h)) ∙ mask_ones (state_of m k ws).finish
