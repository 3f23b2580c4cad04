-- What the bells' totals add up to. Assumes nothing.
use Prim.Native.Nat.{ℕ, ◌≤◌, ◌<◌}
use mathlib.Core.Path.{◌≡◌, refl, ◌∙◌}
use mathlib.Core.Bool.{Bool, true, false, cond}
use mathlib.Core.List.{List}
use native.Mathlib.Omega.{arith}
use lib.Dec.{eqb}
use lib.ListN.{length}
use Rattle.model.specs.Folds.{sum}
use Rattle.model.specs.Jobs.{Job, job}
use Rattle.model.proofs.Folds.{le_sum, sum_zero}
use Rattle.tally.specs.Tally.{bell_total, all_hold}
use Rattle.tally.proofs.Sums.{sum_ones, sum_by}

module _ (js : List Job) (n : ℕ) (each : (i : ℕ) → i < length js → (job js i).bell < n) where
  -- The numbers of the bells' strokes add up to the number of strokes.
  pub counts_add_up : sum (λ b. (bell_total js b).strokes) n ≡ length js
  counts_add_up = sum_by (λ i. (job js i).bell) (λ i. 1) (length js) n each ∙ sum_ones (length js)

  -- The total formed from the bells' lines is the sum in the order of the strokes.
  pub hold_in_order : all_hold js n ≡ sum (λ i. (job js i).most_execution) (length js)
  hold_in_order = sum_by (λ i. (job js i).bell) (λ i. (job js i).most_execution) (length js) n each

-- A bell without strokes, which has no line, adds nothing to the total.
pub unlisted : (js : List Job) (b : ℕ) → (bell_total js b).strokes ≡ 0 → (bell_total js b).hold ≡ 0
unlisted js b none = sum_zero _ (length js) (λ i l. go i (eqb (job js i).bell b) (omega (arith, le_sum (λ i. cond (eqb (job js i).bell b) 1 0) (length js) i l, none)))
  where
    go : (i : ℕ) (e : Bool) → cond e 1 0 ≤ 0 → cond e (job js i).most_execution 0 ≡ 0
    go i true h = absurd (omega arith)
    go i false h = refl
