-- From when on a job is ready: its waits count without their rests, and then the last with its rest. Assumes nothing.
use Prim.Native.Nat.{ℕ, ◌+◌, max}
use mathlib.Core.Path.{◌≡◌}
use mathlib.Core.Bool.{not}
use mathlib.Core.List.{List}
use native.Mathlib.Omega.{arith}
use Rattle.model.specs.Folds.{member, largest, all}
use Rattle.model.specs.Jobs.{Job, job, predecessors, rest_of}
use Rattle.model.specs.States.{latest, State, finish_of}
use Rattle.model.specs.Edges.{certainly_ready_beside}
use Rattle.model.proofs.Rests.{rested_then_nearest, beside_then_nearest}
use Rattle.edges.specs.internal.Edges.{rested_after}

abbrev pub latest_in : State → ℕ → ℕ
latest_in σ w = latest (finish_of σ w)

-- by either end f of the finish ranges
pub counted : (js : List Job) (f : ℕ → ℕ) (i release ready rested r : ℕ) → ready ≡ max release (largest all f (predecessors js i))
    → rested ≡ rested_after js i f → r ≡ max ready rested → r ≡ max release (largest all (λ w. f w + rest_of js i w) (predecessors js i))
unfolding rested_after
counted js f i release ready rested r e q m = omega (arith, rested_then_nearest js i f)

module _ (js : List Job) (σ : State) where
  -- certainly where another job is ready: the waits of both count for none but the last, if that has a rest
  pub beside_counted : (i j : ℕ) → (i ≡ j → ⊥) → (ready rested r : ℕ)
      → ready ≡ max (job js j).latest_release (largest (λ w. not (member w (predecessors js i))) (latest_in σ) (predecessors js j))
      → rested ≡ rested_after js j (latest_in σ) → r ≡ max ready rested → r ≡ certainly_ready_beside js σ i j
  unfolding certainly_ready_beside rested_after
  beside_counted i j d ready rested r e q m = omega (arith, beside_then_nearest js i j d (latest_in σ))
