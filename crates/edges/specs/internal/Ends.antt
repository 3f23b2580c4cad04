-- From when on a job is ready by either end of the times, as the definitions say it. Assumes nothing.
use Rattle.std.specs.Prelude.{ℕ, ◌+◌, max, ◌≡◌, refl, List}
use Rattle.model.specs.Folds.{largest, all}
use Rattle.model.specs.Jobs.{Job, job, predecessors, rest_of}
use Rattle.model.specs.States.{State, earliest, latest, finish_of}
use Rattle.model.specs.Edges.{possibly_ready, certainly_ready}

pub possibly_ready_is : (js : List Job) (σ : State) (i : ℕ)
    → possibly_ready js σ i ≡ max (job js i).earliest_release (largest all (λ w. earliest (finish_of σ w) + rest_of js i w) (predecessors js i))
unfolding possibly_ready
possibly_ready_is js σ i = refl

pub certainly_ready_is : (js : List Job) (σ : State) (i : ℕ)
    → certainly_ready js σ i ≡ max (job js i).latest_release (largest all (λ w. latest (finish_of σ w) + rest_of js i w) (predecessors js i))
unfolding certainly_ready
certainly_ready_is js σ i = refl
