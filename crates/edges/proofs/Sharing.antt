-- A job that shares no predecessor with another is certainly ready beside it from when on it is by itself. Assumes nothing.
use Prim.Native.Nat.{ℕ, ◌+◌, max}
use mathlib.Core.Path.{◌≡◌, refl, sym, ap, ◌∙◌}
use mathlib.Core.Bool.{Bool, true, false, not, ◌&&◌, and-true}
use mathlib.Core.List.{List, [], ◌∷◌}
use lib.Bits.{bit_and}
use Rattle.model.specs.Folds.{member, largest, all}
use Rattle.model.specs.Jobs.{Job, job, predecessors, rest_of}
use Rattle.model.specs.States.{State, latest, finish_of}
use Rattle.model.specs.Edges.{certainly_ready, rested_with, certainly_ready_beside}
use Rattle.model.proofs.Folds.{member_here, member_there}
use Rattle.states.specs.internal.Slots.{in_set}
use Rattle.states.proofs.Bits.{in_meet, in_none}
use Rattle.edges.specs.internal.Edges.{PredecessorSet}

-- where every element passes, the largest of all is the largest that passes
largest_passing : (p : ℕ → Bool) (f : ℕ → ℕ) (l : List ℕ) → ((w : ℕ) → member w l ≡ true → p w ≡ true) → largest all f l ≡ largest p f l
unfolding largest
largest_passing p f [] h = refl
largest_passing p f (x ∷ xs) h =
    rw (h x (member_here x xs)) (ap (max (f x)) (largest_passing p f xs (λ w i. h w (member_there w x xs i))))

module _ (js : List Job) (i j a b : ℕ) (p : PredecessorSet js i a) (q : PredecessorSet js j b) (apart : bit_and a b ≡ 0) where
  -- no predecessor of j is one of i, so none is left out
  unshared : (w : ℕ) → member w (predecessors js j) ≡ true → not (rested_with js i j w) ≡ true
  unfolding rested_with
  unshared w e =
      let both : (in_set a w && in_set b w) ≡ false = sym (in_meet a b w) ∙ ap (λ (x : ℕ). in_set x w) apart ∙ in_none w in
      rw (rw (p.members w, q.members w ∙ e, and-true) at both) refl

  -- where two jobs share no predecessor, one is certainly ready beside the other from when on it is by itself
  pub ready_beside : (σ : State) → certainly_ready js σ j ≡ certainly_ready_beside js σ i j
  unfolding certainly_ready certainly_ready_beside
  ready_beside σ =
      ap (max (job js j).latest_release)
      (largest_passing (λ w. not (rested_with js i j w)) (λ w. latest (finish_of σ w) + rest_of js j w) (predecessors js j) unshared)
