use Prim.Native.Nat.{ℕ, ◌+◌, ◌-◌, ◌^◌, ◌<◌, min}
use mathlib.Core.Path.{◌≡◌, refl, sym, ap, ◌∙◌}
use mathlib.Core.List.{List}
use native.Mathlib.Omega.{arith}
use lib.Count.{count_trailing_zeros}
use lib.ListN.{get_or, length-set}
use Rattle.model.specs.Jobs.{Job}
use Rattle.model.specs.Edges.{candidate}
use Rattle.model.proofs.Booleans.{ind_le}
use Rattle.states.specs.internal.Slots.{in_set, state_of}
use Rattle.edges.specs.internal.Edges.{PredecessorSets, candidates}
use Rattle.edges.proofs.Listing.{list_next, none_listed}
use Rattle.edges.proofs.Candidates.{below_the_rest, started_not, candidate_of}
use Rattle.edges.proofs.list_candidates.Goals as goal

-- all jobs before the first that has not started are no candidates
pub loop-j-init : goal.loop-j-init
loop-j-init c = let a = c.args in
    let g = c.started_set-set in
    let rest = 18446744073709551615 - g.result in
    let σ = state_of a.m a.k a.s.now in
    let first = count_trailing_zeros 64 rest in
    let all : g.result + rest + 1 ≡ 2 ^ 64 = omega arith in (
      omega arith,
      refl,
      λ js p. sym (none_listed (candidate js σ) (min first a.k) (λ w b.
          started_not js a.m a.k a.s.now w (omega arith) (ap (λ (x : ℕ). in_set x w) (sym g.ensures) ∙ below_the_rest 64 g.result rest all w (omega arith)))),
    )

pub loop-j-preserved : goal.loop-j-preserved
loop-j-preserved c = let a = c.args in
    let i = c.loop-j in
    let g = c.started_set-set in
    let t = c.is_candidate in
    let h : i.j < a.k = omega arith in
    let σ = state_of a.m a.k a.s.now in
    let here : min i.j a.k ≡ i.j = omega arith in
    let next : i.j + 1 ≡ min (i.j + 1) a.k = omega arith in
    let tells : (js : List Job) → PredecessorSets js a.k a.sets.now → t.result ≡ candidate js σ i.j =
    λ js p. t.ensures js (p i.j h) ∙ candidate_of js i.j (get_or a.sets.now i.j 0) (p i.j h) a.m a.k a.s.now g.result g.ensures h in (
      omega (arith, ind_le t.result, i.invariant.0),
      simp length-set i.invariant.1,
      λ js p. list_next (candidate js σ) i.list i.n i.j t.result (omega (arith, i.invariant.0, i.invariant.1)) (i.invariant.2 js p ∙ ap (candidates js σ) here) (tells js p)
          ∙ ap (candidates js σ) next,
    )
