use Prim.Native.Nat.{ℕ, ◌+◌, max}
use mathlib.Core.Path.{◌≡◌, sym, ap, ◌∙◌}
use native.Mathlib.Omega.{arith}
use Rattle.std.proofs.Common.{rules}
use Rattle.std.proofs.lemmas.Iterator.{YieldsList-from_range, YieldsList-from_map}
use Rattle.std.proofs.lemmas.Iterator.Consumers.{fold_from_yields_List}
use Rattle.model.specs.Folds.{largest, all}
use Rattle.model.specs.Jobs.{predecessors, rest_of}
use Rattle.model.specs.States.{finish_of}
use Rattle.jobs.specs.internal.JobRow.{jobs_of_rows}
use Rattle.states.specs.internal.Slots.{state_of}
use Rattle.edges.specs.internal.Edges.{rested_after}
use Rattle.edges.proofs.Folds.{given_at, largest_by_place}
use Rattle.edges.proofs.Rests.{counted}
use Rattle.edges.proofs.ready.Goals as goal

pub returns : goal.returns
returns g c = let a = c.args in
    let js = jobs_of_rows a.rows.now a.k in
    let σ = state_of a.m a.k a.s.now in
    let finish = λ (w : ℕ). g.E.End.of (finish_of σ w) in
    let waits = predecessors js a.i in
    let n = c.predecessor_count.result in
    let first = c.release.result in
    let all-counted : c.fold.result ≡ max first (largest all finish waits) =
    fold_from_yields_List _ (λ x y. max x y) first _ c.fold.ensures.ran
    (YieldsList-from_map _ (given_at all finish waits) (YieldsList-from_range 0 n n c.map.ensures.source (omega arith)) c.map.ensures.closure (λ x r q k. search rules))
    (λ x y b q k. search rules) ∙ largest_by_place all finish waits first 0 n (omega arith) in
    counted js finish a.i first c.fold.result _ c.max.result all-counted (c.rested.ensures ∙ ap (λ (x : ℕ). rested_after js x finish) (omega arith)) c.max.ensures
    ∙ ap (λ (x : ℕ). max x (largest all (λ w. finish w + rest_of js a.i w) waits)) c.release.ensures ∙ sym (g.met.E.ReadyEnd.readied_is js σ a.i)
