use Prim.Native.Nat.{ℕ, max}
use mathlib.Core.Path.{◌≡◌, ◌∙◌}
use mathlib.Core.Bool.{Bool, not}
use native.Mathlib.Omega.{arith}
use Rattle.std.proofs.Common.{rules}
use Rattle.std.proofs.lemmas.Iterator.{YieldsList-from_range, YieldsList-from_map}
use Rattle.std.proofs.lemmas.Iterator.Consumers.{fold_from_yields_List}
use Rattle.model.specs.Folds.{largest, member}
use Rattle.model.specs.Jobs.{predecessors}
use Rattle.jobs.specs.internal.JobRow.{jobs_of_rows}
use Rattle.states.specs.internal.Slots.{state_of}
use Rattle.edges.proofs.Folds.{given_at, largest_by_place}
use Rattle.edges.proofs.Rests.{latest_in, beside_counted}
use Rattle.edges.proofs.certainly_ready_beside.Goals as goal

pub returns : goal.returns
returns c = let a = c.args in
    let js = jobs_of_rows a.rows.now a.k in
    let σ = state_of a.m a.k a.s.now in
    let beside : ℕ → Bool = λ w. not (member w (predecessors js a.i)) in
    let waits = predecessors js a.j in
    let n = c.predecessor_count.result in
    let first = c.latest_release.result in
    let counted : c.fold.result ≡ max first (largest beside (latest_in σ) waits) =
    fold_from_yields_List _ (λ x y. max x y) first _ c.fold.ensures.ran
    (YieldsList-from_map _ (given_at beside (latest_in σ) waits) (YieldsList-from_range 0 n n c.map.ensures.source (omega arith)) c.map.ensures.closure (λ x r q k. search rules))
    (λ x y b q k. search rules) ∙ largest_by_place beside (latest_in σ) waits first 0 n (omega arith) in
    beside_counted js σ a.i a.j c.requires.3 c.fold.result c.rested.result c.max.result (omega (arith, counted, c.latest_release.ensures)) c.rested.ensures c.max.ensures
