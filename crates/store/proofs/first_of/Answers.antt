use Prim.Native.Nat.{◌+◌, ◌*◌, ◌-◌, ◌<◌}
use mathlib.Core.Path.{◌≡◌, sym, ap, ◌∙◌}
use native.Mathlib.Omega.{arith}
use Rattle.model.specs.Exploration.{state_words}
use Rattle.states.specs.internal.Slots.{set_of, slot_of}
use Rattle.store.specs.internal.Index.{bucket_of}
use Rattle.store.proofs.Indexing.{bucket_inside, at_head}
use Rattle.store.proofs.first_of.Goals as goal
use Rattle.store.proofs.first_of.Goals.{After-started_set-found}

-- the set of the state that stands there
found : (c : After-started_set-found)
    → c.started_set-found.result ≡ set_of (slot_of c.args.m c.args.k c.args.half.now c.head_at-head.result)
found c =
    let W = state_words c.args.m c.args.k in
    let h = c.head_at-head.result in
    let p : h * W + W - h * W ≡ W = omega arith in
    rw (c.state_words-w.ensures, p) at c.started_set-found.ensures

pub head_at-head-requires : goal.head_at-head-requires
head_at-head-requires c = let some : 0 < c.args.index.buckets = c.requires.2.some (omega (arith, c.requires.5, c.if-used-eq0.false)) in
    (c.requires.0, c.requires.1, c.requires.2, c.requires.3, c.requires.4, omega (arith, c.requires.6, bucket_inside c.args.index.buckets c.args.set some))

pub returns-then-found-set : goal.returns-then-found-set
returns-then-found-set c = at_head c.requires.7 c.args.b c.head_at-head.result c.head_at-head.ensures c.if-used-head.false
    (ap (bucket_of c.args.index.buckets) (sym (found (goal.at.returns-then-found-set c).After-started_set-found) ∙ c.if-found-set.true) ∙ sym c.requires.6)

pub returns : goal.returns
returns c = at_head c.requires.7 c.args.b c.head_at-head.result c.head_at-head.ensures c.if-used-head.false
    (ap (bucket_of c.args.index.buckets) (sym (found (goal.at.returns c).After-started_set-found)) ∙ sym c.bucket_of.ensures ∙ c.if-bucket_of-b.false)
