-- `store::find_merging` meets its contract: no state before j merges with the new one.
use Prim.Native.Nat.{◌+◌, ◌*◌, ◌-◌}
use mathlib.Core.Path.{◌≡◌, sym, ◌∙◌}
use native.Mathlib.Omega.{arith}
use borrow.Author.Count.{below_more}
use Rattle.model.specs.Exploration.{mergeable, state_words}
use Rattle.states.specs.internal.Slots.{state_of, slot_of}
use Rattle.store.specs.internal.Half.{NoneMerges}
use Rattle.store.proofs.Indexing.{none_merges_on, none_merges_more}
use Rattle.store.proofs.find_merging.Goals as goal
use Rattle.store.proofs.find_merging.Goals.{After-can_merge}

tested : (c : After-can_merge) → c.can_merge.result ≡ mergeable (state_of c.args.m c.args.k (slot_of c.args.m c.args.k c.args.half.now c.in-Some.j)) (state_of c.args.m c.args.k c.args.new.now)
tested c =
    let W = state_words c.args.m c.args.k in
    let j = c.in-Some.j in
    let p : j * W + W - j * W ≡ W = omega arith in
    rw (c.state_words-w.ensures, p) at c.can_merge.ensures

-- none before it can merge
none_so_far : (c : After-can_merge) → NoneMerges c.args.m c.args.k c.args.half.now c.args.new.now c.in-Some.j
none_so_far c =
    none_merges_on c.args.m c.args.k c.args.half.now c.args.new.now c.args.n c.requires.4 c.requires.5 c.loop-j.from c.in-Some.j
    (rw c.started_set-set.ensures at c.in-Some.ensures) c.loop-j.invariant.1

pub returns-then-can_merge : goal.returns-then-can_merge
returns-then-can_merge c = let g = (goal.at.returns-then-can_merge c).After-can_merge in
    record { inside = c.in-Some.ensures.inside; none_before = none_so_far g; merges = sym (tested g) ∙ c.if-can_merge.true }

pub loop-j-preserved : goal.loop-j-preserved
loop-j-preserved c = let g = (goal.at.loop-j-preserved c).After-can_merge in
    (omega (arith, c.in-Some.ensures.inside), below_more _ _ (none_so_far g) (sym (tested g) ∙ c.if-can_merge.false))

pub returns : goal.returns
returns c =
    none_merges_more c.args.m c.args.k c.args.half.now c.args.new.now c.args.n c.requires.4 c.requires.5 c.loop-j.from
    (rw c.started_set-set.ensures at c.in_default.ensures) c.loop-j.invariant.1
