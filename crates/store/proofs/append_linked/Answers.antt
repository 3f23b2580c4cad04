use Prim.Native.Nat.{ℕ, ◌+◌, ◌<◌}
use mathlib.Core.Path.{sym, subst, ◌∙◌}
use native.Mathlib.Omega.{arith}
use Rattle.model.specs.Exploration.{state_words}
use Rattle.states.specs.internal.Slots.{set_of}
use Rattle.std.specs.Prelude.{Some}
use Rattle.store.specs.internal.Chains.{LastBefore}
use Rattle.store.specs.internal.Index.{bucket_at, Fits, Spared}
use Rattle.store.proofs.Storing.{slot_fits}
use Rattle.store.proofs.Indexing.{bucket_inside}
use Rattle.store.proofs.Linking.{PutLinked, put_spared, head_written, link_written}
use Rattle.store.proofs.append_linked.Goals as goal
use Rattle.store.proofs.append_linked.Goals.{After-put_linked, In-Some}

placed : (c : After-put_linked) → PutLinked c.args.m c.args.k c.args.index c.args.half.now c.args.heads.now c.args.n c.args.new.now c.put_linked.new.half
placed c =
    let x = c.put_linked.ensures in
    record { free = c.requires.m_le_most_cores.3; indexed = c.requires.m_le_most_cores.4; spare = c.requires.k_in_bounds.1; put = x.put.0; others = x.put.1; ends = x.j_after.0; moved = x.j_after.1 }

spared : (c : After-put_linked) → Spared c.args.m c.args.k c.put_linked.new.half (c.args.n + 1)
spared c =
    put_spared c.args.m c.args.k c.args.index c.args.half.now c.args.heads.now c.requires.m_le_most_cores.2 c.args.n c.args.new.now c.put_linked.new.half (placed c)

-- the last state of the bucket
last_of : (c : In-Some) → LastBefore c.args.n (bucket_at c.args.index.buckets c.args.m c.args.k c.args.half.now) c.args.found.bucket c.args.n (Some c.in-Some.last)
last_of c = rw c.in-Some.is at c.requires.k_in_bounds.3

pub link_at-requires : goal.link_at-requires
link_at-requires c = let earlier = (last_of (goal.at.link_at-requires c).In-Some).0 in (
  c.requires.m_le_most_cores.0,
  c.requires.m_le_most_cores.1,
  omega (arith, c.put_linked.auto.half, c.requires.m_le_most_cores.2.inside, slot_fits c.in-Some.last c.args.index.linked (state_words c.args.m c.args.k) (omega (arith, earlier, c.requires.m_le_most_cores.3))),
  spared (goal.at.link_at-requires c).After-put_linked c.in-Some.last (omega (arith, earlier)),
  omega (arith, c.requires.m_le_most_cores.3, c.requires.m_le_most_cores.2.named),
)

pub write_head_at-requires : goal.write_head_at-requires
write_head_at-requires c = (
  c.requires.m_le_most_cores.0,
  c.requires.m_le_most_cores.1,
  subst (λ (z : ℕ). Fits c.args.m c.args.k z c.args.index) (sym c.put_linked.auto.half) c.requires.m_le_most_cores.2,
  c.requires.m_le_most_cores.4.long,
  spared (goal.at.write_head_at-requires c).After-put_linked,
  omega (arith, c.requires.m_le_most_cores.3),
  subst (λ (z : ℕ). z < c.args.index.buckets) (sym c.requires.k_in_bounds.2)
      (bucket_inside c.args.index.buckets (set_of c.args.new.now) (c.requires.m_le_most_cores.2.some (omega (arith, c.requires.m_le_most_cores.3)))),
  omega (arith, c.requires.m_le_most_cores.3, c.requires.m_le_most_cores.2.named),
)

pub returns-in-Some : goal.returns-in-Some
returns-in-Some c = let x = c.link_at in
    let g = (goal.at.returns-in-Some c).In-Some in
    let o = link_written c.args.m c.args.k c.args.index c.args.half.now c.args.heads.now c.requires.m_le_most_cores.2 c.args.n c.args.new.now
    c.put_linked.new.half (placed (goal.at.returns-in-Some c).After-put_linked) x.new.half c.in-Some.last c.args.found.bucket c.put_linked.auto.half c.requires.k_in_bounds.2
    (last_of g).0 x.ensures.kept_at.0 x.ensures.kept_at.1 (last_of g) x.ensures.j_after.0 x.ensures.j_after.1 in
    record { put = o.0; indexed = o.1 }

pub returns-in-None : goal.returns-in-None
returns-in-None c = let x = c.write_head_at in
    let o = head_written c.args.m c.args.k c.args.index c.args.half.now c.args.heads.now c.requires.m_le_most_cores.2 c.args.n c.args.new.now
    c.put_linked.new.half (placed (goal.at.returns-in-None c).After-put_linked) x.new.half x.new.heads c.args.found.bucket c.requires.k_in_bounds.2 (λ j h. (x.ensures.by_index j h).0)
    (rw c.in-None.is at c.requires.k_in_bounds.3) (x.auto.heads ∙ c.requires.m_le_most_cores.4.long) x.ensures.b_after.0 x.ensures.b_after.1
    (λ j h. (x.ensures.by_index j h).1) in
    record { put = o.0; indexed = o.1 }
