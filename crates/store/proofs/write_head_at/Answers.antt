use Prim.Native.Nat.{◌+◌, ◌*◌, ◌≤◌, ◌<◌}
use mathlib.Core.Path.{ap, ◌∙◌}
use native.Mathlib.Omega.{arith}
use lib.ListN.{length}
use Rattle.model.specs.Exploration.{state_words}
use Rattle.states.specs.internal.Slots.{latest_at}
use Rattle.links.specs.internal.Spare.{link_of, head_of}
use Rattle.store.specs.internal.Index.{head_room}
use Rattle.store.proofs.Storing.{slot_fits}
use Rattle.store.proofs.Slots.{lent_slot, back, back_slot, back_others, back_kept, written_linked, written_free}
use Rattle.store.proofs.write_head_at.Goals as goal
use Rattle.store.proofs.write_head_at.Goals.{After-state_words-w, Else-index-le-HEAD_ROOM}

-- heads stand in slots
many : (c : Else-index-le-HEAD_ROOM) → head_room < c.args.index.buckets
many c = omega arith

-- so slot b lies within
slot : (c : After-state_words-w) → c.args.b * state_words c.args.m c.args.k + state_words c.args.m c.args.k ≤ length c.args.half.now
slot c =
    let fits = c.requires.2 in
    omega (
      arith,
      slot_fits c.args.b c.args.index.linked (state_words c.args.m c.args.k) (omega (arith, c.requires.6, fits.in_slots (omega arith))),
      fits.inside,
    )

pub returns-then-b-used : goal.returns-then-b-used
returns-then-b-used c = let m = c.args.m in
    let k = c.args.k in
    let b = c.args.b in
    let half = c.args.half.now in
    let w = c.state_words-w.result in
    let e = c.state_words-w.ensures in
    let h = slot (goal.at.returns-then-b-used c).After-state_words-w in
    let x = c.write_spare_word in
    let p = lent_slot m k b w e half h in
    let s = back_slot m k b w e half h x.new.s x.auto.s in
    let o = written_linked m k c.args.index half c.args.heads.now c.args.used b c.args.head c.requires.2 c.requires.5 (many (goal.at.returns-then-b-used c).Else-index-le-HEAD_ROOM) c.requires.6
    (back b w half x.new.s) (back_others m k b w e half h x.new.s x.auto.s) (omega arith)
    (back_kept m k b w e half h x.new.s x.auto.s x.ensures.kept) (ap (link_of m k) s ∙ x.ensures.s_after.1 latest_at (λ e. omega (arith, e, c.requires.4 b (omega arith))) ∙ ap (link_of m k) p)
    (ap (head_of m k) s ∙ x.ensures.s_after.0) in
    record { b_after = o.0; by_index = o.1 }

pub returns : goal.returns
returns c = let o = written_free c.args.m c.args.k c.args.index c.args.half.now c.args.heads.now c.args.used c.args.b c.args.head
    c.state_words-w.result c.state_words-w.ensures c.requires.2 c.requires.5 (many (goal.at.returns c).Else-index-le-HEAD_ROOM) c.requires.6 (omega arith) in
    record { b_after = o.0; by_index = o.1 }
