use mathlib.Core.Path.{ap, ◌∙◌}
use Rattle.states.specs.internal.Slots.{set_of, state_of}
use Rattle.store.proofs.Slots.{back_slot, back_others}
use Rattle.store.proofs.put_at.Goals as goal

pub returns : goal.returns
returns c = let m = c.args.m in
    let k = c.args.k in
    let j = c.args.j in
    let half = c.args.half.now in
    let x = c.load_state in
    let e = c.state_words-w.ensures in
    let w = c.state_words-w.result in
    let s = back_slot m k j w e half c.requires.2 x.new.cur x.auto.cur in (
      record { state = ap (state_of m k) s ∙ x.ensures.0; set = ap set_of s ∙ x.ensures.1 },
      back_others m k j w e half c.requires.2 x.new.cur x.auto.cur,
    )
