use Rattle.store.proofs.Slots.{back_others, back_merged}
use Rattle.store.proofs.merge_at.Goals as goal

pub returns : goal.returns
returns c = let m = c.args.m in
    let k = c.args.k in
    let j = c.args.j in
    let half = c.args.half.now in
    let x = c.merge_into in
    let e = c.state_words-w.ensures in
    let w = c.state_words-w.result in (
      back_merged m k j w e half c.requires.2 x.new.d x.auto.d c.args.new.now x.ensures.d_after x.ensures.d_unchanged,
      back_others m k j w e half c.requires.2 x.new.d x.auto.d,
    )
