use mathlib.Core.Path.{ap, ◌∙◌}
use native.Mathlib.Omega.{arith}
use Rattle.states.specs.internal.Slots.{earliest_at}
use Rattle.links.specs.internal.Spare.{link_of, head_of}
use Rattle.store.proofs.Slots.{lent_slot, back_slot, back_others, back_kept}
use Rattle.store.proofs.link_at.Goals as goal

pub returns : goal.returns
returns c = let m = c.args.m in
    let k = c.args.k in
    let j = c.args.j in
    let half = c.args.half.now in
    let x = c.write_spare_word in
    let e = c.state_words-w.ensures in
    let w = c.state_words-w.result in
    let p = lent_slot m k j w e half c.requires.2 in
    let s = back_slot m k j w e half c.requires.2 x.new.s x.auto.s in record { kept_at = (back_kept m k j w e half c.requires.2 x.new.s x.auto.s x.ensures.kept, back_others m k j w e half c.requires.2 x.new.s x.auto.s); j_after = (ap (link_of m k) s ∙ x.ensures.s_after.0, ap (head_of m k) s ∙ x.ensures.s_after.1 (λ m k. earliest_at m) (λ e. omega (arith, e, c.requires.3)) ∙ ap (head_of m k) p) }
