use mathlib.Core.Path.{ap, ◌∙◌}
use native.Mathlib.Omega.{arith}
use Rattle.states.specs.internal.Slots.{latest_at}
use Rattle.links.specs.internal.Spare.{link_of, head_of}
use Rattle.store.proofs.Slots.{back, lent_slot, back_others, back_length, back_fits, back_merged, others_on, spare_written}
use Rattle.store.proofs.merge_linked.Goals as goal

pub returns : goal.returns
returns c = let m = c.args.m in
    let k = c.args.k in
    let j = c.args.j in
    let half = c.args.half.now in
    let w = c.state_words-w.result in
    let e = c.state_words-w.ensures in
    let x = c.merge_into in
    let h₁ = back_fits m k j w e half c.requires.2 x.new.d x.auto.d in
    let half₁ = back j w half x.new.d in
    let y = c.write_spare_word in
    let z = c.write_spare_word-2 in
    let link = c.spare_word-link in
    let head = c.spare_word-head in
    let p = lent_slot m k j w e half c.requires.2 in
    let merged = back_merged m k j w e half c.requires.2 x.new.d x.auto.d c.args.new.now x.ensures.d_after x.ensures.d_unchanged in
    let s =
    spare_written m k j w e half₁ h₁ y.new.s y.auto.s z.new.s z.auto.s link.result head.result y.ensures.kept y.ensures.s_after.0
    z.ensures.kept (z.ensures.s_after.1 latest_at (λ e. omega (arith, e, c.requires.5))) z.ensures.s_after.0 in record {
      merged_at = (
        record { state = s.kept.state ∙ merged.state; set = s.kept.set ∙ merged.set },
        others_on m k j half half₁ (back j w (back j w half₁ y.new.s) z.new.s) (back_length m k j w e half c.requires.2 x.new.d x.auto.d)
            (back_others m k j w e half c.requires.2 x.new.d x.auto.d) s.others,
      );
      spare_kept = record { link = s.its_link ∙ link.ensures ∙ ap (link_of m k) p; head = s.its_head ∙ head.ensures ∙ ap (head_of m k) p };
    }
