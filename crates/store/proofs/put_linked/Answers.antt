use Prim.Native.Nat.{ℕ, ◌+◌, ◌*◌, ◌≤◌}
use mathlib.Core.Path.{ap, ◌∙◌}
use native.Mathlib.Omega.{arith}
use lib.ListN.{length, get_or}
use Rattle.model.specs.Exploration.{state_words}
use Rattle.states.specs.internal.Slots.{latest_at}
use Rattle.store.proofs.Slots.{back, others_on, spare_written}
use Rattle.store.proofs.put_linked.Goals as goal
use Rattle.store.proofs.put_linked.Goals.{After-put_at}

-- the slot lies within what the state was put into
fits₁ : (c : After-put_at) → c.args.j * state_words c.args.m c.args.k + state_words c.args.m c.args.k ≤ length c.put_at.new.half
fits₁ c = omega (arith, c.requires.2, c.put_at.auto.half)

pub returns : goal.returns
returns c = let m = c.args.m in
    let k = c.args.k in
    let j = c.args.j in
    let w = c.state_words-w.result in
    let e = c.state_words-w.ensures in
    let x = c.put_at in
    let half₁ = x.new.half in
    let h₁ = fits₁ (goal.at.returns c).After-put_at in
    let y = c.write_spare_word in
    let z = c.write_spare_word-2 in
    let half = c.args.half.now in
    let s =
    spare_written m k j w e half₁ h₁ y.new.s y.auto.s z.new.s z.auto.s 0 (get_or half (j * w) 0) y.ensures.kept y.ensures.s_after.0
    z.ensures.kept (z.ensures.s_after.1 latest_at (λ e. omega (arith, e, c.requires.4))) z.ensures.s_after.0 in record {
      put = (
        record { state = s.kept.state ∙ x.ensures.0.state; set = s.kept.set ∙ x.ensures.0.set },
        others_on m k j half half₁ (back j w (back j w half₁ y.new.s) z.new.s) x.auto.half x.ensures.1 s.others,
      );
      j_after = (s.its_link, s.its_head ∙ ap (λ (v : ℕ). get_or half (j * v) 0) e);
    }
