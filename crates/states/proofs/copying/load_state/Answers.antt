-- `load_state` meets its contract: what is read of a state is copied.
use Prim.Native.Nat.{◌-◌}
use mathlib.Core.Path.{◌≡◌, ap, ◌∙◌}
use native.Mathlib.Omega.{arith}
use lib.ListN.{take}
use borrow.Rule.Slice.PartMut.{post_of}
use Rattle.model.specs.Exploration.{state_words}
use Rattle.states.proofs.Copies.{copied_state, copied_set}
use Rattle.states.proofs.copying.load_state.Goals as goal

pub returns : goal.returns
returns c = let m = c.args.m in
    let k = c.args.k in
    let src = c.args.src.now in
    let w = c.state_words-w.result in
    let n : w - 0 ≡ state_words m k = omega (arith, c.state_words-w.ensures) in
    let out = c.copy_from_slice.new.self in
    let rest = post_of 0 (w - 0) c.args.cur.now in
    let copied : out ≡ take (state_words m k) src = c.copy_from_slice.ensures.after ∙ ap (λ z. take z src) n in
    (copied_state m k src out rest c.requires.3 copied, copied_set m k src out rest c.requires.3 copied)
