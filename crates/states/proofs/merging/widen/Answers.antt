-- `widen` meets its contract.
use Prim.Native.Nat.{◌+◌, ◌-◌}
use mathlib.Core.Path.{◌≡◌, ◌∙◌}
use native.Mathlib.Omega.{arith}
use lib.ListN.{length}
use borrow.Rule.Slice.PartMut.{put_mid}
use Rattle.words.proofs.Parts.{part_length, length_put}
use Rattle.states.proofs.Merges.{widened}
use Rattle.states.proofs.merging.widen.Goals as goal

pub returns : goal.returns
returns c = let a = c.args.a in
    let n = c.args.n in
    let d = c.args.d.now in
    let x = c.move_ends in
    let y = c.move_ends-2 in
    let p : a + n - a ≡ n = omega arith in
    let q : a + n + n - (a + n) ≡ n = omega arith in
    let lx : length x.new.d ≡ n = rw p at x.auto.d ∙ part_length a n d (omega (arith, c.requires)) in
    let ly : length y.new.d ≡ n = rw (p, q) at y.auto.d ∙ part_length (a + n) n (put_mid a n d x.new.d) (omega (arith, c.requires, length_put a n d x.new.d (omega (arith, c.requires)) lx)) in
    rw (p, q) (widened a n d c.args.s.now x.new.d y.new.d c.requires.0 lx ly (rw p at x.ensures) (rw (p, q) at y.ensures))
