use Prim.Native.Nat.{◌+◌, ◌-◌}
use mathlib.Core.Path.{◌≡◌, ap, ◌∙◌}
use native.Mathlib.Omega.{arith}
use borrow.Rule.Slice.PartMut.{put_mid}
use Rattle.words.proofs.Placing.{put_placed}
use Rattle.format.specs.Bytes.{digits}
use Rattle.encoding.proofs.numbers.put_16.Goals as goal

pub returns : goal.returns
unfolding digits
returns c = let a = c.args in
    let n = a.at + 2 - a.at in
    let bytes : c.copy_from_slice.new.self ≡ digits 2 a.x = c.copy_from_slice.ensures.after ∙ c.to_be_bytes.ensures ∙ ap (digits 2) (omega arith) in
    ap (put_mid a.at n a.part.now) bytes ∙ put_placed a.part.now a.at n (digits 2 a.x) (omega arith)
