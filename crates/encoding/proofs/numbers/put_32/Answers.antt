use Prim.Native.Nat.{◌+◌, ◌-◌}
use mathlib.Core.Path.{◌≡◌, sym, ap, ◌∙◌}
use native.Mathlib.Omega.{arith}
use borrow.Rule.Slice.PartMut.{put_mid}
use Rattle.words.proofs.Placing.{put_placed}
use Rattle.format.specs.Bytes.{digits}
use Rattle.encoding.proofs.ByBytes.{four_bytes}
use Rattle.encoding.proofs.numbers.put_32.Goals as goal

pub returns : goal.returns
unfolding digits
returns c = let a = c.args in
    let n = a.at + 4 - a.at in
    let bytes : c.copy_from_slice.new.self ≡ digits 4 a.x = c.copy_from_slice.ensures.after ∙ c.to_be_bytes.ensures ∙ sym (four_bytes _) ∙ ap (digits 4) (omega arith) in
    ap (put_mid a.at n a.part.now) bytes ∙ put_placed a.part.now a.at n (digits 4 a.x) (omega arith)
