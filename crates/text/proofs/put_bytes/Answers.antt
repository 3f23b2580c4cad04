-- `put_bytes` meets its contract: the bytes so far are those of the text.
use Prim.Native.Nat.{ℕ, ◌+◌}
use mathlib.Core.Path.{◌≡◌, refl, ◌∙◌}
use mathlib.Core.List.{append_assoc}
use native.Mathlib.Numerals.{add-one}
use native.Mathlib.Omega.{arith}
use lib.ListN.{get_or, length, take, drop, set, length-set}
use lib.Seq.{paste, paste-suc, take-length}
use Rattle.words.specs.internal.Placed.{placed}
use Rattle.text.proofs.put_bytes.Goals as goal

pub loop-i-preserved : goal.loop-i-preserved
loop-i-preserved c = let l = c.loop-i in
    let a = c.args in
    let put : (x : ℕ) → x ≡ get_or a.s.now l.i 0 → set l.buffer (a.at + l.i) x ≡ paste a.buffer.now a.at a.s.now (l.i + 1) =
    λ x e. rw (e, l.invariant.1, add-one) (paste-suc a.buffer.now a.at a.s.now l.i 0 (omega arith) (omega arith)) in
    (simp length-set l.invariant.0, put _ (omega arith))

pub returns : goal.returns
unfolding placed
returns c = let a = c.args in
    let p = a.buffer.now in
    let s = a.s.now in
    let e : c.loop-i.i ≡ length s = omega arith in
    record { ended = refl; holds = c.loop-i.invariant.1 ∙ rw (e, take-length) (append_assoc (take a.at p) s (drop (a.at + length s) p)) }
