-- `can_merge` meets its contract.
use Prim.Native.Nat.{◌+◌, ◌-◌}
use mathlib.Core.Path.{◌≡◌, sym, ◌∙◌}
use native.Mathlib.Omega.{arith}
use lib.Dec.{leb}
use Rattle.model.specs.Folds.{every_two}
use Rattle.words.specs.internal.Parts.{part}
use Rattle.states.specs.internal.Slots.{possibly_at, certainly_at, set_of}
use Rattle.states.proofs.Merges.{other_set_holds, one_set}
use Rattle.states.proofs.merging.can_merge.Goals as goal
use Rattle.states.proofs.merging.can_merge.Goals.{After-all_at_most, Else-started_set}

same : (c : Else-started_set) → set_of c.args.a.now ≡ set_of c.args.b.now
same c = sym c.started_set.ensures ∙ c.if-started_set.false ∙ c.started_set-2.ensures

lower : (c : After-all_at_most) → c.all_at_most.result ≡ every_two leb (part possibly_at c.args.m c.args.a.now) (part (certainly_at c.args.m) c.args.m c.args.b.now)
lower c =
    let m = c.args.m in
    let p : 2 + m - 2 ≡ m = omega arith in
    let q : 2 + m + m - (2 + m) ≡ m = omega arith in
    rw (p, q) at c.all_at_most.ensures

pub returns-then-started_set : goal.returns-then-started_set
returns-then-started_set c = let n : set_of c.args.a.now ≡ set_of c.args.b.now → ⊥ = λ e. c.if-started_set.true (c.started_set.ensures ∙ e ∙ sym c.started_set-2.ensures) in
    sym (other_set_holds c.args.m c.args.k c.args.a.now c.args.b.now c.requires.2 c.requires.3 n)

pub returns-then-not-all_at_most : goal.returns-then-not-all_at_most
returns-then-not-all_at_most c = let l = sym (lower (goal.at.returns-then-not-all_at_most c).After-all_at_most) ∙ c.if-not-all_at_most.true in
    sym (one_set c.args.m c.args.k c.args.a.now c.args.b.now c.requires.2 c.requires.3 (same (goal.at.returns-then-not-all_at_most c).Else-started_set) ∙ rw l)

pub returns : goal.returns
returns c = let p : 2 + c.args.m - 2 ≡ c.args.m = omega arith in
    let q : 2 + c.args.m + c.args.m - (2 + c.args.m) ≡ c.args.m = omega arith in
    let l = sym (lower (goal.at.returns c).After-all_at_most) ∙ c.if-not-all_at_most.false in
    rw (p, q) at c.all_at_most-2.ensures ∙ sym (one_set c.args.m c.args.k c.args.a.now c.args.b.now c.requires.2 c.requires.3 (same (goal.at.returns c).Else-started_set) ∙ rw l)
