-- `tally` meets its contract: the counts so far are those of the notes so far.
use Prim.Native.Nat.{ℕ, ◌+◌, ◌<◌}
use mathlib.Core.Path.{ap, ◌∙◌}
use mathlib.Core.List.{List}
use native.Mathlib.Omega.{arith}
use lib.ListN.{get_or, set}
use Rattle.format.specs.Layout.{most_bells}
use Rattle.tally.proofs.Counted.{tallied_none, tallied_few, tallied_next}
use Rattle.tally.proofs.bells.tally.Goals as goal
use Rattle.tally.proofs.bells.tally.Goals.{After-note_word-bell}

row : (c : After-note_word-bell) → c.note_word-bell.result < most_bells
row c = omega (arith, c.note_word-bell.ensures, c.requires.1 c.loop-i.i (omega arith))

pub loop-i-init : goal.loop-i-init
loop-i-init c = tallied_none c.args.phrase.now

pub overflow_add-counts : goal.overflow_add-counts
overflow_add-counts c = let v = c.loop-i in
    let few = tallied_few c.args.phrase.now v.i c.note_word-bell.result (row c) in
    let here = ap (λ l. get_or l c.note_word-bell.result 0) v.invariant in
    omega (arith, few, here, c.requires.0)

pub loop-i-preserved : goal.loop-i-preserved
loop-i-preserved c = let v = c.loop-i in
    let t = c.args.phrase.now in
    let one : List ℕ → ℕ → List ℕ = λ l b. set l b (get_or l b 0 + 1) in
    (λ n. one (v.invariant n) (c.note_word-bell.ensures n)) ∙ tallied_next t v.i (c.requires.1 v.i (omega arith))
