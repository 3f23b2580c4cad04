-- `totals_length` meets its contract.
use Prim.Native.Nat.{◌≤◌}
use native.Mathlib.Omega.{arith}
use Rattle.format.specs.Layout.{most_bells}
use Rattle.tally.specs.internal.Counted.{Few}
use Rattle.tally.proofs.Counted.{few_tallied}
use Rattle.tally.proofs.totals_length.Goals as goal
use Rattle.tally.proofs.totals_length.Goals.{After-header_word-n}

rows : (c : After-header_word-n) → (c.header_word-n.result ≤ most_bells) × Few c.tally-counts.result
rows c =
    (omega (arith, c.header_word-n.ensures, c.requires.1), rw c.tally-counts.ensures (few_tallied c.args.phrase.now c.args.k c.requires.0))

pub length-requires : goal.length-requires
length-requires c = rows (goal.at.length-requires c).After-header_word-n

pub hold-requires : goal.hold-requires
hold-requires c = rows (goal.at.hold-requires c).After-header_word-n
