-- `put_totals` meets its contract.
use Prim.Native.Nat.{◌≤◌}
use native.Mathlib.Omega.{arith}
use Rattle.format.specs.Layout.{most_bells}
use Rattle.text.proofs.Writing.{within, room_first, more}
use Rattle.tally.specs.internal.Counted.{Few}
use Rattle.tally.proofs.Counted.{few_tallied}
use Rattle.tally.proofs.put_totals.Goals as goal
use Rattle.tally.proofs.put_totals.Goals.{After-header_word-n}

rows : (c : After-header_word-n) → (c.header_word-n.result ≤ most_bells) × Few c.tally-counts.result
rows c =
    (omega (arith, c.header_word-n.ensures, c.requires.0.1), rw c.tally-counts.ensures (few_tallied c.args.phrase.now c.args.k c.requires.0.0))

pub put-end-requires : goal.put-end-requires
put-end-requires c = let r = rows (goal.at.put-end-requires c).After-header_word-n in
    (r.0, r.1, rw (c.tally-counts.ensures, c.header_word-n.ensures) (room_first _ _ c.requires.1))

pub hold-requires : goal.hold-requires
hold-requires c = rows (goal.at.hold-requires c).After-header_word-n

pub returns : goal.returns
returns c = let bells = rw (c.tally-counts.ensures, c.header_word-n.ensures) at c.put-end.ensures in
    let last = rw (c.hold.ensures, c.tally-counts.ensures, c.header_word-n.ensures) at c.put_last.ensures in
    more (within c.requires.1) bells last
