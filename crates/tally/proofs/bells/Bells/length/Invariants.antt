use Prim.Native.Nat.{◌*◌, ◌≤◌}
use mathlib.Core.Path.{◌≡◌}
use lib.ListN.{length}
use Rattle.lines.specs.internal.Longest.{longest_bell}
use Rattle.tally.specs.internal.Counted.{bells_text_in}
use Rattle.tally.proofs.bells.Bells.length.Given as goal

abbrev pub invariant-loop-b : goal.invariant-loop-b
invariant-loop-b l = (l.total ≡ length (bells_text_in l.self.phrase.now l.self.counts.now l.b)) × (l.total ≤ l.b * longest_bell)
