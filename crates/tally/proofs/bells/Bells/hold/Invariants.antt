use Prim.Native.Nat.{◌*◌, ◌≤◌}
use mathlib.Core.Path.{◌≡◌}
use Rattle.model.specs.Limits.{most_jobs}
use Rattle.tally.specs.internal.Counted.{all_hold_in}
use Rattle.tally.proofs.bells.Bells.hold.Given as goal

abbrev pub invariant-loop-b : goal.invariant-loop-b
invariant-loop-b l = (l.total ≡ all_hold_in l.self.phrase.now l.self.counts.now l.b) × (l.total ≤ l.b * (most_jobs * 4294967295))
