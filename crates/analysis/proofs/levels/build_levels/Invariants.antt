use mathlib.Core.Path.{◌≡◌}
use lib.ListN.{length}
use Rattle.store.specs.internal.Index.{head_room}
use Rattle.analysis.proofs.LevelsBuilt.{LevelsBuilt}
use Rattle.analysis.proofs.levels.build_levels.Given as goal

abbrev pub invariant-loop-depth : goal.invariant-loop-depth
invariant-loop-depth l = LevelsBuilt l.rows l.k l.m l.cap l.initial.table l.table l.seen l.from l.to l.n l.count l.depth × (length l.heads ≡ head_room)
