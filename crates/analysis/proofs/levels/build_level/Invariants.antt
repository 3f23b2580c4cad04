use mathlib.Core.Path.{◌≡◌}
use lib.ListN.{length}
use Rattle.model.specs.Limits.{most_cores, most_jobs}
use Rattle.model.specs.Exploration.{state_words}
use Rattle.analysis.proofs.Building.{Building}
use Rattle.analysis.proofs.levels.build_level.Given as goal

abbrev pub invariant-loop-j : goal.invariant-loop-j
invariant-loop-j l = Building l.rows l.shape.jobs l.shape.cores l.shape.capacity l.shape.index l.from l.to l.n l.initial.table l.initial.seen l.table l.seen l.heads l.built l.j
    × (length l.cur ≡ state_words most_cores most_jobs)
