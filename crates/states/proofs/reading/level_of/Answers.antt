-- `level_of` meets its contract: the ones of the set are its jobs.
use mathlib.Core.Path.{ap, ◌∙◌}
use lib.Count.{ones}
use Rattle.states.proofs.Contents.{set_ones}
use Rattle.states.proofs.reading.level_of.Goals as goal

pub returns : goal.returns
returns c = ap ones c.started_set.ensures ∙ set_ones c.args.m c.args.k c.args.s.now c.requires.1
