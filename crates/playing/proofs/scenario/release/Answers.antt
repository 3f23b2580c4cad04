use borrow.Author.Rules.{rules}
use Rattle.playing.specs.Playing.{scenario_in}
use Rattle.playing.proofs.scenario.release.Goals as goal

pub returns : goal.returns
unfolding scenario_in
returns c = search rules
