-- Where the analysis accepts, every job was observed to finish.
use mathlib.Core.Path.{sym}
use Rattle.results.proofs.Accepted.{all_finished}
use Rattle.checker.proofs.analysed.Goals as goal

pub accepting-requires : goal.accepting-requires
accepting-requires c =
    all_finished _ c.analyse.new.seen _ _ _ _ c.requires.0 c.requires.1 c.analyse.ensures.observed (sym c.in-Ok.ensures.seen_after)
