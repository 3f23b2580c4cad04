use native.Mathlib.Omega.{arith}
use Rattle.model.specs.Edges.{earliest_start}
use Rattle.edges.proofs.Edges.{first_possibly}
use Rattle.edges.proofs.earliest_start.Goals as goal

pub returns : goal.returns
unfolding earliest_start
returns c = omega (arith, c.max.ensures, c.ready.ensures, first_possibly c.args.m c.args.k c.args.s.now c.requires.1.setting.cores)
