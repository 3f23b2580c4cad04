use mathlib.Core.Path.{sym, ◌∙◌}
use native.Mathlib.Omega.{arith}
use Rattle.jobs.proofs.Jobs.{predecessor_of, predecessor_below}
use Rattle.jobs.proofs.predecessor.Goals as goal

pub returns : goal.returns
returns c = (
  c.word_at.ensures ∙ sym (predecessor_of c.args.rows.now c.args.k c.args.i c.requires.0 c.requires.2 c.args.j c.requires.1),
  omega (arith, c.word_at.ensures, predecessor_below c.args.rows.now c.args.k c.args.i c.requires.0 c.requires.2 c.args.j c.requires.1),
)
