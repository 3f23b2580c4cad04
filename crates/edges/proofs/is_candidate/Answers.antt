use native.Mathlib.Omega.{arith}
use Rattle.states.proofs.Bits.{shifted_one}
use Rattle.edges.proofs.Candidates.{candidate_test}
use Rattle.edges.proofs.is_candidate.Goals as goal

pub returns : goal.returns
returns c js p = rw (shifted_one 64 c.args.j (omega arith)) (candidate_test js c.args.j c.args.needed p c.args.set)
