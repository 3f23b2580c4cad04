-- `move_ends` meets its contract: the words so far are done.
use native.Mathlib.Omega.{arith}
use Rattle.states.proofs.Pairs.{zip_next, zip_end}
use Rattle.states.proofs.merging.move_ends.Goals as goal

pub loop-i-preserved : goal.loop-i-preserved
loop-i-preserved g c = let t = c.loop-i in
    zip_next g.E.End.outer_of c.args.d.now c.args.s.now t.d t.i c.outer.result c.requires t.invariant (omega arith) c.outer.ensures

pub returns : goal.returns
returns g c = let t = c.loop-i in
    zip_end g.E.End.outer_of c.args.d.now c.args.s.now t.d t.i t.invariant (omega arith)
