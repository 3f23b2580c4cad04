-- `merge_into` meets its contract.
use Rattle.states.proofs.Merges.{merged_set, merged_state}
use Rattle.states.proofs.merging.merge_into.Goals as goal

pub returns : goal.returns
returns c = let m = c.args.m in
    let k = c.args.k in
    let x = c.widen in
    let y = c.widen-2 in record { d_after = merged_state m k c.args.d.now c.args.s.now x.new.d y.new.d c.requires.0 c.requires.1 c.requires.2 x.ensures y.ensures; d_unchanged = merged_set m k c.args.d.now c.args.s.now x.new.d y.new.d c.requires.0 c.requires.1 c.requires.2 x.ensures y.ensures }
