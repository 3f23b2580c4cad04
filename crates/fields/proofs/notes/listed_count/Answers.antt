use native.Mathlib.Omega.{arith}
use Rattle.fields.proofs.ListedJobs.{sized, listed_count_holds, listed_few}
use Rattle.fields.proofs.notes.listed_count.Goals as goal

pub overflow_sub-result : goal.overflow_sub-result
overflow_sub-result c = omega (arith, c.byte-size.ensures.0, (sized c.args.part.now c.requires).0)

pub returns : goal.returns
returns c = let p = c.args.part.now in
    let x = c.requires in
    let e = c.byte-size.ensures.0 in
    (omega (arith, e, listed_count_holds p x), omega (arith, e, listed_count_holds p x, listed_few p x))
