use mathlib.Core.Path.{sym, ◌∙◌}
use Prim.Native.Nat.{◌<◌}
use native.Mathlib.Omega.{arith}
use lib.ListN.{length}
use Rattle.fields.proofs.ListedJobs.{listed_in, listed_count_holds, listed_job}
use Rattle.fields.proofs.notes.listed_job.Goals as goal

pub byte-requires : goal.byte-requires
byte-requires c = omega (arith, c.if-listed_count-j.false, c.listed_count.ensures.0, listed_count_holds c.args.part.now c.requires.0, c.requires.0.whole)

pub returns : goal.returns
returns c = let p = c.args.part.now in
    let less : c.args.j < length (listed_in p) = omega (arith, c.if-listed_count-j.false, c.listed_count.ensures.0) in
    c.byte.ensures.0 ∙ sym (listed_job p c.requires.0 c.args.j less)
