-- The bytes, once the rest of the jobs is put, are those with all jobs.
use Prim.Native.Nat.{◌+◌}
use mathlib.Core.Path.{refl, ap, ◌∙◌}
use native.Mathlib.Omega.{arith}
use Rattle.format.specs.Layout.{note_bytes}
use Rattle.encoding.proofs.Listed.{taken_place, taken_fits, rest, rest_all, rest_turn}
use Rattle.encoding.proofs.notes.put_listed.Goals as goal

pub loop-i-init : goal.loop-i-init
loop-i-init c = (refl, rest_all c.args.jobs.now c.args.count (1 + note_bytes) c.args.part.now c.requires.2 c.requires.1)

pub put_8-requires : goal.put_8-requires
put_8-requires c = let jobs = c.args.jobs.now in
    let count = c.args.count in
    let i = c.loop-i.i in
    let place = taken_place jobs count _ i c.requires.0 c.loop-i-test.true (omega arith) in
    (omega (arith, place), taken_fits jobs count _ i c.requires.2 c.requires.0 c.loop-i-test.true (omega arith))

pub loop-i-preserved : goal.loop-i-preserved
loop-i-preserved c = let jobs = c.args.jobs.now in
    let count = c.args.count in
    let i = c.loop-i.i in (
      c.put_8.auto.part ∙ c.loop-i.invariant.0,
      ap (λ p. rest jobs count (1 + note_bytes) p (i + 1)) c.put_8.ensures
          ∙ rest_turn jobs count (1 + note_bytes) c.loop-i.part _ i c.requires.0 c.loop-i-test.true (omega arith) ∙ c.loop-i.invariant.1,
    )
