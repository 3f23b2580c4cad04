use Prim.Native.Nat.{◌^◌, ◌<◌}
use mathlib.Core.Path.{◌≡◌, ap, ◌∙◌}
use native.Mathlib.Omega.{arith}
use Rattle.states.specs.internal.Slots.{set_of}
use Rattle.links.specs.internal.Spare.{spare_of}
use Rattle.links.proofs.Spare.{kept_at, written_at, other_at}
use Rattle.links.proofs.write_spare_word.Goals as goal

pub returns : goal.returns
returns g c = let a = c.args in
    let p = c.requires in
    let i = c.spare_job.result in
    let at = g.E.End.at in
    let spare : i ≡ spare_of (set_of a.s.now) = c.spare_job.ensures ∙ ap spare_of c.started_set.ensures in
    let fits : set_of a.s.now < 2 ^ 64 = omega (arith, c.started_set.ensures) in
    let which = g.met.E.End.either a.m a.k in
    record {
      kept = kept_at a.m a.k a.s.now i a.word p.1 p.2 fits spare p.3 at which _ (omega (arith, c.first_word.ensures));
      s_after = (
        written_at a.m a.k a.s.now i a.word p.1 p.2 fits spare p.3 at which _ (omega (arith, c.first_word.ensures)) (g.met.E.End.inside a.m a.k),
        other_at a.m a.k a.s.now i a.word p.1 p.2 fits spare p.3 at which _ (omega (arith, c.first_word.ensures)),
      );
    }
