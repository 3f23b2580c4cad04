use mathlib.Core.Path.{◌≡◌, ap, ◌∙◌}
use Rattle.states.specs.internal.Slots.{set_of}
use Rattle.links.specs.internal.Spare.{spare_of, word_of}
use Rattle.links.proofs.spare_word.Goals as goal

pub returns : goal.returns
unfolding word_of
returns g c =
    let spare : c.spare_job.result ≡ spare_of (set_of c.args.s.now) = c.spare_job.ensures ∙ ap spare_of c.started_set.ensures in
    rw (c.first_word.ensures, spare)
