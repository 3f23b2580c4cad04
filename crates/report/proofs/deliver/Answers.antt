-- the text is written where it has room
use mathlib.Core.Path.{◌∙◌}
use native.Mathlib.Omega.{arith}
use Rattle.report.specs.internal.Composed.{text_in}
use Rattle.report.proofs.Delivery.{whole_placed}
use Rattle.report.proofs.deliver.Goals as goal

pub returns-clause-text_after : goal.returns-clause-text_after
returns-clause-text_after c =
    let text = text_in c.args.checked.answer c.args.checked c.args.phrase.now in
    c.put_text-length.ensures.holds ∙ whole_placed text c.args.text.now (omega (arith, c.text_length-needed.ensures.0))
