-- A text is never empty, so only a short buffer gives length 0.
use mathlib.Core.Path.{sym, ap, ◌∙◌}
use lib.ListN.{length}
use Rattle.format.specs.Reading.{reading}
use Rattle.report.specs.Report.{text_of}
use Rattle.report.specs.declared.Reported.{Reported}
use Rattle.report.proofs.Delivery.{none_only_short}
use Rattle.report.proofs.Texts.{text_long}
use Rattle.phrase.proofs.phrase_report_with.Goals as goal

pub returns-clause-short : goal.returns-clause-short
returns-clause-short c =
    let words = length c.args.table.now in
    let l = ap (λ (r : Reported). r.length) c.report.ensures.result in
    let short = none_only_short (text_of (reading c.args.file.now) words) c.args.text.now (text_long (reading c.args.file.now) words) in
    λ z. short (sym l ∙ z)
