-- `analysed_phrase` meets its contract: the rows that are made of the table are those of the phrase's jobs.
use mathlib.Core.Path.{◌∙◌}
use lib.ListN.{length}
use Rattle.jobset.proofs.Made.{handed}
use Rattle.checker.proofs.Readings.{result_is, used_is}
use Rattle.checker.proofs.analysed_phrase.Goals as goal

pub analysed-requires : goal.analysed-requires
analysed-requires c =
    handed c.args.phrase.now c.requires _ _ c.write_jobs.ensures _ _ c.header_word-m.ensures c.header_word-k.ensures

pub returns-clause-value : goal.returns-clause-value
returns-clause-value c =
    c.analysed.ensures.value
    ∙ result_is c.args.phrase.now c.requires _ _ c.write_jobs.ensures _ _ c.header_word-m.ensures c.header_word-k.ensures (length c.args.table.now)

pub returns-clause-table_kept : goal.returns-clause-table_kept
returns-clause-table_kept c =
    let used = used_is c.args.phrase.now c.requires _ _ c.write_jobs.ensures _ _ c.header_word-m.ensures c.header_word-k.ensures (length c.args.table.now) in
    rw used at c.analysed.ensures.table_unchanged
