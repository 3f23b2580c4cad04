-- `check_phrase` meets its contract: the file is read, and its phrase is analysed.
use mathlib.Core.Path.{sym, ap, ◌∙◌}
use native.Mathlib.Omega.{arith}
use lib.ListN.{length}
use Rattle.format.specs.Bytes.{AreBytes}
use Rattle.reader.proofs.Handing.{handed_on, phrase_read}
use Rattle.checking.specs.Checking.{used_words, checked_of}
use Rattle.checker.proofs.check_phrase.Goals as goal

pub analysed_phrase-requires : goal.analysed_phrase-requires
analysed_phrase-requires c =
    let bytes : AreBytes c.args.file.now = λ i b. omega (arith, c.type_inv.file i) in
    handed_on c.args.file.now _ bytes (sym c.in-Ok.ensures.value) c.in-Ok.ensures.phrase_after

pub returns-in-Ok-clause-answer : goal.returns-in-Ok-clause-answer
returns-in-Ok-clause-answer c =
    let bytes : AreBytes c.args.file.now = λ i b. omega (arith, c.type_inv.file i) in
    let is = sym (phrase_read c.args.file.now _ bytes (sym c.in-Ok.ensures.value) c.in-Ok.ensures.phrase_after) in
    c.analysed_phrase.ensures.value ∙ ap (λ o. checked_of o (length c.args.table.now)) is

pub returns-in-Ok-clause-table : goal.returns-in-Ok-clause-table
returns-in-Ok-clause-table c =
    let bytes : AreBytes c.args.file.now = λ i b. omega (arith, c.type_inv.file i) in
    let is = sym (phrase_read c.args.file.now _ bytes (sym c.in-Ok.ensures.value) c.in-Ok.ensures.phrase_after) in
    let used = ap (λ o. used_words o (length c.args.table.now)) is in
    rw used at c.analysed_phrase.ensures.table_kept
