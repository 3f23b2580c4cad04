use mathlib.Core.Path.{◌≡◌, ap, ◌∙◌}
use Prim.Native.Nat.{◌+◌, ◌-◌, ◌*◌}
use native.Mathlib.Omega.{arith}
use lib.ListN.{length}
use borrow.Rule.Slice.PartMut.{put_mid}
use Rattle.format.specs.Reading.{bell_in}
use Rattle.fields.specs.internal.Layouts.{layout_of}
use Rattle.rows.specs.BellRow.{bell_words, bell_row}
use Rattle.rows.specs.PhraseTable.{bell_rows_at}
use Rattle.words.proofs.Placing.{put_placed}
use Rattle.rows.proofs.BellRow.{row_length}
use Rattle.records.proofs.bells.put_bell.Goals as goal

pub returns : goal.returns
returns c = let a = c.args in
    let at = bell_rows_at + a.i * bell_words in
    let bell = bell_in (layout_of a.l) a.part.now in
    let row = bell_row bell in
    let l : length row ≡ at + bell_words - at = omega (arith, row_length bell) in
    ap (put_mid at (at + bell_words - at) a.phrase.now) c.write_bell.ensures ∙ put_placed a.phrase.now at (at + bell_words - at) row l
