use mathlib.Core.Path.{◌≡◌, ap, ◌∙◌}
use Prim.Native.Nat.{◌+◌, ◌-◌, ◌*◌}
use native.Mathlib.Omega.{arith}
use lib.ListN.{length}
use borrow.Rule.Slice.PartMut.{put_mid}
use Rattle.words.proofs.Placing.{put_placed}
use Rattle.format.specs.Layout.{first}
use Rattle.format.specs.Reading.{note_in}
use Rattle.rows.specs.NoteRow.{note_words, note_row_on}
use Rattle.rows.specs.PhraseTable.{note_rows_at}
use Rattle.rows.proofs.NoteRow.{row_length}
use Rattle.fields.proofs.ListedJobs.{listed_few}
use Rattle.records.proofs.notes.put_note.Goals as goal

pub returns : goal.returns
returns c = let p = c.args.part.now in
    let t = c.args.phrase.now in
    let at = note_rows_at + c.args.own * note_words in
    let row = note_row_on c.args.bell (note_in first p) in
    let wide : length row ≡ at + note_words - at = omega (arith, row_length c.args.bell (note_in first p) (listed_few p c.requires.0)) in
    ap (put_mid at (at + note_words - at) t) c.write_note.ensures ∙ put_placed t at (at + note_words - at) row wide
