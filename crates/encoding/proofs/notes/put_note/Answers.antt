use Prim.Native.Nat.{◌+◌}
use mathlib.Core.Path.{◌≡◌, ◌∙◌}
use native.Mathlib.Omega.{arith}
use lib.ListN.{get_or, take, replicate}
use Rattle.words.specs.internal.Placed.{placed}
use Rattle.format.specs.Bytes.{fields_file}
use Rattle.format.specs.Layout.{note_bytes}
use Rattle.rows.specs.NoteRow.{listed_count_word}
use Rattle.encoding.proofs.Fields.{puts}
use Rattle.encoding.proofs.NoteOfRow.{five_widths, five_fields, lent, note_placed}
use Rattle.encoding.proofs.notes.put_note.Goals as goal

pub returns : goal.returns
returns c = let row = c.args.row.now in
    let t = c.args.part.now in
    let count = get_or row listed_count_word 0 in
    let five : c.put_32-3.new.part ≡ puts t 0 five_widths (five_fields row (note_bytes + count)) =
    rw (c.put_32-3.ensures, c.put_32-2.ensures, c.put_32.ensures, c.put_8-2.ensures, c.put_8.ensures) in
    let same : c.min-listed.result ≡ count = omega (arith, c.min-listed.ensures) in
    c.put_listed.ensures
    ∙ (λ i. placed (five i) (1 + note_bytes) (fields_file (replicate (same i) 1) (take (same i) (lent row))))
    ∙ note_placed row c.requires.0 c.requires.1 c.requires.3 t c.requires.2
