-- The records of the first i notes are in their places.
use Prim.Native.Nat.{◌+◌, ◌-◌, ◌*◌, ◌≤◌}
use mathlib.Core.Path.{refl, sym, ap, ◌∙◌}
use native.Mathlib.Omega.{arith}
use lib.ListN.{length, get_or}
use borrow.Rule.Slice.PartMut.{put_mid, same_len_mid}
use Rattle.format.specs.Bytes.{records}
use Rattle.format.specs.Layout.{first, most_listed}
use Rattle.format.specs.Writing.{note_file}
use Rattle.rows.specs.NoteRow.{note_words, listed_count_word}
use Rattle.rows.specs.PhraseTable.{note_rows_at}
use Rattle.writer.proofs.PutRecords.{put_none, put_all}
use Rattle.writer.proofs.PutNotes.{notes, notes_count, lent, size_of, lent_few, note_fits, note_put_holds, note_next, note_within}
use borrow.Author.Rules.{rules}
use Rattle.writer.proofs.putting.put_notes.Goals as goal
use Rattle.writer.proofs.putting.put_notes.Goals.{In-loop-i}

few : (c : In-loop-i) → get_or (let from = note_rows_at + c.loop-i.i * note_words in lent c.args.phrase.now c.loop-i.i (from + note_words - from)) listed_count_word 0 ≤ most_listed
few c =
    let from = note_rows_at + c.loop-i.i * note_words in
    lent_few c.args.phrase.now c.args.count c.requires.0 c.requires.1 c.requires.3 c.loop-i.i c.loop-i-test.true (from + note_words - from) (omega arith)

room : (c : In-loop-i) → let l = c.loop-i in l.at + size_of (let from = note_rows_at + c.loop-i.i * note_words in lent c.args.phrase.now c.loop-i.i (from + note_words - from)) ≤ length l.file
room c =
    let from = note_rows_at + c.loop-i.i * note_words in
    omega (
      arith,
      c.loop-i.invariant.0,
      c.loop-i.invariant.1,
      c.requires.2,
      note_within c.args.phrase.now c.args.count c.requires.0 c.requires.1 c.requires.3 c.loop-i.i c.loop-i-test.true
          (from + note_words - from) (omega arith) c.args.start,
    )

pub loop-i-init : goal.loop-i-init
unfolding records
loop-i-init c = let a = c.args in
    (refl, omega arith, sym (put_none (note_file first) (notes a.phrase.now a.count) a.start a.file.now))

pub overflow_add-end-in-loop-i-2 : goal.overflow_add-end-in-loop-i-2
overflow_add-end-in-loop-i-2 c = omega (arith, room (goal.at.overflow_add-end-in-loop-i-2 c).In-loop-i)

pub slice_bounds-put_note-end : goal.slice_bounds-put_note-end
slice_bounds-put_note-end c = omega (arith, room (goal.at.slice_bounds-put_note-end c).In-loop-i)

pub put_note-requires : goal.put_note-requires
put_note-requires c = let from = note_rows_at + c.loop-i.i * note_words in (
  search rules,
  few (goal.at.put_note-requires c).In-loop-i,
  search rules,
  note_fits c.args.phrase.now c.args.count c.requires.0 c.requires.1 c.requires.3 c.loop-i.i c.loop-i-test.true
      (from + note_words - from) (omega arith),
)

pub loop-i-preserved : goal.loop-i-preserved
loop-i-preserved c = let v = c.loop-i in
    let phrase = c.args.phrase.now in
    let n = c.args.count in
    let start = c.args.start in
    let h = c.loop-i-test.true in
    let from = note_rows_at + v.i * note_words in
    let m = from + note_words - from in
    let k = v.at + size_of (let from = note_rows_at + c.loop-i.i * note_words in lent c.args.phrase.now c.loop-i.i (from + note_words - from)) - v.at in
    let ws = c.put_note.new.part in (
      same_len_mid v.at k v.file ws c.put_note.auto.part ∙ v.invariant.0,
      omega (arith, v.invariant.1, note_next phrase n c.requires.0 c.requires.1 c.requires.3 v.i h m (omega arith) start),
      ap (λ was. put_mid v.at k was ws) v.invariant.2
          ∙ note_put_holds phrase n c.requires.0 c.requires.1 c.requires.3 v.i h m (omega arith) start c.args.file.now (omega arith) v.at k v.invariant.1
          (omega arith) ws c.put_note.ensures,
    )

pub returns : goal.returns
returns c = let a = c.args in
    let ns = notes a.phrase.now a.count in
    let last : length ns ≤ c.loop-i.i = omega (arith, notes_count a.phrase.now a.count) in
    c.loop-i.invariant.2 ∙ put_all (note_file first) ns a.start a.file.now c.loop-i.i last
