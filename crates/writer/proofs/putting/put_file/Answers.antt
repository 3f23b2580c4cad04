-- The parts of the file are put one after the other, and fill the bytes.
use Prim.Native.Nat.{ℕ, ◌+◌, ◌≤◌}
use mathlib.Core.Path.{◌≡◌, sym, ap, ◌∙◌}
use mathlib.Core.List.{List, ◌++◌}
use native.Mathlib.Omega.{arith}
use lib.ListN.{length, get_or, take, drop, length-append, length-drop}
use lib.Seq.{length-take-le}
use Rattle.words.specs.internal.Placed.{placed}
use Rattle.format.specs.Bytes.{digits, records}
use Rattle.format.specs.Layout.{first, note_count_at}
use Rattle.format.specs.Writing.{bell_file, note_file}
use Rattle.fields.specs.internal.Layouts.{layout_of}
use Rattle.rows.specs.PhraseTable.{bell_count_word, note_count_word, phrase_of}
use Rattle.writer.proofs.PutFile.{few_bells_holds, few_notes_holds, bells_fit_holds, notes_fit_holds, heads_fit, size, size_small, file_put}
use borrow.Author.Rules.{rules}
use Rattle.writer.proofs.putting.put_file.Goals as goal
use Rattle.writer.proofs.putting.put_file.Goals.{After-bells_at-first, After-of-l, After-put_bells, After-put_head}

-- The bytes are those of the header, of the bells, of the number of notes and of the notes.
long : (c : After-of-l)
    → length c.args.file.now ≡ note_count_at (layout_of c.of-l.result) (get_or c.args.phrase.now bell_count_word 0) + 1 + length (records (note_file first) (phrase_of c.args.phrase.now).notes)
long c = c.requires.1 ∙ size c.args.phrase.now c.requires.0 c.of-l.result c.of-l.ensures

within : (c : After-bells_at-first) → c.bells_at-first.result ≤ length c.args.file.now
within c = omega (arith, c.bells_at-first.ensures, c.requires.1 ∙ size c.args.phrase.now c.requires.0 c.of-l.result c.of-l.ensures)

-- Bytes keep their length when as many of the first ones are put.
front_put : (at : ℕ) (f p : List ℕ) → at ≤ length f → length p ≡ length (take at f) → length (p ++ drop at f) ≡ length f
front_put at f p h e =
    let kept : length p ≡ at = e ∙ length-take-le at f h in
    length-append p (drop at f) ∙ omega (arith, kept, length-drop at f)

-- They keep their length when the header is put, and when the bells are.
head_long : (c : After-put_head) → let f = c.args.file.now in length (c.put_head.new.part ++ drop c.bells_at-first.result f) ≡ length f
head_long c = let h : c.bells_at-first.result ≤ length c.args.file.now =
    omega (arith, c.bells_at-first.ensures, c.requires.1 ∙ size c.args.phrase.now c.requires.0 c.of-l.result c.of-l.ensures) in
    front_put c.bells_at-first.result c.args.file.now c.put_head.new.part h c.put_head.auto.part

bells_long : (c : After-put_bells) → length c.put_bells.new.file ≡ length c.args.file.now
bells_long c = let h : c.bells_at-first.result ≤ length c.args.file.now =
    omega (arith, c.bells_at-first.ensures, c.requires.1 ∙ size c.args.phrase.now c.requires.0 c.of-l.result c.of-l.ensures) in
    c.put_bells.auto.file ∙ front_put c.bells_at-first.result c.args.file.now c.put_head.new.part h c.put_head.auto.part

pub overflow_cast-size : goal.overflow_cast-size
overflow_cast-size c = omega (arith, c.requires.1, size_small c.args.phrase.now c.requires.0)

pub slice_bounds-put_head-end : goal.slice_bounds-put_head-end
slice_bounds-put_head-end c = within (goal.at.slice_bounds-put_head-end c).After-bells_at-first

pub slice_bounds-put_head-end-2 : goal.slice_bounds-put_head-end-2
slice_bounds-put_head-end-2 c = sym (length-take-le c.bells_at-first.result c.args.file.now (within (goal.at.slice_bounds-put_head-end-2 c).After-bells_at-first))

pub put_head-requires : goal.put_head-requires
put_head-requires c = let v = c.requires.0 in
    let h = heads_fit c.args.phrase.now v c.of-l.result c.of-l.ensures in (
      length-take-le c.bells_at-first.result c.args.file.now (within (goal.at.put_head-requires c).After-bells_at-first) ∙ c.bells_at-first.ensures,
      h.0,
      omega (arith, long (goal.at.put_head-requires c).After-of-l),
      h.1,
      h.2,
      omega (arith, few_bells_holds c.args.phrase.now v),
    )

pub put_bells-requires : goal.put_bells-requires
put_bells-requires c = let v = c.requires.0 in (
  search rules,
  few_bells_holds c.args.phrase.now v,
  omega (arith, head_long (goal.at.put_bells-requires c).After-put_head, c.bells_at-first.ensures, long (goal.at.put_bells-requires c).After-of-l),
  bells_fit_holds c.args.phrase.now v c.of-l.result c.of-l.ensures,
)

pub note_count_at-at-requires : goal.note_count_at-at-requires
note_count_at-at-requires c = few_bells_holds c.args.phrase.now c.requires.0

pub put_8-requires : goal.put_8-requires
put_8-requires c = (omega (arith, c.note_count_at-at.ensures, bells_long (goal.at.put_8-requires c).After-put_bells, long (goal.at.put_8-requires c).After-of-l), omega (arith, few_notes_holds c.args.phrase.now c.requires.0))

pub overflow_add-at : goal.overflow_add-at
overflow_add-at c = omega (arith, c.note_count_at-at.ensures, long (goal.at.overflow_add-at c).After-of-l)

pub put_notes-requires : goal.put_notes-requires
put_notes-requires c = let v = c.requires.0 in (
  search rules,
  few_notes_holds c.args.phrase.now v,
  omega (arith, c.note_count_at-at.ensures, c.put_8.auto.part, bells_long (goal.at.put_notes-requires c).After-put_bells, long (goal.at.put_notes-requires c).After-of-l),
  notes_fit_holds c.args.phrase.now v c.of-l.result c.of-l.ensures,
)

pub returns : goal.returns
returns c = let x = phrase_of c.args.phrase.now in
    let from = c.bells_at-first.result in
    let to = c.note_count_at-at.result in
    c.put_notes.ensures
    ∙ ap (λ s. placed s (to + 1) (records (note_file first) x.notes))
    (c.put_8.ensures
    ∙ ap (λ s. placed s to (digits 1 (get_or c.args.phrase.now note_count_word 0)))
    (c.put_bells.ensures ∙ ap (λ s. placed (s ++ drop from c.args.file.now) from (records (bell_file (layout_of c.of-l.result)) x.bells)) c.put_head.ensures))
    ∙ file_put c.args.phrase.now c.requires.0 c.of-l.result c.of-l.ensures c.args.file.now c.requires.1 from to c.bells_at-first.ensures c.note_count_at-at.ensures
