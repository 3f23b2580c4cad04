-- What is asked of the row of a note is asked of the note. Assumes nothing.
use Prim.Native.Nat.{ℕ, ◌+◌, ◌≤◌, ◌<◌}
use mathlib.Core.Path.{◌≡◌, sym, ap, ◌∙◌}
use mathlib.Core.Logic.{◌⊎◌, inl, inr}
use mathlib.Core.Bool.{true, false}
use mathlib.Core.List.{List}
use native.Mathlib.Omega.{arith}
use lib.Dec.{leb}
use lib.ListN.{length, get_or, take, length-take}
use lib.Seq.{get_or-take}
use borrow.Author.Tests.{leb-true, leb-false}
use Rattle.model.proofs.Booleans.{cases}
use Rattle.format.specs.Bytes.{records}
use Rattle.format.specs.Layout.{first, most_listed, note_length}
use Rattle.format.specs.Phrase.{Bell, Note}
use Rattle.format.specs.Jobs.{no_note}
use Rattle.format.specs.Writing.{note_file}
use Rattle.format.proofs.Sizes.{note_size}
use Rattle.rows.specs.NoteRow.{note_words, listed_count_word, note_of_row}
use Rattle.rows.proofs.RowsRead.{note_of_row_holds, records_longer}
use Rattle.rules.specs.internal.Asking.{note_asked}
use Rattle.rules.proofs.NoteAsked.{listed_long, crowded}

-- The note of a row that is cut off after its width has the same rules.
pub asked_lent : (shift : ℕ) (bells : List Bell) (own at : ℕ) (t : List ℕ) → note_words ≤ length t
    → note_asked shift bells own at (note_of_row (take note_words t)) ≡ note_asked shift bells own at (note_of_row t)
asked_lent shift bells own at t h = go (cases (leb (get_or t listed_count_word 0) most_listed))
  where
    same : get_or (take note_words t) listed_count_word 0 ≡ get_or t listed_count_word 0
    same = get_or-take note_words t listed_count_word 0 (omega arith)

    go : (leb (get_or t listed_count_word 0) most_listed ≡ true) ⊎ (leb (get_or t listed_count_word 0) most_listed ≡ false)
        → note_asked shift bells own at (note_of_row (take note_words t)) ≡ note_asked shift bells own at (note_of_row t)
    go (inl e) = ap (note_asked shift bells own at) (note_of_row_holds t (leb-true (get_or t listed_count_word 0) most_listed e))
    go (inr e) =
        let many : most_listed < get_or t listed_count_word 0 = leb-false (get_or t listed_count_word 0) most_listed e in
        let cut : note_words ≤ length (take note_words t) = omega (arith, length-take note_words t) in
        crowded shift bells own at (note_of_row (take note_words t)) (listed_long (take note_words t) cut (omega (arith, same)))
        ∙ sym (crowded shift bells own at (note_of_row t) (listed_long t h many))

-- No notes take no bytes.
pub no_bytes : (notes : List Note) → length (records (note_file first) (take 0 notes)) ≡ 0
unfolding records
no_bytes notes = omega arith

-- One note more takes the bytes of its record.
pub more_bytes : (notes : List Note) (i : ℕ) → i < length notes
    → length (records (note_file first) (take (i + 1) notes))
    ≡ length (records (note_file first) (take i notes)) + (1 + note_length first (length (get_or notes i no_note).listed))
more_bytes notes i h = omega (arith, records_longer (note_file first) notes i no_note h, note_size first (get_or notes i no_note))
