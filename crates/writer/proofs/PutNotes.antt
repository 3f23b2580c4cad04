-- The records of the notes of a table, put into bytes one after the other. Assumes nothing.
use Prim.Native.Nat.{ℕ, ◌+◌, ◌*◌, ◌≤◌, ◌<◌}
use mathlib.Core.Path.{◌≡◌, sym, ap, subst, ◌∙◌}
use mathlib.Core.List.{List}
use native.Mathlib.Omega.{arith}
use lib.ListN.{length, get_or, take, drop, length-take, length-drop}
use lib.Seq.{length-take-le, get_or-take}
use borrow.Rule.Slice.PartMut.{put_mid}
use Rattle.model.specs.Limits.{most_jobs}
use Rattle.format.specs.Bytes.{records}
use Rattle.format.specs.Layout.{first, note_bytes, most_listed, note_length}
use Rattle.format.specs.Phrase.{Note}
use Rattle.format.specs.Jobs.{no_note}
use Rattle.format.specs.Writing.{note_file}
use Rattle.format.proofs.Records.{NoteFits}
use Rattle.format.proofs.Sizes.{note_size}
use Rattle.rows.specs.NoteRow.{note_words, listed_count_word, listed_word, note_of_row, notes_of_rows}
use Rattle.rows.specs.PhraseTable.{note_rows_at, phrase_words}
use Rattle.rows.proofs.Records.{rows_length}
use Rattle.rows.proofs.RowsRead.{note_of_row_holds, note_lent, all_at}
use Rattle.writer.specs.internal.Putting.{NotesFit}
use Rattle.writer.proofs.PutRecords.{place, place_next, place_within, put, put_more}

-- the words from the row of note i on, and so many of them as the code lends
abbrev words : List ℕ → ℕ → List ℕ
words t i = drop (note_rows_at + i * note_words) t

abbrev pub lent : List ℕ → ℕ → ℕ → List ℕ
lent t i m = take m (words t i)

-- the bytes of the record of the note of a row
abbrev pub size_of : List ℕ → ℕ
size_of row = 1 + note_bytes + get_or row listed_count_word 0

module _ (t : List ℕ) (n : ℕ) where
  -- the notes of the first n rows
  abbrev pub notes : List Note
  notes = notes_of_rows (drop note_rows_at t) n

  -- where the record of note i begins
  abbrev pub note_place : ℕ → ℕ → ℕ
  note_place = place (note_file first) notes

  -- There are n of them.
  pub notes_count : length notes ≡ n
  notes_count = rows_length note_of_row note_words (drop note_rows_at t) n

  module _ (room : phrase_words ≤ length t) (most : n ≤ most_jobs) (f : NotesFit notes) (i : ℕ) (h : i < n) where
    -- the number of jobs that the row says it lists
    abbrev count : ℕ
    count = get_or (words t i) listed_count_word 0

    below : i < length notes
    below = omega (arith, notes_count)

    fits_at : (length (get_or notes i no_note).listed ≤ most_listed) × NoteFits first (get_or notes i no_note)
    fits_at = all_at (λ (x : Note). (length x.listed ≤ most_listed) × NoteFits first x) notes f i no_note below

    same_listed : length (note_of_row (words t i)).listed ≡ length (get_or notes i no_note).listed
    same_listed = ap (λ (x : Note). length x.listed) (note_lent t n i h)

    enough : most_listed < length (drop listed_word (words t i))
    enough = omega (arith, length-drop listed_word (words t i), length-drop (note_rows_at + i * note_words) t)

    few : count ≤ most_listed
    few = omega (arith, enough, same_listed, fits_at.0, length-take count (drop listed_word (words t i)))

    same_count : length (get_or notes i no_note).listed ≡ count
    same_count = sym same_listed ∙ length-take-le count (drop listed_word (words t i)) (omega (arith, enough, few))

    module _ (m : ℕ) (e : m ≡ note_words) where
      -- the row, as the code lends it
      abbrev row : List ℕ
      row = lent t i m

      lent_count : get_or row listed_count_word 0 ≡ count
      lent_count = get_or-take m (words t i) listed_count_word 0 (omega arith)

      same_note : note_of_row row ≡ get_or notes i no_note
      same_note = ap (λ (k : ℕ). note_of_row (take k (words t i))) e ∙ note_of_row_holds (words t i) few ∙ note_lent t n i h

      -- It says that it lists no more than it has words for.
      pub lent_few : get_or row listed_count_word 0 ≤ most_listed
      lent_few = omega (arith, lent_count, few)

      -- The fields of its note fit their bytes.
      pub note_fits : NoteFits first (note_of_row row)
      note_fits = subst (NoteFits first) (sym same_note) fits_at.1

      size : length (note_file first (get_or notes i no_note)) ≡ size_of row
      unfolding note_length
      size = omega (arith, note_size first (get_or notes i no_note), same_count, lent_count)

      -- The record of its note ends where the next one begins.
      pub note_next : (start : ℕ) → note_place start (i + 1) ≡ note_place start i + size_of row
      note_next start = omega (arith, size, place_next (note_file first) notes start no_note i below)

      -- It ends before all do.
      pub note_within : (start : ℕ) → note_place start i + size_of row ≤ start + length (records (note_file first) notes)
      note_within start = omega (arith, size, place_within (note_file first) notes start no_note i below)

      -- A part that came back as the record is one record more.
      pub note_put_holds : (start : ℕ) (file : List ℕ) → start ≤ length file → (at k : ℕ) → at ≡ note_place start i → k ≡ size_of row → (ws : List ℕ)
          → ws ≡ note_file first (note_of_row row)
          → put_mid at k (put (note_file first) notes start file i) ws ≡ put (note_file first) notes start file (i + 1)
      note_put_holds start file g at k p q ws r =
          let same : ws ≡ note_file first (get_or notes i no_note) = r ∙ ap (note_file first) same_note in
          put_more (note_file first) notes start file g no_note i below ws same at k p (ap length same ∙ size ∙ sym q)
