-- The record of the note of a row, put into bytes. Assumes nothing.
use Prim.Native.Nat.{ℕ, ◌+◌, ◌-◌, ◌≤◌}
use mathlib.Core.Path.{◌≡◌, sym, ap, subst, ◌∙◌}
use mathlib.Core.List.{List, [], ◌∷◌}
use native.Mathlib.Omega.{arith}
use lib.ListN.{length, get_or, take, drop, replicate, length-drop}
use lib.Seq.{length-take-le}
use Rattle.words.specs.internal.Placed.{placed}
use Rattle.words.proofs.Placing.{placed_whole, tail_is}
use Rattle.format.specs.Bytes.{total, fields_file}
use Rattle.format.specs.Layout.{first, note_bytes, most_listed, note_widths, note_length}
use Rattle.format.specs.Fits.{FieldsFit}
use Rattle.format.specs.Phrase.{Note}
use Rattle.format.specs.Writing.{note_file}
use Rattle.format.proofs.Records.{NoteFits}
use Rattle.format.proofs.Sizes.{note_size}
use Rattle.rows.specs.NoteRow.{note_words, key_word, earliest_release_word, latest_release_word, deadline_word, listed_count_word, listed_word, note_of_row}
use Rattle.encoding.proofs.Fields.{puts, puts_then}

-- the widths of the fields before the jobs listed
abbrev pub five_widths : List ℕ
five_widths = note_widths first 0

-- these fields, the first of them what the length byte counts
abbrev pub five_fields : List ℕ → ℕ → List ℕ
five_fields row size = size ∷ get_or row key_word 0 ∷ get_or row earliest_release_word 0 ∷ get_or row latest_release_word 0 ∷ get_or row deadline_word 0 ∷ []

-- the words of the row from the first job listed on, as the code lends them
abbrev pub lent : List ℕ → List ℕ
lent row = take (length row - listed_word) (drop listed_word row)

module _ (row : List ℕ) (l : length row ≡ note_words) (few : get_or row listed_count_word 0 ≤ most_listed) where
  -- the note, and how many jobs the row says that it lists
  abbrev n : Note
  n = note_of_row row

  abbrev count : ℕ
  count = get_or row listed_count_word 0

  same_listed : take count (lent row) ≡ n.listed
  same_listed = ap (take count) (tail_is row listed_word)

  same_count : count ≡ length n.listed
  same_count = sym (length-take-le count (drop listed_word row) (omega (arith, length-drop listed_word row)))

  module _ (f : NoteFits first n) where
    -- The jobs listed fit a byte each.
    pub listed_fit : FieldsFit (replicate count 1) (take count (lent row))
    listed_fit = rw same_listed (subst (λ (k : ℕ). FieldsFit (replicate k 1) n.listed) (sym same_count) f.1.1.1.1.1)

    -- The five fields put one after the other, and the jobs placed after them, are the record.
    pub note_placed : (t : List ℕ) → length t ≡ 1 + note_bytes + count
        → placed (puts t 0 five_widths (five_fields row (note_bytes + count))) (1 + note_bytes) (fields_file (replicate count 1) (take count (lent row)))
        ≡ note_file first n
    unfolding total note_length note_file
    note_placed t e =
        let k : ℕ = length n.listed in
        let size : note_bytes + count ≡ note_length first k = omega (arith, same_count) in
        let five : FieldsFit five_widths (five_fields row (note_length first k)) = (f.0, (f.1.0, (f.1.1.0, (f.1.1.1.0, (f.1.1.1.1.0, tt))))) in
        (λ i. placed (puts t 0 five_widths (five_fields row (size i))) (1 + note_bytes) (fields_file (replicate (same_count i) 1) (same_listed i)))
        ∙ puts_then five_widths (five_fields row (note_length first k)) five t 0 (omega arith) (replicate k 1) n.listed
        ∙ placed_whole t (note_file first n) (omega (arith, size, note_size first n))
