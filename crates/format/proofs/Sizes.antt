-- How long what is written is, whether its fields fit or not. Assumes nothing.
use Prim.Native.Nat.{ℕ, ◌+◌, ◌*◌}
use mathlib.Core.Path.{◌≡◌, refl, ◌∙◌}
use mathlib.Core.List.{List, [], ◌∷◌, ◌++◌}
use native.Mathlib.Nat.{suc-mul}
use native.Mathlib.Omega.{arith}
use lib.ListN.{length, length-append, length-replicate}
use Rattle.format.specs.Bytes.{digits, fields_file, records}
use Rattle.format.specs.Layout.{Layout, head_widths, bell_widths, bell_bytes, note_widths, note_length, note_count_at}
use Rattle.format.specs.Phrase.{Bell, Note, Phrase}
use Rattle.format.specs.Writing.{bell_fields, bell_file, note_fields, note_file, body, head_fields, written_by}
use Rattle.format.proofs.Digits.{digits_length}
use Rattle.format.proofs.Fields.{fields_size}
use Rattle.format.proofs.Layouts.{head_total, bell_total_holds, note_total}

module _ (l : Layout) where
  -- The record of a bell has the bytes that the layout says.
  pub bell_size : (b : Bell) → length (bell_file l b) ≡ bell_bytes l
  unfolding bell_file
  bell_size b = fields_size (bell_widths l) (bell_fields b) refl ∙ bell_total_holds l

  -- The record of a note has its length byte, and the bytes that this counts.
  pub note_size : (n : Note) → length (note_file l n) ≡ 1 + note_length l (length n.listed)
  unfolding note_file
  note_size n =
      let k : ℕ = length n.listed in
      let many : length (note_widths l k) ≡ length (note_fields l n) = omega (arith, length-replicate {A = ℕ} k l.listed_bytes) in
      fields_size (note_widths l k) (note_fields l n) many ∙ note_total l k

  -- The records of bells have so many times the bytes of one.
  pub bells_size : (bells : List Bell) → length (records (bell_file l) bells) ≡ length bells * bell_bytes l
  unfolding records
  bells_size [] = omega arith
  bells_size (b ∷ bs) = omega (arith, length-append (bell_file l b) (records (bell_file l) bs), bell_size b, bells_size bs, suc-mul (length bs) (bell_bytes l))

  -- A file ends with its notes, which stand after their number.
  pub file_size : (x : Phrase) → length (written_by l x) ≡ note_count_at l (length x.bells) + l.count_bytes + length (records (note_file l) x.notes)
  unfolding written_by body
  file_size x =
      let head : List ℕ = fields_file (head_widths l) (head_fields l x) in
      let bells : List ℕ = records (bell_file l) x.bells in
      let count : List ℕ = digits l.count_bytes (length x.notes) in
      let notes : List ℕ = records (note_file l) x.notes in
      omega (
        arith,
        length-append head (bells ++ (count ++ notes)),
        fields_size (head_widths l) (head_fields l x) refl,
        head_total l,
        length-append bells (count ++ notes),
        bells_size x.bells,
        length-append count notes,
        digits_length l.count_bytes (length x.notes),
      )
