-- The table once its header is written and zeros are put after its rows. Assumes nothing.
use Prim.Native.Nat.{ℕ, ◌+◌, ◌-◌, ◌*◌, ◌≤◌}
use mathlib.Core.Path.{◌≡◌, sym, ap, ◌∙◌}
use mathlib.Core.List.{List, [], ◌++◌, append-nil, append_assoc}
use native.Mathlib.Omega.{arith}
use lib.ListN.{length, take, drop, replicate, length-append, length-drop, length-replicate, drop_of_length-le, take-append-drop}
use lib.Seq.{length-take-le, take-append-le, take-append-add, drop-append-add, take-take, drop-drop, drop_at, sets, length-sets, sets-eq}
use borrow.Rule.Slice.PartMut.{put_mid, same_len_mid}
use Rattle.model.specs.Limits.{most_jobs}
use Rattle.words.specs.Padded.{padded}
use Rattle.words.specs.internal.Parts.{part}
use Rattle.words.proofs.Parts.{part_length}
use Rattle.format.specs.Layout.{most_bells}
use Rattle.format.specs.Outcome.{ok}
use Rattle.format.specs.Phrase.{Phrase}
use Rattle.rows.specs.BellRow.{bell_words, bell_rows}
use Rattle.rows.specs.NoteRow.{note_words, note_rows}
use Rattle.rows.specs.PhraseTable.{bell_rows_at, note_rows_at, phrase_words, header, phrase_table}
use Rattle.reader.specs.internal.Filling.{Filled, headed, rows_kept, completed}
use Rattle.reader.specs.declared.Counts.{Counts}

-- ---- parts that are put back

-- after a front that stays
put_after : (front xs : List ℕ) (at n : ℕ) (ys : List ℕ) → put_mid (length front + at) n (front ++ xs) ys ≡ front ++ put_mid at n xs ys
put_after front xs at n ys =
    (λ i. take-append-add front xs at i ++ (ys ++ drop n (drop-append-add front xs at i))) ∙ append_assoc front (take at xs) (ys ++ drop n (drop at xs))

-- at the end of a front
put_within : (front xs : List ℕ) (at n : ℕ) (ys : List ℕ) → at + n ≡ length front → put_mid at n (front ++ xs) ys ≡ (take at front ++ ys) ++ xs
put_within front xs at n ys e =
    let rest : drop n (drop at (front ++ xs)) ≡ xs = drop-drop n at (front ++ xs) ∙ drop_at front xs (at + n) (sym e) in
    (λ i. take-append-le at front xs (omega arith) i ++ (ys ++ rest i)) ∙ sym (append_assoc (take at front) ys xs)

-- at the end of all
put_last : (xs : List ℕ) (at n : ℕ) (ys : List ℕ) → at + n ≡ length xs → put_mid at n xs ys ≡ take at xs ++ ys
put_last xs at n ys e =
    let rest : drop n (drop at xs) ≡ [] = drop-drop n at xs ∙ drop_of_length-le xs {i = at + n} (omega arith) in
    ap (λ (r : List ℕ). take at xs ++ (ys ++ r)) rest ∙ ap (λ (r : List ℕ). take at xs ++ r) (append-nil ys)

-- ---- the header and the zeros

module _ (c : Counts) (t : List ℕ) (l : length t ≡ phrase_words) (b : c.bells ≤ most_bells) (n : c.notes ≤ most_jobs) where
  -- where the rows of the bells end, and those of the notes
  abbrev bell_end : ℕ
  bell_end = bell_rows_at + c.bells * bell_words

  abbrev note_end : ℕ
  note_end = note_rows_at + c.notes * note_words

  -- the table with its header; and with words put after the rows of the bells
  abbrev with_header : List ℕ
  with_header = sets t 0 (headed c)

  abbrev with_bells : List ℕ → List ℕ
  with_bells bells = put_mid bell_end (note_rows_at - bell_end) with_header bells

  -- The stores of the header keep the length.
  pub header_length : length with_header ≡ phrase_words
  header_length = length-sets t 0 (headed c) ∙ l

  -- As many words put after the rows of the bells as stood there keep it.
  pub bells_length : (bells : List ℕ) → length bells ≡ length (part bell_end (note_rows_at - bell_end) with_header) → length (with_bells bells) ≡ phrase_words
  bells_length bells e = same_len_mid bell_end (note_rows_at - bell_end) with_header bells e ∙ header_length

  -- So do those put after the rows of the notes.
  pub notes_length : (bells notes : List ℕ) → length bells ≡ length (part bell_end (note_rows_at - bell_end) with_header)
      → length notes ≡ length (part note_end (phrase_words - note_end) (with_bells bells)) → length (put_mid note_end (phrase_words - note_end) (with_bells bells) notes) ≡ length t
  notes_length bells notes e f = same_len_mid note_end (phrase_words - note_end) (with_bells bells) notes f ∙ bells_length bells e ∙ sym l

  -- the words of the bells, and those of the notes
  bell_part : List ℕ
  bell_part = take (most_bells * bell_words) (drop bell_rows_at t)

  note_part : List ℕ
  note_part = drop (most_bells * bell_words) (drop bell_rows_at t)

  bell_zeros : List ℕ
  bell_zeros = replicate (most_bells * bell_words - c.bells * bell_words) 0

  note_zeros : List ℕ
  note_zeros = replicate (most_jobs * note_words - c.notes * note_words) 0

  header_parts : with_header ≡ headed c ++ (bell_part ++ note_part)
  unfolding bell_part note_part
  header_parts =
      sets-eq (headed c) t 0 (omega arith) ∙ ap (λ (r : List ℕ). headed c ++ r) (sym (take-append-drop (most_bells * bell_words) (drop bell_rows_at t)))

  bell_length : length bell_part ≡ most_bells * bell_words
  unfolding bell_part
  bell_length = length-take-le (most_bells * bell_words) (drop bell_rows_at t) (omega (arith, length-drop bell_rows_at t))

  note_length_holds : length note_part ≡ most_jobs * note_words
  unfolding note_part
  note_length_holds = length-drop (most_bells * bell_words) (drop bell_rows_at t) ∙ omega (arith, length-drop bell_rows_at t)

  bells_cleared : with_bells bell_zeros ≡ headed c ++ ((take (c.bells * bell_words) bell_part ++ bell_zeros) ++ note_part)
  bells_cleared =
      let at : ℕ = c.bells * bell_words in
      let count : ℕ = note_rows_at - bell_end in
      ap (λ (r : List ℕ). put_mid bell_end count r bell_zeros) header_parts
      ∙ put_after (headed c) (bell_part ++ note_part) at count bell_zeros
      ∙ ap (λ (r : List ℕ). headed c ++ r) (put_within bell_part note_part at count bell_zeros (omega (arith, bell_length)))

  notes_cleared : (bells : List ℕ) → length bells ≡ most_bells * bell_words
      → put_mid note_end (phrase_words - note_end) (headed c ++ (bells ++ note_part)) note_zeros ≡ headed c ++ (bells ++ (take (c.notes * note_words) note_part ++ note_zeros))
  notes_cleared bells e =
      let at : ℕ = c.notes * note_words in
      let count : ℕ = phrase_words - note_end in
      let place : note_end ≡ length (headed c) + (length bells + at) = omega arith in
      ap (λ (i : ℕ). put_mid i count (headed c ++ (bells ++ note_part)) note_zeros) place
      ∙ put_after (headed c) (bells ++ note_part) (length bells + at) count note_zeros
      ∙ ap (λ (r : List ℕ). headed c ++ r) (
      put_after bells note_part at count note_zeros ∙ ap (λ (r : List ℕ). bells ++ r) (put_last note_part at count note_zeros (omega (arith, note_length_holds)))
      )

  both_cleared : put_mid note_end (phrase_words - note_end) (with_bells bell_zeros) note_zeros ≡ completed c t
  unfolding bell_part note_part bell_zeros note_zeros
  both_cleared =
      let at : ℕ = c.bells * bell_words in
      let kept : List ℕ = take at bell_part ++ bell_zeros in
      let few : at ≤ most_bells * bell_words = omega arith in
      let kept-length : length kept ≡ most_bells * bell_words =
      length-append (take at bell_part) bell_zeros
      ∙ omega (arith, length-take-le at bell_part (omega (arith, bell_length)), length-replicate {A = ℕ} (most_bells * bell_words - at) 0) in
      let bell-rows : take at bell_part ≡ take at (drop bell_rows_at t) = take-take at (most_bells * bell_words) (drop bell_rows_at t) few in
      let note-rows : note_part ≡ drop note_rows_at t = drop-drop (most_bells * bell_words) bell_rows_at t in
      ap (λ (r : List ℕ). put_mid note_end (phrase_words - note_end) r note_zeros) bells_cleared
      ∙ notes_cleared kept kept-length
      ∙ (λ i. headed c ++ ((bell-rows i ++ bell_zeros) ++ (take (c.notes * note_words) (note-rows i) ++ note_zeros)))

  -- The header written, and zeros put after the rows of the bells and after those of the notes, complete the table.
  pub all_cleared : (bells notes : List ℕ) → bells ≡ replicate (length (part bell_end (note_rows_at - bell_end) with_header)) 0
      → notes ≡ replicate (length (part note_end (phrase_words - note_end) (with_bells bells))) 0
      → put_mid note_end (phrase_words - note_end) (with_bells bells) notes ≡ completed c t
  unfolding bell_zeros note_zeros
  all_cleared bells notes p q =
      let bell-count : ℕ = note_rows_at - bell_end in
      let note_count_holds : ℕ = phrase_words - note_end in
      let room : length (part bell_end bell-count with_header) ≡ bell-count = part_length bell_end bell-count with_header (omega (arith, header_length)) in
      let as_many : length bells ≡ length (part bell_end bell-count with_header) =
      ap length p ∙ length-replicate {A = ℕ} (length (part bell_end bell-count with_header)) 0 in
      let room_after : length (part note_end note_count_holds (with_bells bells)) ≡ note_count_holds =
      part_length note_end note_count_holds (with_bells bells) (omega (arith, bells_length bells as_many)) in
      let bell-zeros : bell-count ≡ most_bells * bell_words - c.bells * bell_words = omega arith in
      let note-zeros : note_count_holds ≡ most_jobs * note_words - c.notes * note_words = omega arith in
      let bells-are : bells ≡ bell_zeros = p ∙ ap (λ (i : ℕ). replicate i 0) (room ∙ bell-zeros) in
      let notes-are : notes ≡ note_zeros = q ∙ ap (λ (i : ℕ). replicate i 0) (room_after ∙ note-zeros) in
      (λ i. put_mid note_end note_count_holds (with_bells (bells-are i)) (notes-are i)) ∙ both_cleared

-- ---- the table of a phrase

-- so many rows at the beginning, and zeros after them
padded_rows : (t rows : List ℕ) (n w most : ℕ) → n * w ≤ length t → take (n * w) t ≡ rows → rows_kept n most w t ≡ padded (most * w) rows
padded_rows t rows n w most h e =
    let count : n * w ≡ length rows = sym (length-take-le (n * w) t h) ∙ ap length e in
    λ i. e i ++ replicate (most * w - count i) 0

-- The completed table of a phrase that was read is that of the phrase.
pub completed_table : (x : Phrase) (t : List ℕ) → length t ≡ phrase_words → Filled (ok x) t
    → completed (record { version = x.version; cores = x.cores; shift = x.shift; bells = length x.bells; notes = length x.notes }) t ≡ phrase_table (ok x)
completed_table x t l f =
    let bell_part_holds : List ℕ = drop bell_rows_at t in
    let note_part_holds : List ℕ = drop note_rows_at t in
    let few_bells_holds = f.few_bells in
    let few_notes_holds = f.few_notes in
    let bells = padded_rows bell_part_holds (bell_rows x.bells) (length x.bells) bell_words most_bells (omega (arith, length-drop bell_rows_at t)) f.bells_there in
    let notes =
    padded_rows note_part_holds (note_rows x.shift x.bells x.notes) (length x.notes) note_words most_jobs (omega (arith, length-drop note_rows_at t)) f.notes_there in
    λ i. header x ++ (bells i ++ notes i)
