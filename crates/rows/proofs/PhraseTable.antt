-- The table of a phrase that a file may hold: how much of it is used, what each word is, and that the phrase is read back from it. Assumes nothing.
use Prim.Native.Nat.{ℕ, ◌+◌, ◌-◌, ◌*◌, ◌≤◌, ◌<◌}
use mathlib.Core.Path.{◌≡◌, refl, ap, ◌∙◌}
use mathlib.Core.List.{List, [], ◌∷◌, ◌++◌, append_assoc}
use native.Mathlib.Omega.{arith}
use lib.ListN.{length, get_or, take, drop, replicate, get_or-append}
use lib.Seq.{get_or-append-add, drop_at}
use Rattle.model.specs.Limits.{most_jobs}
use Rattle.words.specs.Padded.{padded}
use Rattle.words.proofs.Padded.{padded_length}
use Rattle.format.specs.Layout.{layout, most_bells, most_listed}
use Rattle.format.specs.Outcome.{ok}
use Rattle.format.specs.Phrase.{Bell, Note, Phrase}
use Rattle.format.specs.Jobs.{no_bell, no_note, note, struck}
use Rattle.format.specs.Valid.{Each, ValidNote, Valid}
use Rattle.format.specs.Fits.{All}
use Rattle.format.proofs.Layouts.{most_notes_holds}
use Rattle.format.proofs.Jobs.{each_at, strikes}
use Rattle.rows.specs.BellRow.{bell_words, bell_row, bell_rows, bell_of_row, bells_of_rows}
use Rattle.rows.specs.NoteRow.{note_words, note_row, note_rows, note_of_row, notes_of_rows}
use Rattle.rows.specs.PhraseTable.{bell_rows_at, note_rows_at, header, phrase_table, phrase_of}
use Rattle.rows.specs.internal.Handed.{bell_word, note_word}
use Rattle.rows.proofs.Records.{Wide, records_length, records_word, rows_back}
use Rattle.rows.proofs.BellRow as bell-rows
use Rattle.rows.proofs.NoteRow.{ListsFew}
use Rattle.rows.proofs.NoteRow as note-rows

notes_few : (shift : ℕ) (bells : List Bell) (before notes : List Note) → Each (ValidNote shift bells) before notes → All ListsFew notes
unfolding Each All
notes_few shift bells before [] v = tt
notes_few shift bells before (n ∷ ns) (v, vs) = (v.few, notes_few shift bells (before ++ n ∷ []) ns vs)

-- ---- the table

module _ (x : Phrase) (v : Valid x) where
  valid_note : (i : ℕ) → i < length x.notes → ValidNote x.shift x.bells (take i x.notes) (note x i)
  valid_note i h = each_at (ValidNote x.shift x.bells) [] x.notes v.fields.notes i no_note h

  -- Its bells are no more than the table has rows for.
  pub few_bells_holds : length x.bells ≤ most_bells
  few_bells_holds = v.fields.bell_count.1

  -- Its notes are no more than the table has rows for.
  pub few_notes_holds : length x.notes ≤ most_jobs
  few_notes_holds = omega (arith, v.fields.note_count, most_notes_holds x.version)

  -- A note lists no more numbers than its row has words for.
  pub few_listed : (i : ℕ) → i < length x.notes → length (note x i).listed ≤ most_listed
  few_listed i h = (valid_note i h).few

  -- The number of the bell that a note strikes is that of a bell.
  pub struck_below : (i : ℕ) → i < length x.notes → struck x.shift x.bells (note x i) < length x.bells
  struck_below i h = (strikes (layout x.version) x.shift x.bells (note x i) v.fields.bells (valid_note i h).sounds).0

  bells_wide : Wide bell_row bell_words x.bells
  bells_wide = bell-rows.rows_wide x.bells

  all_few : All ListsFew x.notes
  all_few = notes_few x.shift x.bells [] x.notes v.fields.notes

  notes_wide : Wide (note_row x.shift x.bells) note_words x.notes
  notes_wide = note-rows.rows_wide x.shift x.bells x.notes all_few

  bell_part_holds : List ℕ
  bell_part_holds = padded (most_bells * bell_words) (bell_rows x.bells)

  note_part_holds : List ℕ
  note_part_holds = padded (most_jobs * note_words) (note_rows x.shift x.bells x.notes)

  bells_length : length (bell_rows x.bells) ≡ length x.bells * bell_words
  bells_length = records_length bell_row bell_words x.bells bells_wide

  notes_length : length (note_rows x.shift x.bells x.notes) ≡ length x.notes * note_words
  notes_length = records_length (note_row x.shift x.bells) note_words x.notes notes_wide

  bell_part_length : length bell_part_holds ≡ most_bells * bell_words
  unfolding bell_part_holds
  bell_part_length = padded_length (most_bells * bell_words) (bell_rows x.bells) (omega (arith, bells_length, few_bells_holds))

  parts : phrase_table (ok x) ≡ header x ++ (bell_part_holds ++ note_part_holds)
  unfolding bell_part_holds note_part_holds
  parts = refl

  -- It begins with the header.
  pub header_word : (at : ℕ) → at < bell_rows_at → get_or (phrase_table (ok x)) at 0 ≡ get_or (header x) at 0
  header_word at h = ap (λ (t : List ℕ). get_or t at 0) parts ∙ get_or-append (header x) (bell_part_holds ++ note_part_holds) 0 at h

  -- A word of the row of a bell is in its place.
  pub bell_word_holds : (i at : ℕ) → i < length x.bells → at < bell_words
      → bell_word (phrase_table (ok x)) i at ≡ get_or (bell_row (get_or x.bells i no_bell)) at 0
  unfolding bell_part_holds
  bell_word_holds i at h g =
      let rows : List ℕ = bell_rows x.bells in
      ap (λ (t : List ℕ). get_or t (bell_rows_at + (i * bell_words + at)) 0) parts
      ∙ get_or-append-add (header x) (bell_part_holds ++ note_part_holds) (i * bell_words + at) 0
      ∙ get_or-append bell_part_holds note_part_holds 0 (i * bell_words + at) (omega (arith, few_bells_holds, bell_part_length))
      ∙ get_or-append rows (replicate (most_bells * bell_words - length rows) 0) 0 (i * bell_words + at) (omega (arith, bells_length))
      ∙ records_word bell_row bell_words x.bells no_bell bells_wide i at h g

  -- A word of the row of a note is in its place.
  pub note_word_holds : (i at : ℕ) → i < length x.notes → at < note_words
      → note_word (phrase_table (ok x)) i at ≡ get_or (note_row x.shift x.bells (note x i)) at 0
  unfolding note_part_holds
  note_word_holds i at h g =
      let rows : List ℕ = note_rows x.shift x.bells x.notes in
      let place : note_rows_at + (i * note_words + at) ≡ length (header x) + (length bell_part_holds + (i * note_words + at)) = omega (arith, bell_part_length) in
      (λ k. get_or (parts k) (place k) 0)
      ∙ get_or-append-add (header x) (bell_part_holds ++ note_part_holds) (length bell_part_holds + (i * note_words + at)) 0
      ∙ get_or-append-add bell_part_holds note_part_holds (i * note_words + at) 0
      ∙ get_or-append rows (replicate (most_jobs * note_words - length rows) 0) 0 (i * note_words + at) (omega (arith, notes_length))
      ∙ records_word (note_row x.shift x.bells) note_words x.notes no_note notes_wide i at h g

  -- The phrase is read back from its table.
  pub phrase_of_holds : phrase_of (phrase_table (ok x)) ≡ x
  unfolding bell_part_holds note_part_holds
  phrase_of_holds =
      let bells : List ℕ = bell_rows x.bells in
      let notes : List ℕ = note_rows x.shift x.bells x.notes in
      let after-bells : List ℕ = replicate (most_bells * bell_words - length bells) 0 in
      let after-notes : List ℕ = replicate (most_jobs * note_words - length notes) 0 in
      let bells_read_holds : bells_of_rows (bell_part_holds ++ note_part_holds) (length x.bells) ≡ x.bells =
      ap (λ (t : List ℕ). bells_of_rows t (length x.bells)) (append_assoc bells after-bells note_part_holds)
      ∙ rows_back bell_row bell_of_row bell_words x.bells (bell-rows.rows_read_back x.bells) (after-bells ++ note_part_holds) in
      let notes_read_holds : notes_of_rows (drop (most_bells * bell_words) (bell_part_holds ++ note_part_holds)) (length x.notes) ≡ x.notes =
      ap (λ (t : List ℕ). notes_of_rows t (length x.notes)) (drop_at bell_part_holds note_part_holds (most_bells * bell_words) bell_part_length)
      ∙ rows_back (note_row x.shift x.bells) note_of_row note_words x.notes (note-rows.rows_read_back x.shift x.bells x.notes all_few) after-notes in
      λ i. record { version = x.version; cores = x.cores; shift = x.shift; bells = bells_read_holds i; notes = notes_read_holds i }
