-- The file of a phrase in words, put into bytes part by part. Assumes nothing.
use Prim.Native.Nat.{ℕ, ◌+◌, ◌-◌, ◌*◌, ◌^◌, ◌≤◌, ◌<◌}
use mathlib.Core.Path.{◌≡◌, refl, sym, ap, subst, ◌∙◌}
use mathlib.Core.List.{List, [], ◌∷◌, ◌++◌, append_assoc}
use native.Mathlib.Omega.{arith}
use lib.ListN.{length, get_or, drop, length-append}
use Rattle.model.specs.Limits.{most_jobs}
use Rattle.words.specs.internal.Placed.{placed}
use Rattle.words.proofs.Placing.{placed_append, placed_whole}
use Rattle.format.specs.Bytes.{digits, fields_file, records}
use Rattle.format.specs.Layout.{Layout, first, layout, uncounted_bytes, bells_at, bell_bytes, most_bells, note_count_at, note_length, head_widths}
use Rattle.format.specs.Phrase.{Bell, Note, Phrase}
use Rattle.format.specs.Fits.{All, FitsBy}
use Rattle.format.specs.Valid.{Each, ValidNote, Valid}
use Rattle.format.specs.Writing.{bell_file, note_file, body, head_fields, written_by, written}
use Rattle.format.proofs.Digits.{digits_length}
use Rattle.format.proofs.Fields.{fields_length}
use Rattle.format.proofs.Files.{written_length}
use Rattle.format.proofs.Layouts.{sized, head_total, bytes_small}
use Rattle.format.proofs.Ranges.{valid_fits}
use Rattle.format.proofs.Records.{NoteFits}
use Rattle.format.proofs.Versions.{note_file_holds}
use Rattle.fields.specs.declared.layout.Layout.{Layout as Row}
use Rattle.fields.specs.internal.Layouts.{layout_of}
use Rattle.rows.specs.PhraseTable.{version_word, cores_word, bell_count_word, note_count_word, shift_word, phrase_of}
use Rattle.rows.proofs.PhraseTable as table
use Rattle.writer.specs.internal.Putting.{BellsFit, NotesFit}
use Rattle.writer.proofs.PutBells.{bells_count, bells_bytes}
use Rattle.writer.proofs.PutNotes.{notes_count}

few_and_fit : (r : Row) (shift : ℕ) (bells : List Bell) (before notes : List Note) → Each (ValidNote shift bells) before notes → All (NoteFits (layout_of r)) notes
    → NotesFit notes
unfolding Each All note_length
few_and_fit r shift bells before [] v f = tt
few_and_fit r shift bells before (n ∷ ns) (v, vs) (f, fs) = ((v.few, f), few_and_fit r shift bells (before ++ n ∷ []) ns vs fs)

module _ (t : List ℕ) (v : Valid (phrase_of t)) where
  abbrev x : Phrase
  x = phrase_of t

  -- the numbers of bells and of notes that the words say
  abbrev bell_count : ℕ
  bell_count = get_or t bell_count_word 0

  abbrev note_count : ℕ
  note_count = get_or t note_count_word 0

  same_bells : length x.bells ≡ bell_count
  same_bells = bells_count t bell_count

  same_notes : length x.notes ≡ note_count
  same_notes = notes_count t note_count

  -- Its bells are no more than the table has rows for.
  pub few_bells_holds : bell_count ≤ most_bells
  few_bells_holds = omega (arith, same_bells, table.few_bells_holds x v)

  -- Its notes are no more than the table has rows for.
  pub few_notes_holds : note_count ≤ most_jobs
  few_notes_holds = omega (arith, same_notes, table.few_notes_holds x v)

  -- The length of its file fits four bytes.
  pub size_small : length (written x) < 256 ^ 4
  size_small = omega (arith, written_length x v, bytes_small (layout x.version) (sized x.version))

  -- ---- by the code's row for the version

  module _ (r : Row) (same : layout_of r ≡ layout x.version) where
    abbrev l : Layout
    l = layout_of r

    fits : FitsBy l x
    fits = subst (λ (k : Layout). FitsBy k x) (sym same) (valid_fits x v)

    -- Its bells fit their bytes.
    pub bells_fit_holds : BellsFit l x.bells
    bells_fit_holds = fits.bells

    -- Its notes fit their bytes, and list no more than their rows have room for.
    pub notes_fit_holds : NotesFit x.notes
    notes_fit_holds = few_and_fit r x.shift x.bells [] x.notes v.fields.notes fits.notes

    -- The version and the number of cores fit a byte each, and the shift the bytes that it has.
    pub heads_fit : (get_or t version_word 0 < 256) × (get_or t cores_word 0 < 256) × (get_or t shift_word 0 < 256 ^ r.shift)
    heads_fit = (fits.head.0, fits.head.1.1.0, fits.head.1.1.1.0)

    -- ---- the parts of the file, and their lengths

    abbrev head : List ℕ
    head = fields_file (head_widths l) (head_fields l x)

    abbrev bells : List ℕ
    bells = records (bell_file l) x.bells

    abbrev count : List ℕ
    count = digits 1 (length x.notes)

    abbrev notes : List ℕ
    notes = records (note_file first) x.notes

    same_body : body l x ≡ bells ++ (count ++ notes)
    unfolding body
    same_body = λ i. bells ++ (count ++ records (sym (note_file_holds l refl) i) x.notes)

    parts : written x ≡ head ++ (bells ++ (count ++ notes))
    unfolding written written_by
    parts = ap (λ (k : Layout). written_by k x) (sym same) ∙ ap (λ (s : List ℕ). head ++ s) same_body

    head_length : length head ≡ bells_at l
    head_length = fields_length (head_widths l) (head_fields l x) fits.head ∙ head_total l

    body_length : length (body l x) ≡ bell_count * bell_bytes l + 1 + length notes
    body_length =
        ap length same_body ∙ omega (arith, length-append bells (count ++ notes), length-append count notes, digits_length 1 (length x.notes), bells_bytes t bell_count l)

    -- The file has the bytes of the header, of the bells, of the number of notes and of the notes.
    pub size : length (written x) ≡ note_count_at l bell_count + 1 + length notes
    size = ap length parts ∙ omega (arith, length-append head (bells ++ (count ++ notes)), head_length, ap length same_body, body_length)

    -- ---- the parts put one after the other

    module _ (file : List ℕ) (e : length file ≡ length (written x)) where
      -- the header, with the count by the length of the bytes
      abbrev head_put : List ℕ
      head_put =
          fields_file (head_widths l)
          (get_or t version_word 0 ∷ (length file - uncounted_bytes) ∷ get_or t cores_word 0 ∷ get_or t shift_word 0 ∷ bell_count ∷ [])

      same_head : head_put ≡ head
      same_head =
          let counted : length file - uncounted_bytes ≡ 1 + r.shift + 1 + length (body l x) = omega (arith, e, size, body_length) in
          λ i. fields_file (head_widths l) (x.version ∷ counted i ∷ x.cores ∷ x.shift ∷ sym same_bells i ∷ [])

      head_placed : (start : ℕ) → start ≡ bells_at l → head_put ++ drop start file ≡ placed file 0 head
      unfolding placed
      head_placed start p =
          let here : start ≡ 0 + length head = omega (arith, head_length) in
          λ i. same_head i ++ drop (here i) file

      -- The header, the bells, the number of notes and the notes are the file.
      pub file_put : (start at : ℕ) → start ≡ bells_at l → at ≡ note_count_at l bell_count
          → placed (placed (placed (head_put ++ drop start file) start bells) at (digits 1 note_count)) (at + 1) notes ≡ written x
      file_put start at q p =
          let two : List ℕ = head ++ bells in
          let three : List ℕ = two ++ count in
          let two-long : length two ≡ at = omega (arith, length-append head bells, head_length, bells_bytes t bell_count l) in
          let three-long : length three ≡ at + 1 = omega (arith, length-append two count, two-long, digits_length 1 (length x.notes)) in
          (λ i. placed (placed (placed (head_placed start q i) start bells) at (digits 1 (sym same_notes i))) (at + 1) notes)
          ∙ ap (λ (s : List ℕ). placed (placed s at count) (at + 1) notes) (placed_append file 0 start head bells (omega arith) (omega (arith, head_length)))
          ∙ ap (λ (s : List ℕ). placed s (at + 1) notes) (placed_append file 0 at two count (omega arith) (omega (arith, two-long)))
          ∙ placed_append file 0 (at + 1) three notes (omega arith) (omega (arith, three-long))
          ∙ ap (placed file 0) (append_assoc two count notes ∙ append_assoc head bells (count ++ notes) ∙ sym parts)
          ∙ placed_whole file (written x) e
