-- The reading of notes into their rows. Assumes nothing.
use Prim.Native.Nat.{ℕ, ◌+◌, ◌-◌, ◌*◌, ◌≤◌, ◌<◌}
use mathlib.Core.Path.{◌≡◌, refl, sym, ap, subst, ◌∙◌}
use mathlib.Core.List.{List, [], ◌∷◌, ◌++◌}
use native.Mathlib.Nat.{sub-zero, add-zero}
use native.Mathlib.Omega.{arith}
use lib.Dec.{leb, ltb}
use lib.ListN.{length, drop, length-append, length-drop}
use lib.Seq.{get_or-drop}
use borrow.Author.Tests.{le-leb, lt-leb, ltb-true}
use Rattle.model.specs.Limits.{most_jobs}
use Rattle.model.specs.Refusals.{wrong_end, wrong_note_length, too_many_notes}
use Rattle.words.specs.internal.Placed.{placed}
use Rattle.format.specs.Bytes.{byte_at, number}
use Rattle.format.specs.Layout.{first, most_bells, is_note_length}
use Rattle.format.specs.Outcome.{Outcome, ok, refused}
use Rattle.format.specs.Phrase.{Bell, Note, find}
use Rattle.format.specs.Rules.{are_times}
use Rattle.format.specs.Jobs.{struck}
use Rattle.format.specs.Reading.{note_in, note_record, notes_from, notes_in}
use Rattle.format.proofs.Passed.{required}
use Rattle.format.proofs.Digits.{number_one}
use Rattle.format.proofs.First.{note_key, note_earliest, note_latest, note_deadline}
use Rattle.format.proofs.Given.{note_passed}
use Rattle.format.proofs.Versions.{notes_from_holds}
use Rattle.format.proofs.Steps.{more_notes, stop_notes}
use Rattle.rows.specs.NoteRow.{note_words, note_row}
use Rattle.rows.specs.PhraseTable.{note_rows_at}
use Rattle.rows.proofs.BellRow.{bells_kept, table_kept, table_begins}
use Rattle.rows.proofs.NoteRow.{ListsFew, row_length, begins_none, begins_more}
use Rattle.fields.specs.declared.layout.Layout.{Layout as Row}
use Rattle.fields.specs.internal.Layouts.{layout_of}
use Rattle.fields.specs.internal.NoteRecord.{WholeNote}
use Rattle.fields.proofs.ListedJobs.{listed_few}
use Rattle.std.specs.Prelude.{Option as RustOption}
use Rattle.records.specs.internal.Answers.{found_of}
use Rattle.records.specs.internal.Filling.{bells_held, BellTable, HoldsBells, HoldsNotes}

-- ---- a record

module _ (p : List ℕ) where
  -- The times that were read are those of the note.
  pub times_read : {earliest latest deadline : ℕ} → earliest ≡ number 4 2 p → latest ≡ number 4 6 p → deadline ≡ number 4 10 p
      → are_times earliest latest deadline ≡ are_times (note_in first p).earliest_release (note_in first p).latest_release (note_in first p).deadline
  times_read e l d = λ i. are_times ((e ∙ sym (note_earliest p)) i) ((l ∙ sym (note_latest p)) i) ((d ∙ sym (note_deadline p)) i)

  -- What was found by the key that was read is what the key of the note finds.
  pub key_found : (shift : ℕ) (bells : List Bell) {key : ℕ} {found : RustOption ℕ} → key ≡ number 1 1 p → found ≡ found_of (find key shift bells)
      → found_of (find (note_in first p).key shift bells) ≡ found
  key_found shift bells k e = sym (e ∙ ap (λ (j : ℕ). found_of (find j shift bells)) (k ∙ number_one 1 p ∙ sym (note_key p)))

-- A note that was read has a record that is there, and is the note of its fields.
pub record_is : (shift : ℕ) (bells : List Bell) (own at : ℕ) (p : List ℕ) (n : Note) → note_record first shift bells own at p ≡ ok n → WholeNote p × (note_in first p ≡ n)
unfolding note_record
record_is shift bells own at p n e =
    let begun = required (leb 1 (length p)) wrong_end at e in
    let size = required (is_note_length first (number 1 0 p)) wrong_note_length at begun.1 in
    let long = required (ltb (number 1 0 p) (length p)) wrong_end at size.1 in
    (record { size = size.0; whole = ltb-true (number 1 0 p) (length p) long.0 }, (note_passed shift bells own at (note_in first p) n long.1).3)

-- ---- after the last record

module _ (s : List ℕ) (shift : ℕ) (bells : List Bell) (count i at : ℕ) (notes : List Note) (h : count ≤ i) where
  none_left : count - i ≡ 0
  none_left = omega arith

  -- Bytes that remain are refused.
  pub remain : at < length s → notes_from first s shift bells (count - i) at notes ≡ refused wrong_end at
  unfolding notes_from
  remain l = rw none_left (simp (lt-leb _ _ l))

  -- At the end of the file the notes are those before.
  pub done : length s ≤ at → notes_from first s shift bells (count - i) at notes ≡ ok notes
  unfolding notes_from
  done l = rw none_left (simp (le-leb _ _ l))

-- ---- note by note

-- The first i notes have been read, and the table has their rows besides those of the n bells; reading on from here gives the whole.
pub record Noted (s : List ℕ) (shift : ℕ) (bells : List Bell) (n count start i at : ℕ) (t : List ℕ) : Type 0 where
  pub notes : List Note
  pub many : length notes ≡ i
  pub rest : notes_from first s shift bells (count - i) at notes ≡ notes_from first s shift bells count start []
  pub rows : HoldsNotes shift bells notes t
  pub table : BellTable t n
  pub same : bells_held t n ≡ bells

-- Before the first note nothing has been read.
pub none_noted : (s : List ℕ) (shift n count start : ℕ) (t : List ℕ) → BellTable t n → Noted s shift (bells_held t n) n count start 0 start t
none_noted s shift n count start t x = record { notes = []; many = refl; rest = rw sub-zero; rows = begins_none shift (bells_held t n) t; table = x; same = refl }

module _ (s : List ℕ) (shift : ℕ) (bells : List Bell) (n count start i at : ℕ) (t : List ℕ) (x : Noted s shift bells n count start i at t) where
  -- The rows of the bells are still there.
  pub noted_bells : HoldsBells bells t
  noted_bells = subst (λ (bs : List Bell). HoldsBells bs t) x.same (table_begins t n x.table)

  module _ (h : i < count) where
    own : {o : Outcome Note} → note_record first shift bells i at (drop at s) ≡ o → note_record first shift bells (length x.notes) at (drop at s) ≡ o
    own e = ap (λ (k : ℕ). note_record first shift bells k at (drop at s)) x.many ∙ e

    -- A refusal of the next record is that of the whole.
    pub noted_stop : (r to : ℕ) → note_record first shift bells i at (drop at s) ≡ refused r to → notes_from first s shift bells count start [] ≡ refused r to
    noted_stop r to e = sym x.rest ∙ stop_notes first s count i at bells h shift x.notes r to (own e)

    module _ (a : Note) (e : note_record first shift bells i at (drop at s) ≡ ok a) where
      few : ListsFew a
      few =
          let q = record_is shift bells i at (drop at s) a e in
          subst ListsFew q.1 (listed_few (drop at s) q.0)

      -- The record lies in the file.
      pub noted_fits : at + (1 + number 1 at s) ≤ length s
      noted_fits =
          let q = record_is shift bells i at (drop at s) a e in
          let size : number 1 0 (drop at s) ≡ number 1 at s =
          number_one 0 (drop at s) ∙ get_or-drop at s 0 0 ∙ ap (byte_at s) (add-zero at) ∙ sym (number_one at s) in
          omega (arith, q.0.whole, size, length-drop at s)

      module _ (l : note_rows_at + (i + 1) * note_words ≤ length t) (b : n ≤ most_bells) where
        -- With the row of the next note, one note more has been read.
        pub noted_more : Noted s shift bells n count start (i + 1) (at + (1 + number 1 at s)) (placed t (note_rows_at + i * note_words) (note_row shift bells a))
        noted_more =
            let place : ℕ = note_rows_at + i * note_words in
            let row : List ℕ = note_row shift bells a in
            let wide = row_length (struck shift bells a) a few in
            let room : place + length row ≤ length t = omega (arith, wide) in
            let rows : HoldsNotes shift bells (x.notes ++ a ∷ []) (placed t (note_rows_at + length x.notes * note_words) row) =
            begins_more shift bells x.notes a t few (omega (arith, x.many)) x.rows in
            record {
              notes = x.notes ++ a ∷ [];
              many = length-append x.notes (a ∷ []) ∙ ap (λ (k : ℕ). k + 1) x.many;
              rest = sym (more_notes first s count i at bells h shift x.notes a (own e)) ∙ x.rest;
              rows = subst (λ (k : ℕ). HoldsNotes shift bells (x.notes ++ a ∷ []) (placed t (note_rows_at + k * note_words) row)) x.many rows;
              table = table_kept t n place row (omega arith) room x.table;
              same = bells_kept t n place row (omega arith) room x.table ∙ x.same;
            }

  module _ (h : count ≤ i) where
    -- Bytes that remain after the last note are refused.
    pub noted_remain : at < length s → notes_from first s shift bells count start [] ≡ refused wrong_end at
    noted_remain l = sym x.rest ∙ remain s shift bells count i at x.notes h l

    -- At the end of the file the notes have all been read.
    pub noted_done : length s ≤ at → notes_from first s shift bells count start [] ≡ ok x.notes
    noted_done l = sym x.rest ∙ done s shift bells count i at x.notes h l

-- ---- the count, and the notes

module _ (l : Row) (s : List ℕ) (shift : ℕ) (bells : List Bell) (at : ℕ) where
  -- A file that ends before the number of notes is refused.
  pub no_count : length s ≤ at → notes_in (layout_of l) s shift bells at ≡ refused wrong_end at
  unfolding notes_in
  no_count h = simp (lt-leb (at + 1) (length s) (omega arith))

  module _ (g : at < length s) where
    here : at + 1 ≤ length s
    here = omega arith

    -- More notes than a phrase can have are refused.
    pub bad_count : most_jobs < number 1 at s → notes_in (layout_of l) s shift bells at ≡ refused too_many_notes at
    unfolding notes_in
    bad_count h = simp (le-leb _ _ here, lt-leb _ _ h)

    counted : number 1 at s ≤ most_jobs → notes_in (layout_of l) s shift bells at ≡ notes_from (layout_of l) s shift bells (number 1 at s) (at + 1) []
    unfolding notes_in
    counted h = simp (le-leb _ _ here, le-leb _ _ h)

    -- Otherwise so many notes are read from the next byte on.
    pub right_count : number 1 at s ≤ most_jobs → notes_in (layout_of l) s shift bells at ≡ notes_from first s shift bells (number 1 at s) (at + 1) []
    right_count h = counted h ∙ sym (notes_from_holds (layout_of l) refl s shift bells (number 1 at s) (at + 1) [])
