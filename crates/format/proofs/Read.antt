-- A file that is not refused is the file of the phrase that was read, whose fields fit. Assumes nothing.
use Prim.Native.Nat.{ℕ, zero, suc, ◌+◌, ◌-◌, ◌*◌, ◌≤◌}
use mathlib.Core.Path.{◌≡◌, refl, sym, ap, ◌∙◌, subst}
use mathlib.Core.Bool.{◌&&◌, ◌||◌}
use mathlib.Core.List.{List, [], ◌∷◌, ◌++◌, append_assoc, append-nil}
use native.Mathlib.Nat.{suc-mul}
use native.Mathlib.Omega.{arith}
use lib.Dec.{leb, ltb, eqb}
use lib.ListN.{length, take, drop, length-drop, drop_of_length-le, take-append-drop}
use lib.Seq.{drop-drop, get_or-drop}
use borrow.Author.Tests.{leb-true, ltb-true, eqb-true}
use Rattle.model.specs.Limits.{most_cores}
use Rattle.model.specs.Refusals.{wrong_version, wrong_count, wrong_end, wrong_cores, wrong_bell_count, too_many_notes, wrong_shift}
use Rattle.model.proofs.Booleans.{and_right}
use Rattle.format.specs.Bytes.{AreBytes, number, digits, within, fields_in, fields_file, records}
use Rattle.format.specs.Layout.{Layout, is_version, layout, byte_count_at, uncounted_bytes, cores_at, shift_at, bell_count_at, bells_at, bell_bytes, note_count_at, most_bells, head_widths}
use Rattle.format.specs.Outcome.{ok}
use Rattle.format.specs.Phrase.{Bell, Note, Phrase}
use Rattle.format.specs.Rules.{is_shift}
use Rattle.format.specs.Reading.{shift_in, bell_record, note_record, bells_from, notes_from, bells_in, notes_in, reading_by, reading}
use Rattle.format.specs.Writing.{bell_file, note_file, body, head_fields, written_by, written}
use Rattle.format.specs.Fits.{FieldsFit, All, FitsBy, Fits}
use Rattle.format.proofs.Passed.{required, bound}
use Rattle.format.proofs.Digits.{number_small, digits_number, number_drop}
use Rattle.format.proofs.Fields.{fields_fit, fields_file_holds}
use Rattle.format.proofs.Layouts.{head_total}
use Rattle.format.proofs.Records.{BellFits, NoteFits}
use Rattle.format.proofs.Given.{bell_given, note_given}

drop_bytes : (at : ℕ) (s : List ℕ) → AreBytes s → AreBytes (drop at s)
drop_bytes at s bytes i h = rw get_or-drop (bytes (at + i) (omega (arith, length-drop at s)))

module _ (l : Layout) (s : List ℕ) (bytes : AreBytes s) where
  -- Bells that are read after others: they are so many, fit, and stand in the file.
  record BellsGiven (n at : ℕ) (before bells : List Bell) : Type 0 where
    rest : List Bell
    whole : before ++ rest ≡ bells
    count : length rest ≡ n
    fits : All (BellFits l) rest
    file : drop at s ≡ records (bell_file l) rest ++ drop (at + n * bell_bytes l) s

  bells_given : (n at : ℕ) (before bells : List Bell) → bells_from l s n at before ≡ ok bells → BellsGiven n at before bells
  unfolding bells_from All records
  bells_given zero at before bells e =
      let k : at ≡ at + zero * bell_bytes l = omega arith in
      let same : before ≡ bells = cc e in
      record { rest = []; whole = append-nil before ∙ same; count = refl; fits = tt; file = ap (λ (k : ℕ). drop k s) k }
  bells_given (suc n) at before bells e =
      let step = bound (bell_record l before at (drop at s)) e in
      let b : Bell = step.0 in
      let this = bell_given l before at (drop at s) b (drop_bytes at s bytes) step.1 in
      let those = bells_given n (at + bell_bytes l) (before ++ b ∷ []) bells step.2 in
      let k : at + bell_bytes l + n * bell_bytes l ≡ at + suc n * bell_bytes l = omega (arith, suc-mul n (bell_bytes l)) in
      let after = drop-drop (bell_bytes l) at s ∙ those.file ∙ ap (λ (k : ℕ). records (bell_file l) those.rest ++ drop k s) k in
      record {
        rest = b ∷ those.rest;
        whole = sym (append_assoc before (b ∷ []) those.rest) ∙ those.whole;
        count = ap suc those.count;
        fits = (this.fits, those.fits);
        file = this.file ∙ ap (λ (r : List ℕ). bell_file l b ++ r) after ∙ sym (append_assoc (bell_file l b) _ _);
      }

  -- Notes that are read after others: they are so many, fit, and are the rest of the file.
  record NotesGiven (n at : ℕ) (before notes : List Note) : Type 0 where
    rest : List Note
    whole : before ++ rest ≡ notes
    count : length rest ≡ n
    fits : All (NoteFits l) rest
    file : drop at s ≡ records (note_file l) rest

  notes_given : (shift : ℕ) (bells : List Bell) (n at : ℕ) (before notes : List Note) → notes_from l s shift bells n at before ≡ ok notes → NotesGiven n at before notes
  unfolding notes_from All records
  notes_given shift bells zero at before notes e =
      let end = required (leb (length s) at) wrong_end at e in
      let same : before ≡ notes = cc end.1 in
      record { rest = []; whole = append-nil before ∙ same; count = refl; fits = tt; file = drop_of_length-le s (leb-true (length s) at end.0) }
  notes_given shift bells (suc n) at before notes e =
      let step = bound (note_record l shift bells (length before) at (drop at s)) e in
      let m : Note = step.0 in
      let this = note_given l shift bells (length before) at (drop at s) m (drop_bytes at s bytes) step.1 in
      let those = notes_given shift bells n (at + (1 + number 1 at s)) (before ++ m ∷ []) notes step.2 in
      let after = drop-drop (1 + number 1 0 (drop at s)) at s ∙ ap (λ (k : ℕ). drop (at + (1 + k)) s) (number_drop 1 at s) ∙ those.file in
      record {
        rest = m ∷ those.rest;
        whole = sym (append_assoc before (m ∷ []) those.rest) ∙ those.whole;
        count = ap suc those.count;
        fits = (this.fits, those.fits);
        file = this.file ∙ ap (λ (r : List ℕ). note_file l m ++ r) after;
      }

  abbrev phrase_of : List Bell → List Note → Phrase
  phrase_of bells notes =
      record { version = number 1 0 s; cores = number 1 cores_at s; shift = shift_in l s; bells = bells; notes = notes }

  abbrev note_at : ℕ
  note_at = note_count_at l (number 1 (bell_count_at l) s)

  -- A file that is read: its header, its bells and its notes.
  record FileGiven (bells : List Bell) (notes : List Note) : Type 0 where
    count : number 4 byte_count_at s ≡ length s - uncounted_bytes
    bell_count : length bells ≡ number 1 (bell_count_at l) s
    bells_fit : All (BellFits l) bells
    bells_file : drop (bells_at l) s ≡ records (bell_file l) bells ++ drop note_at s
    long : note_at + l.count_bytes ≤ length s
    longer : bells_at l ≤ length s
    note_count : length notes ≡ number l.count_bytes note_at s
    notes_fit : All (NoteFits l) notes
    notes_file : drop (note_at + l.count_bytes) s ≡ records (note_file l) notes

  given : (x : Phrase) → reading_by l s ≡ ok x → FileGiven x.bells x.notes × (phrase_of x.bells x.notes ≡ x)
  unfolding reading_by bells_in notes_in
  given x e =
      let k : ℕ = number 1 (bell_count_at l) s in
      let count = required (leb uncounted_bytes (length s) && eqb (number 4 byte_count_at s) (length s - uncounted_bytes)) wrong_count 0 e in
      let core = required (ltb cores_at (length s)) wrong_end cores_at count.1 in
      let cores = required (within 1 most_cores (number 1 cores_at s)) wrong_cores cores_at core.1 in
      let reach = required (leb (shift_at + l.shift_bytes) (length s)) wrong_end shift_at cores.1 in
      let shift = required (is_shift l (shift_in l s)) wrong_shift shift_at reach.1 in
      let bells = bound (bells_in l s) shift.1 in
      let notes = bound (notes_in l s (shift_in l s) bells.0 note_at) bells.2 in
      let a = required (ltb (bell_count_at l) (length s)) wrong_end (bell_count_at l) bells.1 in
      let b = required (within 1 most_bells k) wrong_bell_count (bell_count_at l) a.1 in
      let c = required (leb (note_at + l.count_bytes) (length s)) wrong_end note_at notes.1 in
      let d = required (leb (number l.count_bytes note_at s) l.most_notes) too_many_notes note_at c.1 in
      let bs = bells_given k (bells_at l) [] bells.0 b.1 in
      let ns = notes_given (shift_in l s) bells.0 (number l.count_bytes note_at s) (note_at + l.count_bytes) [] notes.0 d.1 in
      let same : phrase_of bells.0 notes.0 ≡ x = cc notes.2 in
      subst
      (λ (y : Phrase). FileGiven y.bells y.notes × (phrase_of y.bells y.notes ≡ x))
      same (
        record {
          count = eqb-true (number 4 byte_count_at s) (length s - uncounted_bytes) (and_right (leb uncounted_bytes (length s)) _ count.0);
          bell_count = rw (← bs.whole) bs.count;
          bells_fit = rw (← bs.whole) bs.fits;
          bells_file = rw (← bs.whole) bs.file;
          long = leb-true (note_at + l.count_bytes) (length s) c.0;
          longer = omega (arith, ltb-true (bell_count_at l) (length s) a.0);
          note_count = rw (← ns.whole) ns.count;
          notes_fit = rw (← ns.whole) ns.fits;
          notes_file = rw (← ns.whole) ns.file;
        },
        same,
      )

  module _ (bells : List Bell) (notes : List Note) (g : FileGiven bells notes) where
    x : Phrase
    x = phrase_of bells notes

    body_back : drop (bells_at l) s ≡ body l x
    unfolding body x
    body_back =
        let w : ℕ = l.count_bytes in
        let count : take w (drop note_at s) ≡ digits w (length notes) = sym (digits_number s bytes w note_at g.long) ∙ ap (digits w) (sym g.note_count) in
        let tail : drop w (drop note_at s) ≡ records (note_file l) notes = drop-drop w note_at s ∙ g.notes_file in
        let after : drop note_at s ≡ digits w (length notes) ++ records (note_file l) notes = sym (take-append-drop w (drop note_at s)) ∙ (λ i. count i ++ tail i) in
        g.bells_file ∙ ap (λ (r : List ℕ). records (bell_file l) bells ++ r) after

    head_back : head_fields l x ≡ fields_in (head_widths l) 0 s
    unfolding x fields_in
    head_back =
        let size : 1 + l.shift_bytes + 1 + length (body l x) ≡ number 4 byte_count_at s = omega (arith, ap length body_back, length-drop (bells_at l) s, g.count, g.longer) in
        λ i. number 1 0 s ∷ size i ∷ number 1 cores_at s ∷ shift_in l s ∷ g.bell_count i ∷ []

    file_back : written_by l x ≡ s
    unfolding written_by
    file_back =
        let total = head_total l in
        (λ i. fields_file (head_widths l) (head_back i) ++ sym body_back i)
        ∙ ap (λ (r : List ℕ). r ++ drop (bells_at l) s) (fields_file_holds s bytes (head_widths l) 0 (omega (arith, total, g.longer)) ∙ ap (λ (n : ℕ). take n s) total)
        ∙ take-append-drop (bells_at l) s

    file_fits : FitsBy l x
    unfolding x
    file_fits =
        record {
          head = subst (FieldsFit (head_widths l)) (sym head_back) (fields_fit s bytes (head_widths l) 0);
          bells = g.bells_fit;
          count = rw g.note_count (number_small l.count_bytes note_at s bytes);
          notes = g.notes_fit;
        }

  read_back : (y : Phrase) → reading_by l s ≡ ok y → FitsBy l y × (written_by l y ≡ s) × (number 1 0 s ≡ y.version)
  unfolding x
  read_back y e =
      let (g, same) = given y e in
      subst (λ (z : Phrase). FitsBy l z × (written_by l z ≡ s) × (number 1 0 s ≡ z.version)) same
      (file_fits y.bells y.notes g, file_back y.bells y.notes g, refl)

-- Writing what was read gives the very bytes, and its fields fit.
pub written_back : (s : List ℕ) (x : Phrase) → AreBytes s → reading s ≡ ok x → Fits x × (written x ≡ s)
unfolding reading written
written_back s x bytes e =
    let version = required (leb (length s) 0 || is_version (number 1 0 s)) wrong_version 0 e in
    let r = read_back (layout (number 1 0 s)) s bytes x version.1 in
    subst (λ (v : ℕ). FitsBy (layout v) x × (written_by (layout v) x ≡ s)) r.2 (r.0, r.1)
