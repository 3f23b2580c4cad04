-- The file of a phrase whose fields fit is read by the rules alone: the phrase, or the refusal of its rules. Assumes nothing.
use Prim.Native.Nat.{ℕ, ◌+◌, ◌-◌, ◌*◌, ◌≤◌, ◌<◌}
use mathlib.Core.Path.{◌≡◌, refl, sym, ap, ◌∙◌}
use mathlib.Core.Bool.{Bool, true, false, ◌&&◌, ◌||◌}
use mathlib.Core.List.{List, [], ◌∷◌, ◌++◌, append_assoc}
use native.Mathlib.Omega.{arith}
use lib.Dec.{leb, ltb, eqb}
use lib.ListN.{length, get_or, drop, length-append}
use lib.Seq.{drop_at}
use borrow.Author.Tests.{le-leb, lt-leb, lt-ltb, eq-eqb}
use Rattle.model.specs.Limits.{most_cores}
use Rattle.model.specs.Refusals.{wrong_version, wrong_count, wrong_end, wrong_cores, wrong_bell_count, too_many_notes, wrong_note_length, wrong_shift}
use Rattle.format.specs.Bytes.{number, digits, within, fields_in, fields_file, records}
use Rattle.format.specs.Layout.{Layout, is_version, layout, byte_count_at, uncounted_bytes, cores_at, shift_at, bell_count_at, bells_at, bell_bytes, note_count_at, most_bells, most_listed, note_length, head_widths}
use Rattle.format.specs.Outcome.{Outcome, ok, ◌>>=◌, ◌>>◌, require}
use Rattle.format.specs.Phrase.{Bell, Note, Phrase}
use Rattle.format.specs.Rules.{is_shift, bell_rules, note_rules, bells_rules, notes_rules, all_bells, all_notes, rules_by, rules}
use Rattle.format.specs.Reading.{shift_in, bell_record, note_record, bells_from, notes_from, bells_in, notes_in, reading_by, reading}
use Rattle.format.specs.Writing.{bell_file, note_file, body, head_fields, written_by, written}
use Rattle.format.specs.Fits.{All, FitsBy, Fits}
use Rattle.format.specs.internal.Sized.{Sized}
use Rattle.format.proofs.Passed.{same_then, passed}
use Rattle.format.proofs.Digits.{digits_length, number_digits, number_drop}
use Rattle.format.proofs.Fields.{fields_size, fields_back}
use Rattle.format.proofs.Layouts.{sized, head_total}
use Rattle.format.proofs.Records.{BellFits, NoteFits, bell_back, note_first, note_back}
use Rattle.format.proofs.Sizes.{bell_size, note_size, bells_size}

module _ (l : Layout) where
  -- ---- the loops: what is written from a place on is read on from there

  bells_back : (rest : List Bell) → All (BellFits l) rest → (before more : List ℕ) (at : ℕ) → length before ≡ at → (bells : List Bell)
      → bells_from l (before ++ (records (bell_file l) rest ++ more)) (length rest) at bells ≡ bells_rules l rest at bells
  unfolding bells_from bells_rules records All
  bells_back [] f before more at e bells = refl
  bells_back (b ∷ bs) f before more at e bells =
      let s : List ℕ = before ++ (bell_file l b ++ records (bell_file l) bs ++ more) in
      let tail : List ℕ = records (bell_file l) bs ++ more in
      let split : s ≡ before ++ bell_file l b ++ tail = ap (λ (r : List ℕ). before ++ r) (append_assoc (bell_file l b) _ _) ∙ sym (append_assoc before (bell_file l b) tail) in
      let here : drop at s ≡ bell_file l b ++ tail = drop_at before _ at e ∙ append_assoc (bell_file l b) _ _ in
      let this : bell_record l bells at (drop at s) ≡ bell_rules l bells at b = ap (bell_record l bells at) here ∙ bell_back l b f.0 bells at tail in
      let next : length (before ++ bell_file l b) ≡ at + bell_bytes l = omega (arith, length-append before (bell_file l b), bell_size l b) in
      ap (λ (o : Outcome Bell). ◌>>=◌ o (λ c. bells_from l s (length bs) (at + bell_bytes l) (bells ++ c ∷ []))) this
      ∙ same_then (bell_rules l bells at b) _ _
      (λ c. ap (λ (t : List ℕ). bells_from l t (length bs) (at + bell_bytes l) (bells ++ c ∷ [])) split
      ∙ bells_back bs f.1 (before ++ bell_file l b) more (at + bell_bytes l) next (bells ++ c ∷ []))

  module _ (z : Sized l) (shift : ℕ) (bells : List Bell) where
    notes_back : (rest : List Note) → All (NoteFits l) rest → (before : List ℕ) (at : ℕ) → length before ≡ at → (notes : List Note)
        → notes_from l (before ++ records (note_file l) rest) shift bells (length rest) at notes ≡ notes_rules l shift bells rest at notes
    unfolding notes_from notes_rules records All
    notes_back [] f before at e notes =
        let end : length (before ++ []) ≤ at = omega (arith, length-append before []) in
        passed (leb (length (before ++ [])) at) wrong_end at (ok notes) (le-leb (length (before ++ [])) at end)
    notes_back (n ∷ ns) f before at e notes =
        let tail : List ℕ = records (note_file l) ns in
        let s : List ℕ = before ++ (note_file l n ++ tail) in
        let split : s ≡ before ++ note_file l n ++ tail = sym (append_assoc before _ _) in
        let here : drop at s ≡ note_file l n ++ tail = drop_at before _ at e in
        let own : ℕ = length notes in
        let few : Bool = leb (length n.listed) most_listed in
        let this : note_record l shift bells own at (drop at s) ≡ ◌>>◌ (require few wrong_note_length at) (note_rules shift bells own at n) =
        ap (note_record l shift bells own at) here ∙ note_back l n f.0 tail z shift bells own at in
        let size : number 1 at s ≡ note_length l (length n.listed) = sym (number_drop 1 at s) ∙ ap (number 1 0) here ∙ note_first l n f.0 tail in
        let to : ℕ = at + (1 + note_length l (length n.listed)) in
        let next : length (before ++ note_file l n) ≡ to = omega (arith, length-append before (note_file l n), note_size l n) in
        let on : Note → Outcome (List Note) = λ c. notes_from l s shift bells (length ns) to (notes ++ c ∷ []) in
        ap (λ (k : ℕ). ◌>>=◌ (note_record l shift bells own at (drop at s)) (λ c. notes_from l s shift bells (length ns) (at + (1 + k)) (notes ++ c ∷ []))) size
        ∙ ap (λ (o : Outcome Note). ◌>>=◌ o on) this
        ∙ shunt few (note_rules shift bells own at n) on
        ∙ ap (λ (o : Outcome (List Note)). ◌>>◌ (require few wrong_note_length at) o)
        (same_then (note_rules shift bells own at n) _ _
        (λ c. ap (λ (t : List ℕ). notes_from l t shift bells (length ns) to (notes ++ c ∷ [])) split
        ∙ notes_back ns f.1 (before ++ note_file l n) to next (notes ++ c ∷ [])))
      where
        shunt : (t : Bool) (o : Outcome Note) (k : Note → Outcome (List Note))
            → ◌>>=◌ (◌>>◌ (require t wrong_note_length at) o) k ≡ ◌>>◌ (require t wrong_note_length at) (◌>>=◌ o k)
        shunt true o k = refl
        shunt false o k = refl

-- ---- the file

module _ (l : Layout) (z : Sized l) (x : Phrase) (f : FitsBy l x) where
  -- the file of the phrase by the layout
  unfoldable pub file : List ℕ
  file = written_by l x

  head : List ℕ
  head = fields_file (head_widths l) (head_fields l x)

  after : List ℕ
  after = digits l.count_bytes (length x.notes) ++ records (note_file l) x.notes

  head_length : length head ≡ bells_at l
  unfolding head
  head_length = fields_size (head_widths l) (head_fields l x) refl ∙ head_total l

  parted : file ≡ head ++ (records (bell_file l) x.bells ++ after)
  unfolding file head after written_by body
  parted = refl

  body_length : length (body l x) ≡ length x.bells * bell_bytes l + length after
  unfolding body after
  body_length = omega (arith, length-append (records (bell_file l) x.bells) after, bells_size l x.bells)

  after_length : l.count_bytes ≤ length after
  unfolding after
  after_length = omega (arith, length-append (digits l.count_bytes (length x.notes)) (records (note_file l) x.notes), digits_length l.count_bytes (length x.notes))

  file_is : file ≡ head ++ body l x
  unfolding file head written_by
  file_is = refl

  -- It has the bytes of the header, and those of the body.
  pub file_length : length file ≡ bells_at l + length (body l x)
  file_length = ap length file_is ∙ length-append head (body l x) ∙ ap (λ (n : ℕ). n + length (body l x)) head_length

  fields_read : fields_in (head_widths l) 0 file ≡ head_fields l x
  unfolding file written_by
  fields_read = fields_back (head_widths l) (head_fields l x) f.head [] (body l x) 0 refl

  field : (i : ℕ) → get_or (fields_in (head_widths l) 0 file) i 0 ≡ get_or (head_fields l x) i 0
  field i = ap (λ (v : List ℕ). get_or v i 0) fields_read

  version_read : number 1 0 file ≡ x.version
  unfolding fields_in
  version_read = field 0

  count_read : number 4 byte_count_at file ≡ 1 + l.shift_bytes + 1 + length (body l x)
  unfolding fields_in
  count_read = field 1

  cores_read : number 1 cores_at file ≡ x.cores
  unfolding fields_in
  cores_read = field 2

  shift_read_holds : shift_in l file ≡ x.shift
  unfolding fields_in
  shift_read_holds = field 3

  bell_count_read : number 1 (bell_count_at l) file ≡ length x.bells
  unfolding fields_in
  bell_count_read = field 4

  bells_read_holds : bells_in l file ≡ all_bells l x.bells
  unfolding bells_in all_bells
  bells_read_holds =
      let at : ℕ = bell_count_at l in
      passed (ltb at (length file)) wrong_end at _ (lt-ltb at (length file) (omega (arith, file_length)))
      ∙ ap (λ (n : ℕ). ◌>>◌ (require (within 1 most_bells n) wrong_bell_count at) (bells_from l file n (bells_at l) [])) bell_count_read
      ∙ ap (λ (o : Outcome (List Bell)). ◌>>◌ (require (within 1 most_bells (length x.bells)) wrong_bell_count at) o)
      (ap (λ (s : List ℕ). bells_from l s (length x.bells) (bells_at l) []) parted ∙ bells_back l x.bells f.bells head after (bells_at l) head_length [])

  notes_read_holds : (shift : ℕ) (bells : List Bell)
      → notes_in l file shift bells (note_count_at l (length x.bells)) ≡ all_notes l shift bells x.notes (note_count_at l (length x.bells))
  unfolding notes_in all_notes after
  notes_read_holds shift bells =
      let w : ℕ = l.count_bytes in
      let k : ℕ = length x.notes in
      let at : ℕ = note_count_at l (length x.bells) in
      let front : List ℕ = head ++ records (bell_file l) x.bells in
      let notes : List ℕ = records (note_file l) x.notes in
      let size : length front ≡ at = omega (arith, length-append head (records (bell_file l) x.bells), head_length, bells_size l x.bells) in
      let one : file ≡ front ++ (digits w k ++ notes) = parted ∙ sym (append_assoc head _ _) in
      let two : file ≡ front ++ digits w k ++ notes = one ∙ sym (append_assoc front (digits w k) notes) in
      let count : number w at file ≡ k = ap (number w at) one ∙ number_digits w k f.count front notes at size in
      let next : length (front ++ digits w k) ≡ at + w = omega (arith, length-append front (digits w k), digits_length w k, size) in
      passed (leb (at + w) (length file)) wrong_end at _ (le-leb (at + w) (length file) (omega (arith, file_length, body_length, after_length)))
      ∙ ap (λ (n : ℕ). ◌>>◌ (require (leb n l.most_notes) too_many_notes at) (notes_from l file shift bells n (at + w) [])) count
      ∙ ap (λ (o : Outcome (List Note)). ◌>>◌ (require (leb k l.most_notes) too_many_notes at) o)
      (ap (λ (s : List ℕ). notes_from l s shift bells k (at + w) []) two ∙ notes_back l z shift bells x.notes f.notes (front ++ digits w k) (at + w) next [])

  read_by : reading_by l (written_by l x) ≡ rules_by l x
  unfolding reading_by rules_by file
  read_by =
      let size : ℕ = length file in
      let long : bells_at l ≤ size = omega (arith, file_length) in
      let count = eq-eqb (number 4 byte_count_at file) (size - uncounted_bytes) (omega (arith, count_read, file_length)) in
      let whole : leb uncounted_bytes size && eqb (number 4 byte_count_at file) (size - uncounted_bytes) ≡ true = simp (le-leb uncounted_bytes size (omega arith), count) in
      let made : ℕ → ℕ → ℕ → List Bell → List Note → Phrase = λ v c t bs ns. record { version = v; cores = c; shift = t; bells = bs; notes = ns } in
      let last : ℕ → ℕ → ℕ → ℕ → Outcome (List Bell) → Outcome Phrase = λ v c t n o. ◌>>=◌ o (λ bs. ◌>>=◌ (notes_in l file t bs (note_count_at l n)) (λ ns. ok (made v c t bs ns))) in
      let shifted : ℕ → Outcome Phrase → Outcome Phrase = λ t o. ◌>>◌ (require (is_shift l t) wrong_shift shift_at) o in
      let heads : ℕ → ℕ → ℕ → ℕ → Outcome (List Bell) → Outcome Phrase = λ v c t n o. ◌>>◌ (require (within 1 most_cores c) wrong_cores cores_at) (shifted t (last v c t n o)) in
      passed (leb uncounted_bytes size && eqb (number 4 byte_count_at file) (size - uncounted_bytes)) wrong_count 0 _ whole
      ∙ passed (ltb cores_at size) wrong_end cores_at _ (lt-ltb cores_at size (omega arith))
      ∙ ap (λ (o : Outcome Phrase). ◌>>◌ (require (within 1 most_cores (number 1 cores_at file)) wrong_cores cores_at) o)
      (passed (leb (shift_at + l.shift_bytes) size) wrong_end shift_at _ (le-leb (shift_at + l.shift_bytes) size (omega arith)))
      ∙ (λ i. heads (version_read i) (cores_read i) (shift_read_holds i) (bell_count_read i) (bells_read_holds i))
      ∙ ap (λ (o : Outcome Phrase). ◌>>◌ (require (within 1 most_cores x.cores) wrong_cores cores_at) (shifted x.shift o))
      (same_then (all_bells l x.bells) _ _
      (λ bs. ap (λ (o : Outcome (List Note)). ◌>>=◌ o (λ ns. ok (made x.version x.cores x.shift bs ns))) (notes_read_holds x.shift bs)))

-- Reading the file of a phrase whose fields fit is asking its rules.
pub read_written : (x : Phrase) → Fits x → reading (written x) ≡ rules x
unfolding reading written rules file
read_written x f =
    let l : Layout = layout x.version in
    let z = sized x.version in
    let s : List ℕ = written_by l x in
    let some : 0 < length s = omega (arith, file_length l z x f) in
    let v : number 1 0 s ≡ x.version = version_read l z x f in
    ap (λ (b : Bool). ◌>>◌ (require (b || is_version (number 1 0 s)) wrong_version 0) (reading_by (layout (number 1 0 s)) s)) (lt-leb (length s) 0 some)
    ∙ ap (λ (n : ℕ). ◌>>◌ (require (is_version n) wrong_version 0) (reading_by (layout n) s)) v
    ∙ ap (λ (o : Outcome Phrase). ◌>>◌ (require (is_version x.version) wrong_version 0) o) (read_by l z x f)
