-- A record whose fields fit, once written, is read by its rules alone. Assumes nothing.
use Prim.Native.Nat.{ℕ, ◌≤◌, ◌<◌}
use mathlib.Core.Path.{◌≡◌, refl, sym, ap, ◌∙◌}
use mathlib.Core.List.{List, [], ◌++◌}
use native.Mathlib.Omega.{arith}
use lib.Dec.{leb, ltb}
use lib.ListN.{length, get_or, length-append}
use borrow.Author.Tests.{le-leb, lt-ltb}
use Rattle.model.specs.Refusals.{wrong_end, wrong_note_length}
use Rattle.format.specs.Bytes.{number, fields_in}
use Rattle.format.specs.Layout.{Layout, bell_bytes, most_listed, note_length, listed_count, is_note_length, bell_widths, note_widths}
use Rattle.format.specs.Outcome.{Outcome, ◌>>◌, require}
use Rattle.format.specs.Phrase.{Bell, Note}
use Rattle.format.specs.Rules.{bell_rules, note_rules}
use Rattle.format.specs.Reading.{bell_of, bell_in, bell_record, note_of, listed_by, note_in, note_record}
use Rattle.format.specs.Writing.{bell_fields, bell_file, note_fields, note_file}
use Rattle.format.specs.Fits.{FieldsFit}
use Rattle.format.specs.internal.Sized.{Sized}
use Rattle.format.proofs.Passed.{same_require, passed}
use Rattle.format.proofs.Fields.{fields_back}
use Rattle.format.proofs.Layouts.{listed_count_holds, note_lengths}
use Rattle.format.proofs.Sizes.{bell_size, note_size}

-- the fields of a bell fit their widths
abbrev pub BellFits : Layout → Bell → Type 0
BellFits l b = FieldsFit (bell_widths l) (bell_fields b)

-- the fields of a note fit their widths, the length byte too
abbrev pub NoteFits : Layout → Note → Type 0
NoteFits l n = FieldsFit (note_widths l (length n.listed)) (note_fields l n)

module _ (l : Layout) where
  -- The fields of a bell that is read are those of its record.
  pub bell_fields_holds : (p : List ℕ) → bell_fields (bell_in l p) ≡ fields_in (bell_widths l) 0 p
  unfolding bell_in fields_in
  bell_fields_holds p = refl

  module _ (b : Bell) (f : BellFits l b) where
    bell_same : (more : List ℕ) → bell_in l (bell_file l b ++ more) ≡ b
    unfolding bell_file bell_in
    bell_same more = ap bell_of (fields_back (bell_widths l) (bell_fields b) f [] more 0 refl)

    -- The record of a bell, once written, is read by its rules alone.
    pub bell_back : (before : List Bell) (at : ℕ) (more : List ℕ) → bell_record l before at (bell_file l b ++ more) ≡ bell_rules l before at b
    unfolding bell_record
    bell_back before at more =
        let p : List ℕ = bell_file l b ++ more in
        let long : bell_bytes l ≤ length p = omega (arith, bell_size l b, length-append (bell_file l b) more) in
        passed (leb (bell_bytes l) (length p)) wrong_end at (bell_rules l before at (bell_in l p)) (le-leb (bell_bytes l) (length p) long)
        ∙ ap (bell_rules l before at) (bell_same more)

  note_of_fields : (k : ℕ) (p : List ℕ) → listed_by l p ≡ k → note_of (fields_in (note_widths l k) 0 p) ≡ note_in l p
  unfolding note_in
  note_of_fields k p e = ap (λ (j : ℕ). note_of (fields_in (note_widths l j) 0 p)) (sym e)

  first_field : (k : ℕ) (p : List ℕ) → get_or (fields_in (note_widths l k) 0 p) 0 0 ≡ number 1 0 p
  unfolding fields_in
  first_field k p = refl

  module _ (n : Note) (f : NoteFits l n) where
    module _ (more : List ℕ) where
      note_fields_holds : fields_in (note_widths l (length n.listed)) 0 (note_file l n ++ more) ≡ note_fields l n
      unfolding note_file
      note_fields_holds = fields_back (note_widths l (length n.listed)) (note_fields l n) f [] more 0 refl

      -- The length byte of a note that is written is read back.
      pub note_first : number 1 0 (note_file l n ++ more) ≡ note_length l (length n.listed)
      note_first = sym (first_field (length n.listed) (note_file l n ++ more)) ∙ ap (λ (v : List ℕ). get_or v 0 0) note_fields_holds

      module _ (z : Sized l) where
        note_same : note_in l (note_file l n ++ more) ≡ n
        note_same =
            sym (note_of_fields (length n.listed) (note_file l n ++ more) (ap (listed_count l) note_first ∙ listed_count_holds l z (length n.listed)))
            ∙ ap note_of note_fields_holds

        -- The record of a note, once written, is read by the count of its numbers and its rules alone.
        pub note_back : (shift : ℕ) (bells : List Bell) (own at : ℕ)
            → note_record l shift bells own at (note_file l n ++ more) ≡ ◌>>◌ (require (leb (length n.listed) most_listed) wrong_note_length at) (note_rules shift bells own at n)
        unfolding note_record
        note_back shift bells own at =
            let p : List ℕ = note_file l n ++ more in
            let some : 1 ≤ length p = omega (arith, note_size l n, length-append (note_file l n) more) in
            let long : number 1 0 p < length p = omega (arith, note_size l n, note_first, length-append (note_file l n) more) in
            let last : Outcome Note = note_rules shift bells own at (note_in l p) in
            let two : Outcome Note = ◌>>◌ (require (ltb (number 1 0 p) (length p)) wrong_end at) last in
            passed (leb 1 (length p)) wrong_end at (◌>>◌ (require (is_note_length l (number 1 0 p)) wrong_note_length at) two) (le-leb 1 (length p) some)
            ∙ same_require (is_note_length l (number 1 0 p)) (leb (length n.listed) most_listed) wrong_note_length at two (note_rules shift bells own at n)
            (ap (is_note_length l) note_first ∙ note_lengths l z (length n.listed))
            (passed (ltb (number 1 0 p) (length p)) wrong_end at last (lt-ltb (number 1 0 p) (length p) long) ∙ ap (note_rules shift bells own at) note_same)
