-- A record that is read is the file of what was read, and its fields fit. Assumes nothing.
use Prim.Native.Nat.{ℕ, ◌+◌, ◌≤◌, ◌<◌}
use mathlib.Core.Path.{◌≡◌, refl, sym, ap, ◌∙◌, subst}
use mathlib.Core.Bool.{true}
use mathlib.Core.List.{List, ◌∷◌, ◌++◌}
use native.Mathlib.Omega.{arith}
use lib.Dec.{leb, ltb}
use lib.ListN.{length, take, drop, length-drop, length-replicate, take-append-drop}
use borrow.Author.Tests.{leb-true, ltb-true}
use Rattle.model.specs.Refusals.{wrong_end, wrong_bell, doubled_key, wrong_note_length, silent_key, wrong_times, wrong_listed}
use Rattle.format.specs.Bytes.{AreBytes, number, total, fields_in, fields_file}
use Rattle.format.specs.Layout.{Layout, bell_bytes, note_length, is_note_length, bell_widths, note_widths}
use Rattle.format.specs.Outcome.{ok}
use Rattle.format.specs.Phrase.{Bell, Note, sounding, find_sounding, find, is_none, is_some}
use Rattle.format.specs.Rules.{bell_in_range, bell_rules, are_times, rises, note_rules}
use Rattle.format.specs.Reading.{bell_in, bell_record, listed_by, note_in, note_record}
use Rattle.format.specs.Writing.{bell_fields, bell_file, note_file}
use Rattle.format.specs.Fits.{FieldsFit}
use Rattle.format.proofs.Passed.{required}
use Rattle.format.proofs.Fields.{fields_fit, fields_file_holds, fields_count}
use Rattle.format.proofs.Layouts.{bell_total_holds, note_total, length_is}
use Rattle.format.proofs.Records.{BellFits, NoteFits, bell_fields_holds}

-- the first fields of a list of bytes are the list as far as they reach
opened : (p : List ℕ) → AreBytes p → (ws vs : List ℕ) (n : ℕ) → total ws ≡ n → vs ≡ fields_in ws 0 p → n ≤ length p → p ≡ fields_file ws vs ++ drop n p
opened p bytes ws vs n t e h =
    sym (take-append-drop n p)
    ∙ ap (λ (k : ℕ). take k p ++ drop n p) (sym t)
    ∙ ap (λ (r : List ℕ). r ++ drop n p) (sym (fields_file_holds p bytes ws 0 (omega arith)))
    ∙ ap (λ (v : List ℕ). fields_file ws v ++ drop n p) (sym e)

-- A bell that the rules let pass keeps to them, and is the one that they were asked.
pub bell_passed : (l : Layout) (before : List Bell) (at : ℕ) (a b : Bell) → bell_rules l before at a ≡ ok b
    → (bell_in_range l a ≡ true) × (is_none (find_sounding (sounding a) before) ≡ true) × (a ≡ b)
unfolding bell_rules
bell_passed l before at a b e =
    let range = required (bell_in_range l a) wrong_bell at e in
    let alone = required (is_none (find_sounding (sounding a) before)) doubled_key at range.1 in
    (range.0, alone.0, cc alone.1)

-- A note that the rules let pass keeps to them, and is the one that they were asked.
pub note_passed : (shift : ℕ) (bells : List Bell) (own at : ℕ) (a b : Note) → note_rules shift bells own at a ≡ ok b
    → (is_some (find a.key shift bells) ≡ true) × (are_times a.earliest_release a.latest_release a.deadline ≡ true) × (rises own 0 a.listed ≡ true) × (a ≡ b)
unfolding note_rules
note_passed shift bells own at a b e =
    let times = required (are_times a.earliest_release a.latest_release a.deadline) wrong_times at e in
    let sounds = required (is_some (find a.key shift bells)) silent_key at times.1 in
    let rise = required (rises own 0 a.listed) wrong_listed at sounds.1 in
    (sounds.0, times.0, rise.0, cc rise.1)

-- A bell that is read: its fields fit, and its file opens the bytes.
pub record BellGiven (l : Layout) (p : List ℕ) (b : Bell) : Type 0 where
  pub fits : BellFits l b
  pub file : p ≡ bell_file l b ++ drop (bell_bytes l) p

-- A bell that is read from bytes is given by them.
pub bell_given : (l : Layout) (before : List Bell) (at : ℕ) (p : List ℕ) (b : Bell) → AreBytes p → bell_record l before at p ≡ ok b → BellGiven l p b
unfolding bell_record bell_file
bell_given l before at p b bytes e =
    let long = required (leb (bell_bytes l) (length p)) wrong_end at e in
    let same : bell_in l p ≡ b = (bell_passed l before at (bell_in l p) b long.1).2 in
    let enough = leb-true (bell_bytes l) (length p) long.0 in
    subst (BellGiven l p) same record {
      fits = subst (FieldsFit (bell_widths l)) (sym (bell_fields_holds l p)) (fields_fit p bytes (bell_widths l) 0);
      file = opened p bytes (bell_widths l) (bell_fields (bell_in l p)) (bell_bytes l) (bell_total_holds l) (bell_fields_holds l p) enough;
    }

-- A note that is read: its fields fit, and its file opens the bytes.
pub record NoteGiven (l : Layout) (p : List ℕ) (n : Note) : Type 0 where
  pub fits : NoteFits l n
  pub file : p ≡ note_file l n ++ drop (1 + number 1 0 p) p

-- the fields after the length
abbrev later : Layout → List ℕ → List ℕ
later l p = drop 1 (fields_in (note_widths l (listed_by l p)) 0 p)

module _ (l : Layout) (p : List ℕ) where
  listed_length : length (note_in l p).listed ≡ listed_by l p
  unfolding note_in
  listed_length =
      let ws : List ℕ = note_widths l (listed_by l p) in
      omega (arith, length-drop 5 (fields_in ws 0 p), fields_count ws 0 p, length-replicate (listed_by l p) l.listed_bytes)

  fields_are : number 1 0 p ∷ later l p ≡ fields_in (note_widths l (listed_by l p)) 0 p
  unfolding fields_in
  fields_are = refl

  module _ (bytes : AreBytes p) (size : note_length l (listed_by l p) ≡ number 1 0 p) where
    note_fits : NoteFits l (note_in l p)
    unfolding note_in fields_in
    note_fits =
        let first = subst (FieldsFit (note_widths l (listed_by l p))) (sym fields_are) (fields_fit p bytes (note_widths l (listed_by l p)) 0) in
        subst (λ (k : ℕ). FieldsFit (note_widths l k) (note_length l k ∷ later l p)) (sym listed_length)
        (subst (λ (m : ℕ). FieldsFit (note_widths l (listed_by l p)) (m ∷ later l p)) (sym size) first)

    note_whole : number 1 0 p < length p → p ≡ note_file l (note_in l p) ++ drop (1 + number 1 0 p) p
    unfolding note_file note_in fields_in
    note_whole long =
        let n : ℕ = 1 + number 1 0 p in
        let k : ℕ = listed_by l p in
        opened p bytes (note_widths l k) (number 1 0 p ∷ later l p) n (note_total l k ∙ ap (λ (m : ℕ). 1 + m) size) fields_are (omega arith)
        ∙ ap (λ (m : ℕ). fields_file (note_widths l k) (m ∷ later l p) ++ drop n p) (sym size)
        ∙ ap (λ (j : ℕ). fields_file (note_widths l j) (note_length l j ∷ later l p) ++ drop n p) (sym listed_length)

-- A note that is read from bytes is given by them.
pub note_given : (l : Layout) (shift : ℕ) (bells : List Bell) (own at : ℕ) (p : List ℕ) (n : Note) → AreBytes p
    → note_record l shift bells own at p ≡ ok n → NoteGiven l p n
unfolding note_record
note_given l shift bells own at p n bytes e =
    let some = required (leb 1 (length p)) wrong_end at e in
    let size = required (is_note_length l (number 1 0 p)) wrong_note_length at some.1 in
    let long = required (ltb (number 1 0 p) (length p)) wrong_end at size.1 in
    let same : note_in l p ≡ n = (note_passed shift bells own at (note_in l p) n long.1).3 in
    let is = length_is l (number 1 0 p) size.0 in
    let enough = ltb-true (number 1 0 p) (length p) long.0 in
    subst (NoteGiven l p) same record { fits = note_fits l p bytes is.1; file = note_whole l p bytes is.1 enough }
