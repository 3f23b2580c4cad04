-- What the versions have alike: the ranges of a bell wherever a rest takes as many bytes, and the records of notes wherever a number listed takes one. Assumes nothing.
use Prim.Native.Nat.{ℕ, zero, suc, ◌+◌}
use mathlib.Core.Path.{◌≡◌, refl, ap, ◌∙◌}
use mathlib.Core.List.{List, [], ◌∷◌, ◌++◌}
use lib.Dec.{leb}
use lib.ListN.{length, drop}
use Rattle.model.specs.Refusals.{wrong_note_length}
use Rattle.format.specs.Bytes.{number, within}
use Rattle.format.specs.Layout.{Layout, first, is_version, most_listed, listed_count, is_note_length, note_length}
use Rattle.format.specs.Outcome.{Outcome, ◌>>=◌, ◌>>◌, require}
use Rattle.format.specs.Phrase.{Bell, Note}
use Rattle.format.specs.Rules.{is_rest, bell_in_range, note_rules, notes_rules}
use Rattle.format.specs.Reading.{note_in, note_record, notes_from}
use Rattle.format.specs.Writing.{note_file}
use Rattle.format.proofs.Passed.{same_then}

-- There are three versions.
pub versions_are : (v : ℕ) → is_version v ≡ within 1 3 v
unfolding is_version
versions_are v = refl

-- ---- bells

module _ (k l : Layout) (same : k.rest_bytes ≡ l.rest_bytes) where
  -- The same bells are in range.
  pub bell_in_range_holds : (b : Bell) → bell_in_range k b ≡ bell_in_range l b
  unfolding bell_in_range is_rest
  bell_in_range_holds b = rw (← same) refl

-- ---- notes

module _ (l : Layout) (one : first.listed_bytes ≡ l.listed_bytes) where
  note_record_holds : (shift : ℕ) (bells : List Bell) (own at : ℕ) (p : List ℕ) → note_record first shift bells own at p ≡ note_record l shift bells own at p
  unfolding note_record note_in is_note_length listed_count note_length
  note_record_holds shift bells own at p = rw (← one) refl

  -- Notes are read alike from a place on.
  pub notes_from_holds : (s : List ℕ) (shift : ℕ) (bells : List Bell) (n at : ℕ) (before : List Note)
      → notes_from first s shift bells n at before ≡ notes_from l s shift bells n at before
  unfolding notes_from
  notes_from_holds s shift bells zero at before = refl
  notes_from_holds s shift bells (suc n) at before =
      let to : ℕ = at + (1 + number 1 at s) in
      ap (λ (o : Outcome Note). ◌>>=◌ o (λ a. notes_from first s shift bells n to (before ++ a ∷ []))) (note_record_holds shift bells (length before) at (drop at s))
      ∙ same_then (note_record l shift bells (length before) at (drop at s)) _ _ (λ a. notes_from_holds s shift bells n to (before ++ a ∷ []))

  note_length_holds : (k : ℕ) → note_length first k ≡ note_length l k
  unfolding note_length
  note_length_holds k = rw (← one) refl

  -- The rules ask the same of notes from a place on.
  pub notes_rules_holds : (shift : ℕ) (bells : List Bell) (ns : List Note) (at : ℕ) (before : List Note)
      → notes_rules first shift bells ns at before ≡ notes_rules l shift bells ns at before
  unfolding notes_rules
  notes_rules_holds shift bells [] at before = refl
  notes_rules_holds shift bells (n ∷ ns) at before =
      let k : ℕ = length n.listed in
      ap (λ (o : Outcome (List Note)). ◌>>◌ (require (leb k most_listed) wrong_note_length at) o)
      (same_then (note_rules shift bells (length before) at n) _ _
      (λ c. ap (λ (m : ℕ). notes_rules first shift bells ns (at + (1 + m)) (before ++ c ∷ [])) (note_length_holds k)
      ∙ notes_rules_holds shift bells ns (at + (1 + note_length l k)) (before ++ c ∷ [])))

  -- A note has the same bytes.
  pub note_file_holds : note_file first ≡ note_file l
  unfolding note_file note_length
  note_file_holds = rw (← one) refl
