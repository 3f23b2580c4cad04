-- The reading and the rules of a phrase as they are, but with any rules of a note. Assumes nothing.
use Prim.Native.Nat.{ℕ, zero, suc, ◌+◌, ◌-◌}
use mathlib.Core.Path.{◌≡◌, refl, ap}
use mathlib.Core.Bool.{◌&&◌, ◌||◌}
use mathlib.Core.List.{List, [], ◌∷◌, ◌++◌}
use lib.Dec.{leb, ltb, eqb}
use lib.ListN.{length, drop}
use Rattle.model.specs.Limits.{most_cores}
use Rattle.model.specs.Refusals.{wrong_version, wrong_count, wrong_end, wrong_cores, too_many_notes, wrong_note_length, wrong_shift}
use Rattle.format.specs.Bytes.{number, within}
use Rattle.format.specs.Layout.{Layout, is_version, layout, byte_count_at, uncounted_bytes, cores_at, shift_at, bell_count_at, note_count_at, most_listed, note_length, is_note_length}
use Rattle.format.specs.Outcome.{Outcome, ok, ◌>>=◌, ◌>>◌, require}
use Rattle.format.specs.Phrase.{Bell, Note, Phrase}
use Rattle.format.specs.Rules.{is_shift, note_rules, notes_rules, all_bells, all_notes, rules_by, rules}
use Rattle.format.specs.Reading.{note_in, note_record, notes_from, shift_in, bells_in, notes_in, reading_by, reading}
use Rattle.format.proofs.Passed.{same_then}

-- the rules of a note at its place, with its own number, under a shift and with the bells
abbrev pub NoteRules : Type 0
NoteRules = ℕ → List Bell → ℕ → ℕ → Note → Outcome Note

unfoldable pub note_record_with : NoteRules → Layout → ℕ → List Bell → ℕ → ℕ → List ℕ → Outcome Note
note_record_with r l shift bells own at p = do
  require (leb 1 (length p)) wrong_end at
  require (is_note_length l (number 1 0 p)) wrong_note_length at
  require (ltb (number 1 0 p) (length p)) wrong_end at
  r shift bells own at (note_in l p)

unfoldable pub notes_from_with : NoteRules → Layout → List ℕ → ℕ → List Bell → ℕ → ℕ → List Note → Outcome (List Note)
notes_from_with r l s shift bells zero at before = do
  require (leb (length s) at) wrong_end at
  ok before
notes_from_with r l s shift bells (suc n) at before = do
  note ← note_record_with r l shift bells (length before) at (drop at s)
  notes_from_with r l s shift bells n (at + (1 + number 1 at s)) (before ++ note ∷ [])

unfoldable pub notes_in_with : NoteRules → Layout → List ℕ → ℕ → List Bell → ℕ → Outcome (List Note)
notes_in_with r l s shift bells at = do
  require (leb (at + l.count_bytes) (length s)) wrong_end at
  require (leb (number l.count_bytes at s) l.most_notes) too_many_notes at
  notes_from_with r l s shift bells (number l.count_bytes at s) (at + l.count_bytes) []

unfoldable pub reading_by_with : NoteRules → Layout → List ℕ → Outcome Phrase
reading_by_with r l s = do
  require (leb uncounted_bytes (length s) && eqb (number 4 byte_count_at s) (length s - uncounted_bytes)) wrong_count 0
  require (ltb cores_at (length s)) wrong_end cores_at
  require (within 1 most_cores (number 1 cores_at s)) wrong_cores cores_at
  require (leb (shift_at + l.shift_bytes) (length s)) wrong_end shift_at
  require (is_shift l (shift_in l s)) wrong_shift shift_at
  bells ← bells_in l s
  notes ← notes_in_with r l s (shift_in l s) bells (note_count_at l (number 1 (bell_count_at l) s))
  ok (record { version = number 1 0 s; cores = number 1 cores_at s; shift = shift_in l s; bells = bells; notes = notes })

unfoldable pub reading_with : NoteRules → List ℕ → Outcome Phrase
reading_with r s = do
  require (leb (length s) 0 || is_version (number 1 0 s)) wrong_version 0
  reading_by_with r (layout (number 1 0 s)) s

unfoldable pub notes_rules_with : NoteRules → Layout → ℕ → List Bell → List Note → ℕ → List Note → Outcome (List Note)
notes_rules_with r l shift bells [] at before = ok before
notes_rules_with r l shift bells (n ∷ ns) at before = do
  require (leb (length n.listed) most_listed) wrong_note_length at
  c ← r shift bells (length before) at n
  notes_rules_with r l shift bells ns (at + (1 + note_length l (length n.listed))) (before ++ c ∷ [])

unfoldable pub all_notes_with : NoteRules → Layout → ℕ → List Bell → List Note → ℕ → Outcome (List Note)
all_notes_with r l shift bells notes at = do
  require (leb (length notes) l.most_notes) too_many_notes at
  notes_rules_with r l shift bells notes (at + l.count_bytes) []

unfoldable pub rules_by_with : NoteRules → Layout → Phrase → Outcome Phrase
rules_by_with r l x = do
  require (within 1 most_cores x.cores) wrong_cores cores_at
  require (is_shift l x.shift) wrong_shift shift_at
  bells ← all_bells l x.bells
  notes ← all_notes_with r l x.shift bells x.notes (note_count_at l (length x.bells))
  ok (record { version = x.version; cores = x.cores; shift = x.shift; bells = bells; notes = notes })

unfoldable pub rules_with : NoteRules → Phrase → Outcome Phrase
rules_with r x = do
  require (is_version x.version) wrong_version 0
  rules_by_with r (layout x.version) x

-- ---- with the rules of a note as they are, these are the reading and the rules

notes_from_now : (l : Layout) (s : List ℕ) (shift : ℕ) (bells : List Bell) (n at : ℕ) (before : List Note) → notes_from l s shift bells n at before ≡ notes_from_with note_rules l s shift bells n at before
unfolding notes_from notes_from_with note_record note_record_with
notes_from_now l s shift bells zero at before = refl
notes_from_now l s shift bells (suc n) at before =
    same_then (note_record l shift bells (length before) at (drop at s)) _ _ (λ a. notes_from_now l s shift bells n (at + (1 + number 1 at s)) (before ++ a ∷ []))

notes_rules_now : (l : Layout) (shift : ℕ) (bells : List Bell) (ns : List Note) (at : ℕ) (before : List Note) → notes_rules l shift bells ns at before ≡ notes_rules_with note_rules l shift bells ns at before
unfolding notes_rules notes_rules_with
notes_rules_now l shift bells [] at before = refl
notes_rules_now l shift bells (n ∷ ns) at before =
    ap (λ (o : Outcome (List Note)). ◌>>◌ (require (leb (length n.listed) most_listed) wrong_note_length at) o)
    (same_then (note_rules shift bells (length before) at n) _ _
    (λ c. notes_rules_now l shift bells ns (at + (1 + note_length l (length n.listed))) (before ++ c ∷ [])))

notes_in_now : (l : Layout) (s : List ℕ) (shift : ℕ) (bells : List Bell) (at : ℕ) → notes_in l s shift bells at ≡ notes_in_with note_rules l s shift bells at
unfolding notes_in notes_in_with
notes_in_now l s shift bells at = rw notes_from_now refl

all_notes_now : (l : Layout) (shift : ℕ) (bells : List Bell) (ns : List Note) (at : ℕ) → all_notes l shift bells ns at ≡ all_notes_with note_rules l shift bells ns at
unfolding all_notes all_notes_with
all_notes_now l shift bells ns at = rw notes_rules_now refl

-- The reading is that with the rules of a note as they are.
pub reading_now : (s : List ℕ) → reading s ≡ reading_with note_rules s
unfolding reading reading_with reading_by reading_by_with
reading_now s = simp notes_in_now

-- So are the rules of a phrase.
pub rules_now : (x : Phrase) → rules x ≡ rules_with note_rules x
unfolding rules rules_with rules_by rules_by_with
rules_now x = simp all_notes_now
