-- The reading of a phrase file: the phrase that it holds, or the number and the place of the first refusal. Assumes nothing.
use Rattle.std.specs.Prelude.{ℕ, zero, suc, ◌+◌, ◌-◌, ◌&&◌, ◌||◌, List, [], ◌∷◌, ◌++◌, ltb, leb, eqb, length, get_or, drop}
use Rattle.model.specs.Limits.{most_cores}
use Rattle.model.specs.Refusals.{wrong_version, wrong_count, wrong_end, wrong_cores, wrong_bell_count, too_many_notes, wrong_note_length, wrong_shift}
use Rattle.format.specs.Bytes.{number, within, fields_in}
use Rattle.format.specs.Layout.{Layout, is_version, layout, byte_count_at, uncounted_bytes, cores_at, shift_at, bell_count_at, bells_at, bell_widths, bell_bytes, most_bells, note_count_at, note_widths, listed_count, is_note_length}
use Rattle.format.specs.Outcome.{Outcome, ok, ◌>>=◌, ◌>>◌, require}
use Rattle.format.specs.Phrase.{Bell, Note, Phrase}
use Rattle.format.specs.Rules.{is_shift, bell_rules, note_rules}

-- ---- records, read from the part of the file that begins at them: the fields first, then their rules

-- the bell of the fields of its record
abbrev pub bell_of : List ℕ → Bell
bell_of fields =
    record {
      written = get_or fields 0 0;
      transposition = get_or fields 1 0;
      least_execution = get_or fields 2 0;
      most_execution = get_or fields 3 0;
      rest = get_or fields 4 0;
      priority = get_or fields 5 0;
    }

unfoldable pub bell_in : Layout → List ℕ → Bell
unfolding fields_in
bell_in l p = bell_of (fields_in (bell_widths l) 0 p)

-- the bells before it are given, and its place
unfoldable pub bell_record : Layout → List Bell → ℕ → List ℕ → Outcome Bell
unfolding bell_in bell_rules
bell_record l before at p = do
  require (leb (bell_bytes l) (length p)) wrong_end at
  bell_rules l before at (bell_in l p)

-- the note of the fields of its record, the first of which is its length
abbrev pub note_of : List ℕ → Note
note_of fields =
    record {
      key = get_or fields 1 0;
      earliest_release = get_or fields 2 0;
      latest_release = get_or fields 3 0;
      deadline = get_or fields 4 0;
      listed = drop 5 fields;
    }

-- how many numbers the note lists
abbrev pub listed_by : Layout → List ℕ → ℕ
listed_by l p = listed_count l (number 1 0 p)

unfoldable pub note_in : Layout → List ℕ → Note
unfolding listed_count fields_in
note_in l p = note_of (fields_in (note_widths l (listed_by l p)) 0 p)

-- the shift and the bells are given, the note's own number, and its place
unfoldable pub note_record : Layout → ℕ → List Bell → ℕ → ℕ → List ℕ → Outcome Note
unfolding number is_note_length note_in note_rules
note_record l shift bells own at p = do
  require (leb 1 (length p)) wrong_end at
  require (is_note_length l (number 1 0 p)) wrong_note_length at
  require (ltb (number 1 0 p) (length p)) wrong_end at
  note_rules shift bells own at (note_in l p)

-- ---- the file

-- n more bells, from a place on, after those before
unfoldable pub bells_from : Layout → List ℕ → ℕ → ℕ → List Bell → Outcome (List Bell)
unfolding bell_record
bells_from l s zero at before = ok before
bells_from l s (suc n) at before = do
  b ← bell_record l before at (drop at s)
  bells_from l s n (at + bell_bytes l) (before ++ b ∷ [])

-- n more notes, from a place on, after those before; then the file ends
unfoldable pub notes_from : Layout → List ℕ → ℕ → List Bell → ℕ → ℕ → List Note → Outcome (List Note)
unfolding number note_record
notes_from l s shift bells zero at before = do
  require (leb (length s) at) wrong_end at
  ok before
notes_from l s shift bells (suc n) at before = do
  note ← note_record l shift bells (length before) at (drop at s)
  notes_from l s shift bells n (at + (1 + number 1 at s)) (before ++ note ∷ [])

-- the shift of a file: 0 where the version has none
abbrev pub shift_in : Layout → List ℕ → ℕ
shift_in l s = number l.shift_bytes shift_at s

unfoldable pub bells_in : Layout → List ℕ → Outcome (List Bell)
unfolding number within bells_from
bells_in l s = do
  require (ltb (bell_count_at l) (length s)) wrong_end (bell_count_at l)
  require (within 1 most_bells (number 1 (bell_count_at l) s)) wrong_bell_count (bell_count_at l)
  bells_from l s (number 1 (bell_count_at l) s) (bells_at l) []

-- the place of the number of notes is given
unfoldable pub notes_in : Layout → List ℕ → ℕ → List Bell → ℕ → Outcome (List Note)
unfolding number notes_from
notes_in l s shift bells at = do
  require (leb (at + l.count_bytes) (length s)) wrong_end at
  require (leb (number l.count_bytes at s) l.most_notes) too_many_notes at
  notes_from l s shift bells (number l.count_bytes at s) (at + l.count_bytes) []

unfoldable pub reading_by : Layout → List ℕ → Outcome Phrase
unfolding number within is_shift bells_in notes_in
reading_by l s = do
  require (leb uncounted_bytes (length s) && eqb (number 4 byte_count_at s) (length s - uncounted_bytes)) wrong_count 0
  require (ltb cores_at (length s)) wrong_end cores_at
  require (within 1 most_cores (number 1 cores_at s)) wrong_cores cores_at
  require (leb (shift_at + l.shift_bytes) (length s)) wrong_end shift_at
  require (is_shift l (shift_in l s)) wrong_shift shift_at
  bells ← bells_in l s
  notes ← notes_in l s (shift_in l s) bells (note_count_at l (number 1 (bell_count_at l) s))
  ok (record { version = number 1 0 s; cores = number 1 cores_at s; shift = shift_in l s; bells = bells; notes = notes })

-- Checks run 1, 2, then file order.
unfoldable pub reading : List ℕ → Outcome Phrase
unfolding number is_version layout reading_by
reading s = do
  require (leb (length s) 0 || is_version (number 1 0 s)) wrong_version 0
  reading_by (layout (number 1 0 s)) s
