-- The rules of the phrase file, on fields, which may be wider than their bytes: a line for each, with its number and place. Assumes nothing.
use Rattle.std.specs.Prelude.{ℕ, ◌+◌, ◌-◌, Bool, true, ◌&&◌, ◌||◌, List, [], ◌∷◌, ◌++◌, leb, ltb, length}
use Rattle.model.specs.Limits.{most_cores, longest_execution, longest_rest, latest_time}
use Rattle.model.specs.Refusals.{wrong_version, wrong_cores, wrong_bell_count, wrong_bell, doubled_key, too_many_notes, wrong_note_length, silent_key, wrong_times, wrong_listed, wrong_shift}
use Rattle.format.specs.Bytes.{fits, within}
use Rattle.format.specs.Layout.{Layout, is_version, layout, cores_at, shift_at, bell_count_at, bells_at, bell_bytes, note_count_at, most_bells, most_listed, note_length}
use Rattle.format.specs.Outcome.{Outcome, ok, ◌>>=◌, ◌>>◌, require}
use Rattle.format.specs.Phrase.{Bell, Note, Phrase, sounding, find_from, find_sounding, find, is_none, is_some}

abbrev pub lowest_key : ℕ
lowest_key = 12

abbrev pub highest_key : ℕ
highest_key = 119

abbrev pub most_transposed : ℕ
most_transposed = 24

-- ---- semitones

-- -24 to 24, as a signed byte
unfoldable pub is_transposition : ℕ → Bool
unfolding within
is_transposition t = leb t most_transposed || within (256 - most_transposed) 255 t

-- the shift of a phrase: 0 where the version has none
unfoldable pub is_shift : Layout → ℕ → Bool
unfolding is_transposition
is_shift l t = is_transposition t && fits l.shift_bytes t

-- ---- a bell

unfoldable pub is_execution_range : ℕ → ℕ → Bool
is_execution_range least most = leb 1 least && (leb least most && leb most longest_execution)

-- the rest of a bell: 0 where the version has none
unfoldable pub is_rest : Layout → ℕ → Bool
is_rest l r = leb r longest_rest && fits l.rest_bytes r

unfoldable pub bell_in_range : Layout → Bell → Bool
unfolding within is_transposition sounding is_execution_range is_rest
bell_in_range l b =
    within lowest_key highest_key b.written
    && (is_transposition b.transposition
    && (within lowest_key highest_key (sounding b)
    && (is_execution_range b.least_execution b.most_execution && (is_rest l b.rest && fits 1 b.priority))))

-- a bell at its place, after those before it
unfoldable pub bell_rules : Layout → List Bell → ℕ → Bell → Outcome Bell
unfolding bell_in_range find_from
bell_rules l before at b = do
  require (bell_in_range l b) wrong_bell at
  require (is_none (find_sounding (sounding b) before)) doubled_key at
  ok b

-- ---- a note

-- ra ≤ rb, and rb and d at most an hour; d is free against ra
unfoldable pub are_times : ℕ → ℕ → ℕ → Bool
are_times ra rb d = leb ra rb && (leb rb latest_time && leb d latest_time)

-- the numbers rise strictly, from `low` on, and stay below the note's own
unfoldable pub rises : ℕ → ℕ → List ℕ → Bool
rises own low [] = true
rises own low (w ∷ ws) = leb low w && (ltb w own && rises own (w + 1) ws)

-- a note at its place, with its own number, under a shift: its times, its key, then what it lists
unfoldable pub note_rules : ℕ → List Bell → ℕ → ℕ → Note → Outcome Note
unfolding find_from are_times rises
note_rules shift bells own at n = do
  require (are_times n.earliest_release n.latest_release n.deadline) wrong_times at
  require (is_some (find n.key shift bells)) silent_key at
  require (rises own 0 n.listed) wrong_listed at
  ok n

-- ---- a phrase, in the order of its file

-- these bells, from a place on, after those before
unfoldable pub bells_rules : Layout → List Bell → ℕ → List Bell → Outcome (List Bell)
unfolding bell_rules
bells_rules l [] at before = ok before
bells_rules l (b ∷ bs) at before = do
  c ← bell_rules l before at b
  bells_rules l bs (at + bell_bytes l) (before ++ c ∷ [])

-- these notes, from a place on, after those before
unfoldable pub notes_rules : Layout → ℕ → List Bell → List Note → ℕ → List Note → Outcome (List Note)
unfolding note_rules note_length
notes_rules l shift bells [] at before = ok before
notes_rules l shift bells (n ∷ ns) at before = do
  require (leb (length n.listed) most_listed) wrong_note_length at
  c ← note_rules shift bells (length before) at n
  notes_rules l shift bells ns (at + (1 + note_length l (length n.listed))) (before ++ c ∷ [])

unfoldable pub all_bells : Layout → List Bell → Outcome (List Bell)
unfolding within bells_rules
all_bells l bells = do
  require (within 1 most_bells (length bells)) wrong_bell_count (bell_count_at l)
  bells_rules l bells (bells_at l) []

-- from the place of their number on
unfoldable pub all_notes : Layout → ℕ → List Bell → List Note → ℕ → Outcome (List Note)
unfolding notes_rules
all_notes l shift bells notes at = do
  require (leb (length notes) l.most_notes) too_many_notes at
  notes_rules l shift bells notes (at + l.count_bytes) []

unfoldable pub rules_by : Layout → Phrase → Outcome Phrase
unfolding within is_shift all_bells all_notes
rules_by l x = do
  require (within 1 most_cores x.cores) wrong_cores cores_at
  require (is_shift l x.shift) wrong_shift shift_at
  bells ← all_bells l x.bells
  notes ← all_notes l x.shift bells x.notes (note_count_at l (length x.bells))
  ok (record { version = x.version; cores = x.cores; shift = x.shift; bells = bells; notes = notes })

unfoldable pub rules : Phrase → Outcome Phrase
unfolding is_version layout rules_by
rules x = do
  require (is_version x.version) wrong_version 0
  rules_by (layout x.version) x
