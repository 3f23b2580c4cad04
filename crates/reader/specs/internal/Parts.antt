-- The reading of a file in three parts: the header, the shift, and what follows it. Assumes nothing.
use Rattle.std.specs.Prelude.{ℕ, ◌+◌, ◌-◌, ◌&&◌, ◌||◌, List, ltb, leb, eqb, length}
use Rattle.model.specs.Limits.{most_cores}
use Rattle.model.specs.Refusals.{wrong_version, wrong_count, wrong_end, wrong_cores, wrong_shift}
use Rattle.format.specs.Bytes.{number, within}
use Rattle.format.specs.Layout.{Layout, is_version, byte_count_at, uncounted_bytes, cores_at, shift_at, bell_count_at, note_count_at}
use Rattle.format.specs.Outcome.{Outcome, ok, ◌>>=◌, ◌>>◌, require}
use Rattle.format.specs.Phrase.{Phrase}
use Rattle.format.specs.Rules.{is_shift}
use Rattle.format.specs.Reading.{shift_in, bells_in, notes_in}

-- what `reading` tests before the shift
unfoldable pub header_of : List ℕ → Outcome (Unit {0})
unfolding number within is_version
header_of s = do
  require (leb (length s) 0 || is_version (number 1 0 s)) wrong_version 0
  require (leb uncounted_bytes (length s) && eqb (number 4 byte_count_at s) (length s - uncounted_bytes)) wrong_count 0
  require (ltb cores_at (length s)) wrong_end cores_at
  require (within 1 most_cores (number 1 cores_at s)) wrong_cores cores_at

-- what it tests of the shift
unfoldable pub shift_of : Layout → List ℕ → Outcome (Unit {0})
unfolding number is_shift
shift_of l s = do
  require (leb (shift_at + l.shift_bytes) (length s)) wrong_end shift_at
  require (is_shift l (shift_in l s)) wrong_shift shift_at

-- what it reads after that
unfoldable pub body_of : Layout → List ℕ → Outcome Phrase
unfolding number bells_in notes_in
body_of l s = do
  bells ← bells_in l s
  notes ← notes_in l s (shift_in l s) bells (note_count_at l (number 1 (bell_count_at l) s))
  ok (record { version = number 1 0 s; cores = number 1 cores_at s; shift = shift_in l s; bells = bells; notes = notes })
