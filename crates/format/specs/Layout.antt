-- What the versions of the phrase file differ in, a row for each; and where each field stands. Assumes nothing.
use Rattle.std.specs.Prelude.{ℕ, ◌+◌, ◌-◌, ◌*◌, ◌/◌, Bool, ◌&&◌, List, [], ◌∷◌, leb, eqb, length, get_or, replicate}
use Rattle.model.specs.Limits.{most_jobs}
use Rattle.format.specs.Bytes.{within}

-- The widths of the shift, of a bell's rest, of the number of notes (K) and of a number that a note lists; and the most notes. A field of width 0 is not in
-- the file: it is read as 0, and only 0 fits it.
pub record Layout : Type 0 where
  pub shift_bytes : ℕ
  pub rest_bytes : ℕ
  pub count_bytes : ℕ
  pub listed_bytes : ℕ
  pub most_notes : ℕ

abbrev pub first : Layout
first = record { shift_bytes = 0; rest_bytes = 0; count_bytes = 1; listed_bytes = 1; most_notes = most_jobs }

-- with a shift
abbrev pub second : Layout
second = record { shift_bytes = 1; rest_bytes = 0; count_bytes = 1; listed_bytes = 1; most_notes = most_jobs }

-- with a rest for each bell, too
abbrev pub third : Layout
third = record { shift_bytes = 1; rest_bytes = 2; count_bytes = 1; listed_bytes = 1; most_notes = most_jobs }

-- Versions 1 to 3.
abbrev pub versions : List Layout
versions = first ∷ second ∷ third ∷ []

unfoldable pub is_version : ℕ → Bool
unfolding within
is_version v = within 1 (length versions) v

-- the layout of a version (a number that is none has the first)
unfoldable pub layout : ℕ → Layout
layout v = get_or versions (v - 1) first

-- ---- the header: version, count of all bytes after the count, cores (m), shift, number of bells

abbrev pub head_widths : Layout → List ℕ
head_widths l = 1 ∷ 4 ∷ 1 ∷ l.shift_bytes ∷ 1 ∷ []

abbrev pub byte_count_at : ℕ
byte_count_at = 1

-- the bytes up to the end of the count
abbrev pub uncounted_bytes : ℕ
uncounted_bytes = 5

abbrev pub cores_at : ℕ
cores_at = 5

abbrev pub shift_at : ℕ
shift_at = 6

abbrev pub bell_count_at : Layout → ℕ
bell_count_at l = shift_at + l.shift_bytes

abbrev pub bells_at : Layout → ℕ
bells_at l = shift_at + l.shift_bytes + 1

-- ---- a bell: key written (N), transposition (T), least and most execution (ca, cb), rest, priority (p)

abbrev pub bell_widths : Layout → List ℕ
bell_widths l = 1 ∷ 1 ∷ 2 ∷ 2 ∷ l.rest_bytes ∷ 1 ∷ []

abbrev pub bell_bytes : Layout → ℕ
bell_bytes l = 7 + l.rest_bytes

abbrev pub most_bells : ℕ
most_bells = 96

-- where the number of notes stands, after n bells
abbrev pub note_count_at : Layout → ℕ → ℕ
note_count_at l n = bells_at l + n * bell_bytes l

-- ---- a note: a byte that counts those after it, key, earliest and latest release (ra, rb), deadline (d), and k numbers listed

abbrev pub note_widths : Layout → ℕ → List ℕ
note_widths l k = 1 ∷ 1 ∷ 4 ∷ 4 ∷ 4 ∷ replicate k l.listed_bytes

-- the bytes from the key to the deadline
abbrev pub note_bytes : ℕ
note_bytes = 13

abbrev pub most_listed : ℕ
most_listed = 4

-- what the length byte of a note counts, with k numbers listed
unfoldable pub note_length : Layout → ℕ → ℕ
note_length l k = note_bytes + k * l.listed_bytes

-- how many numbers a note of a length lists
unfoldable pub listed_count : Layout → ℕ → ℕ
listed_count l n = (n - note_bytes) / l.listed_bytes

-- the length is that of a note that lists at most four
unfoldable pub is_note_length : Layout → ℕ → Bool
unfolding note_length listed_count
is_note_length l n = leb (listed_count l n) most_listed && eqb (note_length l (listed_count l n)) n

-- no phrase of the version has a longer file: the most bells, the number of notes, and the most notes, each with the most numbers listed
unfoldable pub most_bytes : Layout → ℕ
unfolding note_length
most_bytes l = note_count_at l most_bells + l.count_bytes + l.most_notes * (1 + note_length l most_listed)

-- no phrase of any version has a longer file
abbrev pub longest_file : ℕ
longest_file = 2025
