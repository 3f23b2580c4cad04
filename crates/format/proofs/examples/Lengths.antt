-- Versions, places, and the lengths of notes, of the layouts and of one with two bytes for a number that a note lists. Assumes nothing.
use Rattle.std.specs.Prelude.{◌≡◌, refl, true, false, [], ◌∷◌, map}
use Rattle.format.specs.Bytes.{digits}
use Rattle.format.specs.Layout.{Layout, first, second, third, is_version, layout, bell_count_at, bells_at, note_count_at, note_length, listed_count, is_note_length, most_bytes, longest_file}

-- Three versions are there; 0 and 4 are none.
pub version_numbers : map is_version (0 ∷ 1 ∷ 2 ∷ 3 ∷ 4 ∷ 255 ∷ []) ≡ false ∷ true ∷ true ∷ true ∷ false ∷ false ∷ []
unfolding is_version
version_numbers = refl

-- A number that is no version has the first layout.
pub layouts : map layout (0 ∷ 1 ∷ 2 ∷ 3 ∷ 4 ∷ []) ≡ first ∷ first ∷ second ∷ third ∷ first ∷ []
unfolding layout
layouts = refl

-- The first has no shift and no rests, one byte for the number of notes, one for a number that a note lists, and up to 64 notes.
pub first_layout : layout 1 ≡ record { shift_bytes = 0; rest_bytes = 0; count_bytes = 1; listed_bytes = 1; most_notes = 64 }
unfolding layout
first_layout = refl

-- The second has a byte for the shift, and is the first in all else.
pub second_layout : layout 2 ≡ record { shift_bytes = 1; rest_bytes = 0; count_bytes = 1; listed_bytes = 1; most_notes = 64 }
unfolding layout
second_layout = refl

-- The third has two bytes for a bell's rest, and is the second in all else.
pub third_layout : layout 3 ≡ record { shift_bytes = 1; rest_bytes = 2; count_bytes = 1; listed_bytes = 1; most_notes = 64 }
unfolding layout
third_layout = refl

-- Version, count and cores stand before the number of bells; a bell takes 7 bytes, a note up to 18: 7 + 96 * 7 + 1 + 64 * 18.
pub places : bell_count_at first ∷ bells_at first ∷ note_count_at first 2 ∷ most_bytes first ∷ [] ≡ 6 ∷ 7 ∷ 21 ∷ 1832 ∷ []
unfolding most_bytes
places = refl

-- With a shift before it, the number of bells stands a byte further on, and so does all that follows.
pub second_places : bell_count_at second ∷ bells_at second ∷ note_count_at second 2 ∷ most_bytes second ∷ [] ≡ 7 ∷ 8 ∷ 22 ∷ 1833 ∷ []
unfolding most_bytes
second_places = refl

-- With rests a bell takes 9 bytes: 8 + 2 * 9, and 8 + 96 * 9 + 1 + 64 * 18.
pub third_places : bell_count_at third ∷ bells_at third ∷ note_count_at third 1 ∷ note_count_at third 2 ∷ most_bytes third ∷ longest_file ∷ [] ≡ 7 ∷ 8 ∷ 17 ∷ 26 ∷ 2025 ∷ 2025 ∷ []
unfolding most_bytes
third_places = refl

-- ---- notes of 13 bytes and the numbers listed

abbrev two : Layout
two = record { shift_bytes = 1; rest_bytes = 2; count_bytes = 2; listed_bytes = 2; most_notes = 256 }

-- The lengths of notes that list none, one and four.
pub lengths : map (note_length first) (0 ∷ 1 ∷ 4 ∷ []) ≡ 13 ∷ 14 ∷ 17 ∷ []
unfolding note_length
lengths = refl

-- The same with two bytes for each.
pub wide_lengths : map (note_length two) (0 ∷ 1 ∷ 4 ∷ []) ≡ 13 ∷ 15 ∷ 21 ∷ []
unfolding note_length
wide_lengths = refl

-- How many numbers a note of a length lists.
pub counts : map (listed_count first) (13 ∷ 14 ∷ 17 ∷ []) ≡ 0 ∷ 1 ∷ 4 ∷ []
unfolding listed_count
counts = refl

-- The same with two bytes for each.
pub wide_counts : map (listed_count two) (13 ∷ 15 ∷ 21 ∷ []) ≡ 0 ∷ 1 ∷ 4 ∷ []
unfolding listed_count
wide_counts = refl

-- The least and the most length are right, and what is beyond is not.
pub right : map (is_note_length first) (0 ∷ 12 ∷ 13 ∷ 14 ∷ 17 ∷ 18 ∷ 255 ∷ []) ≡ false ∷ false ∷ true ∷ true ∷ true ∷ false ∷ false ∷ []
unfolding is_note_length
right = refl

-- With two bytes for each, no length ends within a number.
pub wide_right : map (is_note_length two) (12 ∷ 13 ∷ 14 ∷ 15 ∷ 21 ∷ 22 ∷ 23 ∷ []) ≡ false ∷ true ∷ false ∷ true ∷ true ∷ false ∷ false ∷ []
unfolding is_note_length
wide_right = refl

-- ---- numbers in bytes

-- The first digit comes first; a number that is too wide loses its first digits, a short one has zeros before.
pub bytes : digits 2 515 ∷ digits 1 316 ∷ digits 4 66051 ∷ [] ≡ (2 ∷ 3 ∷ []) ∷ (60 ∷ []) ∷ (0 ∷ 1 ∷ 2 ∷ 3 ∷ []) ∷ []
unfolding digits
bytes = refl
