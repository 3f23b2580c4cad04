-- The numbers of the refusals, by name. Assumes nothing.
use Rattle.std.specs.Prelude.{ℕ}

-- ---- of reading

abbrev pub wrong_version : ℕ
wrong_version = 1

-- fewer than 5 bytes, or the count is not that of the bytes after it
abbrev pub wrong_count : ℕ
wrong_count = 2

-- a field or a record passes the end, or bytes remain
abbrev pub wrong_end : ℕ
wrong_end = 3

abbrev pub wrong_cores : ℕ
wrong_cores = 4

abbrev pub wrong_bell_count : ℕ
wrong_bell_count = 5

-- a field of a bell is out of its range
abbrev pub wrong_bell : ℕ
wrong_bell = 6

-- an earlier bell sounds for the same key
abbrev pub doubled_key : ℕ
doubled_key = 7

abbrev pub too_many_notes : ℕ
too_many_notes = 8

abbrev pub wrong_note_length : ℕ
wrong_note_length = 9

-- no bell sounds for the key
abbrev pub silent_key : ℕ
silent_key = 10

abbrev pub wrong_times : ℕ
wrong_times = 11

-- the jobs that a note lists do not rise, or not below its own
abbrev pub wrong_listed : ℕ
wrong_listed = 12

-- ---- of the analysis

abbrev pub level_full : ℕ
level_full = 13

-- a job may miss its deadline
abbrev pub late_job : ℕ
late_job = 14

-- ---- of the report

-- the buffer is shorter than the text
abbrev pub short_buffer : ℕ
short_buffer = 15

-- ---- of writing

-- the buffer is shorter than the file
abbrev pub short_file : ℕ
short_file = 16

-- ---- of a playing

-- its version, its count or its number of jobs is wrong
abbrev pub wrong_playing : ℕ
wrong_playing = 17

-- a release or an execution time lies outside its range
abbrev pub outside_range : ℕ
outside_range = 18

-- ---- of reading, from version 2 on

-- the shift is out of its range, or not 0 where the version has none
abbrev pub wrong_shift : ℕ
wrong_shift = 19
