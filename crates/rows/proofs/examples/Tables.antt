-- Tables of phrases word by word, worked out by hand, and the phrases that they hold. Assumes nothing.
use Rattle.std.specs.Prelude.{◌≡◌, refl, List, [], ◌∷◌, ◌++◌, ℕ, length, get_or, set, take, replicate}
use Rattle.format.specs.Bytes.{records}
use Rattle.format.specs.Outcome.{ok, refused}
use Rattle.format.specs.Phrase.{Phrase, sounding, find_from}
use Rattle.format.specs.Jobs.{no_note}
use Rattle.format.proofs.examples.Files.{bell, resting, note, bell0, bell1, phrase_p}
use Rattle.format.proofs.examples.Shifts.{phrase_s}
use Rattle.format.proofs.examples.Rests.{phrase_r as phraseT}
use Rattle.rows.specs.Rows.{rows_in}
use Rattle.rows.specs.BellRow.{bell_row}
use Rattle.rows.specs.NoteRow.{note_row_on}
use Rattle.rows.specs.PhraseTable.{phrase_table, phrase_of}

-- ---- document 01's phrase P

-- the header: version, cores, bells, notes, shift; 96 rows of 7 words for the bells; 64 rows of 10 words for the notes
abbrev table_p : List ℕ
table_p =
    (1 ∷ 1 ∷ 2 ∷ 2 ∷ 0 ∷ [])
    -- N, T, ca, cb, p, the rest, and the key that the bell sounds for
    ++ (60 ∷ 0 ∷ 2 ∷ 2 ∷ 1 ∷ 0 ∷ 60 ∷ [])
    ++ (62 ∷ 12 ∷ 4 ∷ 4 ∷ 2 ∷ 0 ∷ 74 ∷ [])
    ++ replicate 658 0
    -- key, ra, rb, d, how many jobs the note lists, four words for these, and the number of the bell that it strikes
    ++ (60 ∷ 0 ∷ 5 ∷ 7 ∷ 0 ∷ 0 ∷ 0 ∷ 0 ∷ 0 ∷ 0 ∷ [])
    ++ (74 ∷ 0 ∷ 0 ∷ 6 ∷ 0 ∷ 0 ∷ 0 ∷ 0 ∷ 0 ∷ 1 ∷ [])
    ++ replicate 620 0

pub p_table : phrase_table (ok phrase_p) ≡ table_p
unfolding records bell_row note_row_on sounding find_from
p_table = refl

pub p_held : phrase_of table_p ≡ phrase_p
unfolding rows_in
p_held = refl

-- ---- three bells, of which two are written for 62 and one of these sounds 12 below; note 1 lists a job, note 3 lists two

abbrev phrase_r : Phrase
phrase_r =
    record {
      version = 1;
      cores = 2;
      shift = 0;
      bells = bell 60 0 2 2 1 ∷ bell 62 244 3 9 0 ∷ bell 62 12 4 5 2 ∷ [];
      notes = note 74 1 2 9 [] ∷ note 50 0 5 7 (0 ∷ []) ∷ note 60 0 0 6 [] ∷ note 74 66051 263430 460809 (1 ∷ 2 ∷ []) ∷ [];
    }

abbrev table_r : List ℕ
table_r =
    (1 ∷ 2 ∷ 3 ∷ 4 ∷ 0 ∷ [])
    ++ (60 ∷ 0 ∷ 2 ∷ 2 ∷ 1 ∷ 0 ∷ 60 ∷ [])
    ++ (62 ∷ 244 ∷ 3 ∷ 9 ∷ 0 ∷ 0 ∷ 50 ∷ [])
    ++ (62 ∷ 12 ∷ 4 ∷ 5 ∷ 2 ∷ 0 ∷ 74 ∷ [])
    ++ replicate 651 0
    ++ (74 ∷ 1 ∷ 2 ∷ 9 ∷ 0 ∷ 0 ∷ 0 ∷ 0 ∷ 0 ∷ 2 ∷ [])
    ++ (50 ∷ 0 ∷ 5 ∷ 7 ∷ 1 ∷ 0 ∷ 0 ∷ 0 ∷ 0 ∷ 1 ∷ [])
    ++ (60 ∷ 0 ∷ 0 ∷ 6 ∷ 0 ∷ 0 ∷ 0 ∷ 0 ∷ 0 ∷ 0 ∷ [])
    ++ (74 ∷ 66051 ∷ 263430 ∷ 460809 ∷ 2 ∷ 1 ∷ 2 ∷ 0 ∷ 0 ∷ 2 ∷ [])
    ++ replicate 600 0

pub r_table : phrase_table (ok phrase_r) ≡ table_r
unfolding records bell_row note_row_on sounding find_from
r_table = refl

pub r_held : phrase_of table_r ≡ phrase_r
unfolding rows_in
r_held = refl

-- the header says how many rows are read: with one bell and two notes counted, these are the first
pub fewer_held : phrase_of (set (set table_r 2 1) 3 2)
    ≡ record { version = 1; cores = 2; shift = 0; bells = take 1 phrase_r.bells; notes = take 2 phrase_r.notes }
unfolding rows_in
fewer_held = refl

-- derived words (the key of bell 0, the bell of note 0) say nothing of the phrase
pub others_ignored : phrase_of (set (set table_p 11 99) 686 9) ≡ phrase_p
unfolding rows_in
others_ignored = refl

-- a note that counts five jobs lists more than four, whatever its row has room for
pub crowded : length (get_or (phrase_of (set table_p 681 5)).notes 0 no_note).listed ≡ 5
unfolding rows_in
crowded = refl

-- 97 bells and 65 notes are as many
pub counted :
    length (phrase_of (set table_p 2 97)).bells ∷ length (phrase_of (set table_p 3 65)).notes ∷ []
    ≡ 97 ∷ 65 ∷ []
unfolding rows_in
counted = refl

-- ---- a shift: keys as they are written, on the bells that they strike once they are moved

abbrev table_s : List ℕ
table_s =
    (2 ∷ 1 ∷ 2 ∷ 2 ∷ 252 ∷ [])
    ++ (60 ∷ 0 ∷ 2 ∷ 2 ∷ 1 ∷ 0 ∷ 60 ∷ [])
    ++ (62 ∷ 12 ∷ 4 ∷ 4 ∷ 2 ∷ 0 ∷ 74 ∷ [])
    ++ replicate 658 0
    ++ (64 ∷ 0 ∷ 5 ∷ 7 ∷ 0 ∷ 0 ∷ 0 ∷ 0 ∷ 0 ∷ 0 ∷ [])
    ++ (78 ∷ 0 ∷ 0 ∷ 6 ∷ 0 ∷ 0 ∷ 0 ∷ 0 ∷ 0 ∷ 1 ∷ [])
    ++ replicate 620 0

pub s_table : phrase_table (ok phrase_s) ≡ table_s
unfolding records bell_row note_row_on sounding find_from
s_table = refl

pub s_held : phrase_of table_s ≡ phrase_s
unfolding rows_in
s_held = refl

-- ---- rests: a word after the rank, whatever the version

pub bell_row_holds : bell_row (resting 300 (bell 62 244 3 9 7)) ≡ 62 ∷ 244 ∷ 3 ∷ 9 ∷ 7 ∷ 300 ∷ 50 ∷ []
unfolding bell_row sounding
bell_row_holds = refl

abbrev table_t : List ℕ
table_t =
    (3 ∷ 1 ∷ 2 ∷ 2 ∷ 252 ∷ [])
    ++ (60 ∷ 0 ∷ 2 ∷ 2 ∷ 1 ∷ 300 ∷ 60 ∷ [])
    ++ (62 ∷ 12 ∷ 4 ∷ 4 ∷ 2 ∷ 5000 ∷ 74 ∷ [])
    ++ replicate 658 0
    ++ (64 ∷ 0 ∷ 5 ∷ 7 ∷ 0 ∷ 0 ∷ 0 ∷ 0 ∷ 0 ∷ 0 ∷ [])
    ++ (78 ∷ 0 ∷ 0 ∷ 6 ∷ 0 ∷ 0 ∷ 0 ∷ 0 ∷ 0 ∷ 1 ∷ [])
    ++ replicate 620 0

pub t_table : phrase_table (ok phraseT) ≡ table_t
unfolding records bell_row note_row_on sounding find_from
t_table = refl

pub t_held : phrase_of table_t ≡ phraseT
unfolding rows_in
t_held = refl

-- a rest of 9 for bell 0 of P, which is of version 1
pub rest_held : (phrase_of (set table_p 10 9)).bells ≡ resting 9 bell0 ∷ bell1 ∷ []
unfolding rows_in
rest_held = refl

-- ---- a refusal: zeros only, and as many

pub refused_table : phrase_table (refused 12 36) ≡ replicate 1317 0
refused_table = refl

pub table_lengths : length table_p ∷ length table_r ∷ length table_t ∷ [] ≡ 1317 ∷ 1317 ∷ 1317 ∷ []
table_lengths = refl
