-- Document 01's phrase P and refusals 1 to 12, and further files, in one table with one result. Assumes nothing.
use Rattle.std.specs.Prelude.{ℕ, ◌≡◌, refl, List, [], ◌∷◌, ◌++◌, map, take, set}
use Rattle.format.specs.Outcome.{Outcome, ok, refused}
use Rattle.format.specs.Phrase.{Bell, Note, Phrase}
use Rattle.format.specs.Reading.{reading}

-- a file, and the outcome of reading it that is due
pub record Case : Type 0 where
  pub file : List ℕ
  pub expected : Outcome Phrase

-- phrase P, as document 01 prints it
abbrev pub file_p : List ℕ
file_p =
    0x01
    ∷ 0x00 ∷ 0x00 ∷ 0x00 ∷ 0x2D
    ∷ 0x01
    ∷ 0x02
    ∷ 0x3C ∷ 0x00 ∷ 0x00 ∷ 0x02 ∷ 0x00 ∷ 0x02 ∷ 0x01
    ∷ 0x3E ∷ 0x0C ∷ 0x00 ∷ 0x04 ∷ 0x00 ∷ 0x04 ∷ 0x02
    ∷ 0x02
    ∷ 0x0D ∷ 0x3C ∷ 0x00 ∷ 0x00 ∷ 0x00 ∷ 0x00 ∷ 0x00 ∷ 0x00 ∷ 0x00 ∷ 0x05 ∷ 0x00 ∷ 0x00 ∷ 0x00 ∷ 0x07
    ∷ 0x0D ∷ 0x4A ∷ 0x00 ∷ 0x00 ∷ 0x00 ∷ 0x00 ∷ 0x00 ∷ 0x00 ∷ 0x00 ∷ 0x00 ∷ 0x00 ∷ 0x00 ∷ 0x00 ∷ 0x06
    ∷ []

-- P's first n bytes, with the count that is right for them
abbrev cut : ℕ → ℕ → List ℕ
cut n count = take n (set file_p 4 count)

-- P with note 1 of a key, one byte longer, and a byte added
abbrev listing : ℕ → ℕ → List ℕ
listing key byte = set (set (set file_p 4 0x2E) 36 0x0E) 37 key ++ byte ∷ []

-- without a rest
abbrev pub bell : ℕ → ℕ → ℕ → ℕ → ℕ → Bell
bell n t ca cb p = record { written = n; transposition = t; least_execution = ca; most_execution = cb; rest = 0; priority = p }

-- a bell with another rest
abbrev pub resting : ℕ → Bell → Bell
resting r b =
    record {
      written = b.written;
      transposition = b.transposition;
      least_execution = b.least_execution;
      most_execution = b.most_execution;
      rest = r;
      priority = b.priority;
    }

abbrev pub note : ℕ → ℕ → ℕ → ℕ → List ℕ → Note
note key ra rb d listed = record { key = key; earliest_release = ra; latest_release = rb; deadline = d; listed = listed }

-- of version 1, on one core
abbrev pub phrase : List Bell → List Note → Phrase
phrase bells notes = record { version = 1; cores = 1; shift = 0; bells = bells; notes = notes }

abbrev pub bell0 : Bell
bell0 = bell 60 0 2 2 1

abbrev pub bell1 : Bell
bell1 = bell 62 12 4 4 2

abbrev pub note0 : Note
note0 = note 60 0 5 7 []

abbrev pub note1 : Note
note1 = note 74 0 0 6 []

abbrev pub phrase_p : Phrase
phrase_p = phrase (bell0 ∷ bell1 ∷ []) (note0 ∷ note1 ∷ [])

-- P with other notes, and with other bells
abbrev pub noted : List Note → Phrase
noted notes = phrase (bell0 ∷ bell1 ∷ []) notes

abbrev pub belled : List Bell → Phrase
belled bells = phrase bells (note0 ∷ note1 ∷ [])

-- P with another written key and transposition of bell 1, and another key of note 1
abbrev second_bell : ℕ → ℕ → ℕ → List ℕ
second_bell written transposition key = set (set (set file_p 14 written) 15 transposition) 37 key

abbrev with_second : ℕ → ℕ → ℕ → Outcome Phrase
with_second written transposition key = ok (phrase (bell0 ∷ bell written transposition 4 4 2 ∷ []) (note0 ∷ note key 0 0 6 [] ∷ []))

abbrev row : List ℕ → Outcome Phrase → Case
row f x = record { file = f; expected = x }

-- P with two notes more of bell 0: note 2 lists nothing, note 3 lists 0 and 2
abbrev pub file_q : List ℕ
file_q =
    set (set file_p 4 0x4B) 21 0x04
    ++ (0x0D ∷ 0x3C ∷ 0x00 ∷ 0x00 ∷ 0x00 ∷ 0x01 ∷ 0x00 ∷ 0x00 ∷ 0x00 ∷ 0x02 ∷ 0x00 ∷ 0x00 ∷ 0x00 ∷ 0x09 ∷ [])
    ++ (0x0F ∷ 0x3C ∷ 0x00 ∷ 0x01 ∷ 0x02 ∷ 0x03 ∷ 0x00 ∷ 0x04 ∷ 0x05 ∷ 0x06 ∷ 0x00 ∷ 0x07 ∷ 0x08 ∷ 0x09 ∷ 0x00 ∷ 0x02 ∷ [])

abbrev pub phrase_q : Phrase
phrase_q = noted (note0 ∷ note1 ∷ note 60 1 2 9 [] ∷ note 60 66051 263430 460809 (0 ∷ 2 ∷ []) ∷ [])

abbrev phrase_row : List Case
phrase_row = row file_p (ok phrase_p) ∷ []

-- the examples of document 01's table
abbrev refusals : List Case
refusals =
    row (0x09 ∷ []) (refused 1 0)
    ∷ row (0x01 ∷ 0x00 ∷ 0x00 ∷ []) (refused 2 0)
    -- the bell count is missing
    ∷ row (0x01 ∷ 0x00 ∷ 0x00 ∷ 0x00 ∷ 0x01 ∷ 0x01 ∷ []) (refused 3 6)
    ∷ row (0x01 ∷ 0x00 ∷ 0x00 ∷ 0x00 ∷ 0x01 ∷ 0x00 ∷ []) (refused 4 5)
    ∷ row (0x01 ∷ 0x00 ∷ 0x00 ∷ 0x00 ∷ 0x02 ∷ 0x01 ∷ 0x00 ∷ []) (refused 5 6)
    ∷ row (set file_p 7 0x0B) (refused 6 7)
    ∷ row (set file_p 15 0xFE) (refused 7 14)
    ∷ row (set file_p 21 0x41) (refused 8 21)
    ∷ row (set file_p 22 0x0C) (refused 9 22)
    ∷ row (set file_p 37 0x3E) (refused 10 36)
    ∷ row (set file_p 27 0x06) (refused 11 22)
    ∷ row (listing 0x4A 0x01) (refused 12 36)
    ∷ []

-- files that end early, or too late
abbrev ends : List Case
ends =
    -- the empty file has no version to be wrong
    row [] (refused 2 0)
    -- there is no version 4, whatever follows
    ∷ row (set file_p 0 0x04) (refused 1 0)
    -- a count that is right in its last byte only
    ∷ row (set file_p 1 0x01) (refused 2 0)
    ∷ row (set file_p 3 0x01) (refused 2 0)
    -- m is missing
    ∷ row (cut 5 0x00) (refused 3 5)
    -- a bell record is cut: 3 comes before 6 and 7
    ∷ row (set (cut 8 0x03) 7 0x0B) (refused 3 7)
    ∷ row (cut 20 0x0F) (refused 3 14)
    -- K is missing
    ∷ row (cut 21 0x10) (refused 3 21)
    -- a note's length is missing
    ∷ row (cut 22 0x11) (refused 3 22)
    -- a note is cut: 9 comes before 3, and 3 before the rest
    ∷ row (cut 35 0x1E) (refused 3 22)
    ∷ row (set (cut 35 0x1E) 22 0x12) (refused 9 22)
    ∷ row (set (cut 35 0x1E) 23 0x00) (refused 3 22)
    -- a byte remains
    ∷ row (set file_p 4 0x2E ++ 0x00 ∷ []) (refused 3 50)
    ∷ []

-- the edges of the counts, and of a bell's ranges
abbrev bells : List Case
bells =
    -- nine cores, and eight; 97 bells
    row (set file_p 5 0x09) (refused 4 5)
    ∷ row (set file_p 5 0x08) (ok (record { version = 1; cores = 8; shift = 0; bells = bell0 ∷ bell1 ∷ []; notes = note0 ∷ note1 ∷ [] }))
    ∷ row (set file_p 6 0x61) (refused 5 6)
    -- transpositions of -12, and of 25 and -25
    ∷ row (set (set file_p 15 0xF4) 37 0x32) (ok (phrase (bell0 ∷ bell 62 244 4 4 2 ∷ []) (note0 ∷ note 50 0 0 6 [] ∷ [])))
    ∷ row (set file_p 15 0x19) (refused 6 14)
    ∷ row (set file_p 15 0xE7) (refused 6 14)
    -- both bells have the written key 60, and sound for two keys
    ∷ row (set (set file_p 14 0x3C) 37 0x48) (ok (phrase (bell0 ∷ bell 60 12 4 4 2 ∷ []) (note0 ∷ note 72 0 0 6 [] ∷ [])))
    -- 12 and 119 are keys: written and sounding, written only, and sounding only; each as the key of a note
    ∷ row (second_bell 0x0C 0x00 0x0C) (with_second 12 0 12)
    ∷ row (second_bell 0x77 0x00 0x77) (with_second 119 0 119)
    ∷ row (second_bell 0x0C 0x0C 0x18) (with_second 12 12 24)
    ∷ row (second_bell 0x77 0xF4 0x6B) (with_second 119 244 107)
    ∷ row (second_bell 0x0D 0xFF 0x0C) (with_second 13 255 12)
    ∷ row (second_bell 0x6B 0x0C 0x77) (with_second 107 12 119)
    -- 11 and 120 are none, written or sounding
    ∷ row (second_bell 0x0B 0x01 0x0C) (refused 6 14)
    ∷ row (second_bell 0x78 0xFF 0x77) (refused 6 14)
    ∷ row (second_bell 0x0C 0xFF 0x0B) (refused 6 14)
    ∷ row (second_bell 0x77 0x01 0x78) (refused 6 14)
    -- transpositions of 24 and -24
    ∷ row (second_bell 0x3E 0x18 0x56) (with_second 62 24 86)
    ∷ row (second_bell 0x3E 0xE8 0x26) (with_second 62 232 38)
    -- 119 and 12 are keys, but 119 + 12 and 12 - 1 are none
    ∷ row (set file_p 14 0x77) (refused 6 14)
    ∷ row (set (set file_p 14 0x0C) 15 0xFF) (refused 6 14)
    -- ca is 0; ca is 3 and cb 2; cb is 5001, and 5000; p is 255
    ∷ row (set file_p 10 0x00) (refused 6 7)
    ∷ row (set file_p 10 0x03) (refused 6 7)
    ∷ row (set (set file_p 11 0x13) 12 0x89) (refused 6 7)
    ∷ row (set (set file_p 11 0x13) 12 0x88) (ok (belled (bell 60 0 2 5000 1 ∷ bell1 ∷ [])))
    ∷ row (set file_p 13 0xFF) (ok (belled (bell 60 0 2 2 255 ∷ bell1 ∷ [])))
    ∷ []

-- the edges of a note's times, and of the numbers that it lists
abbrev notes : List Case
notes =
    -- K is 0
    row (set (cut 22 0x11) 21 0x00) (ok (noted []))
    -- note 0: rb is 3600001, and 3600000; d is 3600001, and 3600000
    ∷ row (set (set (set file_p 29 0x36) 30 0xEE) 31 0x81) (refused 11 22)
    ∷ row (set (set (set file_p 29 0x36) 30 0xEE) 31 0x80) (ok (noted (note 60 0 3600000 7 [] ∷ note1 ∷ [])))
    ∷ row (set (set (set file_p 33 0x36) 34 0xEE) 35 0x81) (refused 11 22)
    ∷ row (set (set (set file_p 33 0x36) 34 0xEE) 35 0x80) (ok (noted (note 60 0 5 3600000 [] ∷ note1 ∷ [])))
    -- an rb of 16777221, right in its last bytes only
    ∷ row (set file_p 28 0x01) (refused 11 22)
    -- note 1 is due before its ra
    ∷ row (set (set file_p 41 0x09) 45 0x09) (ok (noted (note0 ∷ note 74 9 9 6 [] ∷ [])))
    -- note 1 lists job 0, which is also the nearest earlier job of its bell
    ∷ row (listing 0x3C 0x00) (ok (noted (note0 ∷ note 60 0 0 6 (0 ∷ []) ∷ [])))
    -- two notes more, of bell 0: the last lists jobs 0 and 2, of which 2 is its bell's
    ∷ row file_q (ok phrase_q)
    -- note 1 lists job 0 twice, and lists five numbers
    ∷ row (set (set file_p 4 0x2F) 36 0x0F ++ 0x00 ∷ 0x00 ∷ []) (refused 12 36)
    ∷ row (set (set file_p 4 0x32) 36 0x12 ++ 0x00 ∷ 0x00 ∷ 0x00 ∷ 0x00 ∷ 0x00 ∷ []) (refused 9 36)
    ∷ []

abbrev pub table : List Case
table = phrase_row ++ refusals ++ ends ++ bells ++ notes

-- Every row holds.
pub examples : map (λ (c : Case). reading c.file) table ≡ map (λ (c : Case). c.expected) table
unfolding reading
examples = refl
