-- The rules on phrases, some of them wider than their bytes, the files of phrases, and their writing into buffers of all lengths: a table for each.
-- Assumes nothing.
use Rattle.std.specs.Prelude.{ℕ, zero, suc, ◌+◌, ◌≡◌, refl, List, [], ◌∷◌, ◌++◌, map, replicate}
use Rattle.format.specs.Outcome.{Outcome, ok, refused}
use Rattle.format.specs.Phrase.{Bell, Phrase}
use Rattle.format.specs.Rules.{rules}
use Rattle.format.specs.Writing.{written, writing, leaves}
use Rattle.format.proofs.examples.Files.{file_p, file_q, bell, note, phrase, bell0, bell1, note0, note1, phrase_p, phrase_q, noted, belled}

-- ---- the rules

-- a phrase, and what its rules say that is due
pub record Case : Type 0 where
  pub asked : Phrase
  pub expected : Outcome Phrase

abbrev passes : Phrase → Case
passes x = record { asked = x; expected = ok x }

abbrev refuses : Phrase → ℕ → ℕ → Case
refuses x n at = record { asked = x; expected = refused n at }

abbrev versioned : ℕ → Phrase
versioned v = record { version = v; cores = 1; shift = 0; bells = bell0 ∷ bell1 ∷ []; notes = note0 ∷ note1 ∷ [] }

abbrev cored : ℕ → Phrase
cored m = record { version = 1; cores = m; shift = 0; bells = bell0 ∷ bell1 ∷ []; notes = note0 ∷ note1 ∷ [] }

-- so many bells, a semitone apart, from a key on
abbrev pub scale : ℕ → ℕ → List Bell
scale key zero = []
scale key (suc n) = bell key 0 2 2 1 ∷ scale (key + 1) n

abbrev counts : List Case
counts =
    passes phrase_p
    ∷ passes phrase_q
    -- there are three versions; 257 is 1 in one byte
    ∷ refuses (versioned 0) 1 0
    ∷ refuses (versioned 4) 1 0
    ∷ refuses (versioned 257) 1 0
    -- eight cores, none and nine; 257 is 1 in one byte
    ∷ passes (cored 8)
    ∷ refuses (cored 0) 4 5
    ∷ refuses (cored 9) 4 5
    ∷ refuses (cored 257) 4 5
    -- no bells, 96 and 97, from key 12 on
    ∷ refuses (phrase [] []) 5 6
    ∷ passes (phrase (scale 12 96) [])
    ∷ refuses (phrase (scale 12 97) []) 5 6
    -- 64 notes and 65; their number stands after two bells
    ∷ passes (noted (replicate 64 note0))
    ∷ refuses (noted (replicate 65 note0)) 8 21
    ∷ []

abbrev bells : List Case
bells =
    -- a rank of 256, and of 255
    refuses (belled (bell 60 0 2 2 256 ∷ bell1 ∷ [])) 6 7
    ∷ passes (belled (bell 60 0 2 2 255 ∷ bell1 ∷ []))
    -- transpositions of 256 and 268, which are 0 and 12 in one byte
    ∷ refuses (phrase (bell0 ∷ bell 62 256 4 4 2 ∷ []) (note 62 0 0 6 [] ∷ [])) 6 14
    ∷ refuses (belled (bell0 ∷ bell 62 268 4 4 2 ∷ [])) 6 14
    -- a written key of 316, which is 60 in one byte
    ∷ refuses (belled (bell 316 0 2 2 1 ∷ bell1 ∷ [])) 6 7
    -- a cb of 65538, which is 2 in two bytes
    ∷ refuses (belled (bell 60 0 2 65538 1 ∷ bell1 ∷ [])) 6 7
    -- 62 - 2 is the key of bell 0; the third bell has its place after two others
    ∷ refuses (belled (bell0 ∷ bell 62 254 4 4 2 ∷ [])) 7 14
    ∷ refuses (belled (bell0 ∷ bell1 ∷ bell0 ∷ [])) 7 21
    -- out of range and doubled: 6 comes before 7
    ∷ refuses (belled (bell0 ∷ bell 60 0 2 2 256 ∷ [])) 6 14
    ∷ []

-- six notes, of which the last lists these
abbrev lists : List ℕ → Phrase
lists listed = noted (replicate 5 note0 ++ note 60 0 5 7 listed ∷ [])

abbrev notes : List Case
notes =
    -- four numbers below its own, and five: each note before takes 14 bytes, from place 22 on
    passes (lists (0 ∷ 1 ∷ 2 ∷ 4 ∷ []))
    ∷ refuses (lists (0 ∷ 1 ∷ 2 ∷ 3 ∷ 4 ∷ [])) 9 92
    -- five numbers, and no bell for the key: 9 comes before 10
    ∷ refuses (noted (note 61 0 5 7 (0 ∷ 0 ∷ 0 ∷ 0 ∷ 0 ∷ []) ∷ [])) 9 22
    -- keys of 300, and of 316, which is 60 in one byte
    ∷ refuses (noted (note 300 0 5 7 [] ∷ [])) 10 22
    ∷ refuses (noted (note 316 0 5 7 [] ∷ [])) 10 22
    -- the note before lists a number, and takes 15 bytes
    ∷ refuses (noted (note0 ∷ note 74 0 0 6 (0 ∷ []) ∷ note 61 0 0 6 [] ∷ [])) 10 51
    -- ra beyond rb; a due time that is 7 in four bytes
    ∷ refuses (noted (note 60 6 5 7 [] ∷ [])) 11 22
    ∷ refuses (noted (note 60 0 5 4294967303 [] ∷ [])) 11 22
    -- its own number, and a number that is 0 in one byte
    ∷ refuses (noted (note0 ∷ note 74 0 0 6 (1 ∷ []) ∷ [])) 12 36
    ∷ refuses (noted (note0 ∷ note 74 0 0 6 (256 ∷ []) ∷ [])) 12 36
    -- a number twice, and numbers that fall
    ∷ refuses (lists (2 ∷ 2 ∷ [])) 12 92
    ∷ refuses (lists (3 ∷ 1 ∷ [])) 12 92
    ∷ []

abbrev pub table : List Case
table = counts ++ bells ++ notes

-- Every row holds.
pub examples : map (λ (c : Case). rules c.asked) table ≡ map (λ (c : Case). c.expected) table
unfolding rules
examples = refl

-- ---- the files

-- a phrase, and the file that is due
pub record Copy : Type 0 where
  pub phrase : Phrase
  pub file : List ℕ

abbrev copy : Phrase → List ℕ → Copy
copy x f = record { phrase = x; file = f }

abbrev pub copies : List Copy
copies =
    -- as document 01 prints it
    copy phrase_p file_p
    ∷ copy phrase_q file_q
    -- one bell and no note: the count is of m, the number of bells, a bell, and the number of notes
    ∷ copy (phrase (bell 62 244 300 5000 255 ∷ []) [])
    (0x01 ∷ 0x00 ∷ 0x00 ∷ 0x00 ∷ 0x0A ∷ 0x01 ∷ 0x01 ∷ 0x3E ∷ 0xF4 ∷ 0x01 ∷ 0x2C ∷ 0x13 ∷ 0x88 ∷ 0xFF ∷ 0x00 ∷ [])
    ∷ []

-- Every file is as it is due.
pub files : map (λ (c : Copy). written c.phrase) copies ≡ map (λ (c : Copy). c.file) copies
unfolding written
files = refl

-- ---- the writing

-- a phrase, the room for its file, and what is due
pub record Trial : Type 0 where
  pub phrase : Phrase
  pub room : ℕ
  pub due : Outcome (List ℕ)

abbrev trial : Phrase → ℕ → Outcome (List ℕ) → Trial
trial x room due = record { phrase = x; room = room; due = due }

abbrev pub trials : List Trial
trials =
    -- P has 50 bytes: exactly so many suffice, and one less does not
    trial phrase_p 50 (ok file_p)
    ∷ trial phrase_p 4096 (ok file_p)
    ∷ trial phrase_p 49 (refused 16 0)
    ∷ trial phrase_p 0 (refused 16 0)
    -- every field is tested before the room is: the version, a rank of a byte too many, the key of the last note, a wait that is 0 in one byte
    ∷ trial (versioned 257) 0 (refused 1 0)
    ∷ trial (belled (bell 60 0 2 2 256 ∷ bell1 ∷ [])) 0 (refused 6 7)
    ∷ trial (noted (note0 ∷ note 74 0 0 6 (0 ∷ []) ∷ note 61 0 0 6 [] ∷ [])) 0 (refused 10 51)
    ∷ trial (noted (note0 ∷ note 74 0 0 6 (256 ∷ []) ∷ [])) 49 (refused 12 36)
    -- five waits, wherever the file would end
    ∷ trial (lists (0 ∷ 1 ∷ 2 ∷ 3 ∷ 4 ∷ [])) 4096 (refused 9 92)
    ∷ []

-- Every trial ends as it is due.
pub writings : map (λ (t : Trial). writing t.phrase t.room) trials ≡ map (λ (t : Trial). t.due) trials
unfolding writing
writings = refl

-- What a buffer of four bytes holds after a file of two, after one of four, and after a refusal.
pub left :
    leaves (ok (1 ∷ 2 ∷ [])) (6 ∷ 7 ∷ 8 ∷ 9 ∷ []) ∷ leaves (ok (1 ∷ 2 ∷ 3 ∷ 4 ∷ [])) (6 ∷ 7 ∷ 8 ∷ 9 ∷ []) ∷ leaves (refused 16 0) (6 ∷ 7 ∷ 8 ∷ 9 ∷ []) ∷ []
    ≡ (1 ∷ 2 ∷ 8 ∷ 9 ∷ []) ∷ (1 ∷ 2 ∷ 3 ∷ 4 ∷ []) ∷ (6 ∷ 7 ∷ 8 ∷ 9 ∷ []) ∷ []
left = refl
