-- Phrases of version 3, whose bells have a rest: their files, their rules, their writing. A table for each. Assumes nothing.
use Rattle.std.specs.Prelude.{ℕ, ◌≡◌, refl, true, false, List, [], ◌∷◌, ◌++◌, map, length, take, set, replicate}
use Rattle.model.specs.Jobs.{Job}
use Rattle.format.specs.Layout.{first, second, third}
use Rattle.format.specs.Outcome.{Outcome, ok, refused}
use Rattle.format.specs.Phrase.{Bell, Note, Phrase, find_from}
use Rattle.format.specs.Rules.{is_rest, rules}
use Rattle.format.specs.Reading.{reading}
use Rattle.format.specs.Writing.{written, writing}
use Rattle.format.specs.Jobs.{jobs_of}
use Rattle.format.proofs.examples.Files.{Case, bell, resting, note, bell0, bell1}
use Rattle.format.proofs.examples.Phrases.{Case as Asked, Trial, scale}
use Rattle.format.proofs.examples.Shifts.{file_s, phrase_s}

-- ---- rests

-- 0 to 5000; 65536, 65541 and 70536 are 0, 5 and 5000 in two bytes
pub rests : map (is_rest third) (0 ∷ 1 ∷ 255 ∷ 256 ∷ 5000 ∷ 5001 ∷ 65535 ∷ 65536 ∷ 65541 ∷ 70536 ∷ []) ≡ true ∷ true ∷ true ∷ true ∷ true ∷ false ∷ false ∷ false ∷ false ∷ false ∷ []
unfolding is_rest
rests = refl

-- where the version has none, 0 alone
pub no_rests : map (is_rest first) (0 ∷ 1 ∷ 5000 ∷ 65536 ∷ []) ++ map (is_rest second) (0 ∷ 1 ∷ 5000 ∷ 65536 ∷ []) ≡ true ∷ false ∷ false ∷ false ∷ true ∷ false ∷ false ∷ false ∷ []
unfolding is_rest
no_rests = refl

-- ---- the files

-- S with rests of 300 and 5000, which are 012C and 1388, before the ranks: a bell takes 9 bytes, so that the file has 46 + 4 bytes after the count
abbrev pub file_r : List ℕ
file_r =
    0x03
    ∷ 0x00 ∷ 0x00 ∷ 0x00 ∷ 0x32
    ∷ 0x01
    ∷ 0xFC
    ∷ 0x02
    ∷ 0x3C ∷ 0x00 ∷ 0x00 ∷ 0x02 ∷ 0x00 ∷ 0x02 ∷ 0x01 ∷ 0x2C ∷ 0x01
    ∷ 0x3E ∷ 0x0C ∷ 0x00 ∷ 0x04 ∷ 0x00 ∷ 0x04 ∷ 0x13 ∷ 0x88 ∷ 0x02
    ∷ 0x02
    ∷ 0x0D ∷ 0x40 ∷ 0x00 ∷ 0x00 ∷ 0x00 ∷ 0x00 ∷ 0x00 ∷ 0x00 ∷ 0x00 ∷ 0x05 ∷ 0x00 ∷ 0x00 ∷ 0x00 ∷ 0x07
    ∷ 0x0D ∷ 0x4E ∷ 0x00 ∷ 0x00 ∷ 0x00 ∷ 0x00 ∷ 0x00 ∷ 0x00 ∷ 0x00 ∷ 0x00 ∷ 0x00 ∷ 0x00 ∷ 0x00 ∷ 0x06
    ∷ []

-- S of a version, with these bells
abbrev pub belled : ℕ → List Bell → Phrase
belled v bells = record { version = v; cores = 1; shift = 252; bells = bells; notes = phrase_s.notes }

abbrev pub phrase_r : Phrase
phrase_r = belled 3 (resting 300 bell0 ∷ resting 5000 bell1 ∷ [])

-- with other rests of the first bell and of the second
abbrev rested : ℕ → ℕ → Outcome Phrase
rested r t = ok (belled 3 (resting r bell0 ∷ resting t bell1 ∷ []))

-- its first n bytes, with the count that is right for them
abbrev cut : ℕ → ℕ → List ℕ
cut n count = take n (set file_r 4 count)

-- with other bytes for the rest of the first bell, at 14, and of the second, at 23
abbrev first_rest : ℕ → ℕ → List ℕ
first_rest high low = set (set file_r 14 high) 15 low

abbrev second_rest : ℕ → ℕ → List ℕ
second_rest high low = set (set file_r 23 high) 24 low

abbrev read : List ℕ → Outcome Phrase → Case
read f x = record { file = f; expected = x }

abbrev pub read_table : List Case
read_table =
    read file_r (ok phrase_r)
    -- rests of 0, 255, 256 and 5000; the low byte comes last
    ∷ read (first_rest 0x00 0x00) (rested 0 5000)
    ∷ read (first_rest 0x00 0xFF) (rested 255 5000)
    ∷ read (first_rest 0x01 0x00) (rested 256 5000)
    ∷ read (first_rest 0x13 0x88) (rested 5000 5000)
    ∷ read (second_rest 0x00 0x00) (rested 300 0)
    -- of 5001 and 65535
    ∷ read (first_rest 0x13 0x89) (refused 6 8)
    ∷ read (first_rest 0xFF 0xFF) (refused 6 8)
    ∷ read (second_rest 0x13 0x89) (refused 6 17)
    ∷ read (second_rest 0xFF 0xFF) (refused 6 17)
    -- the rank stands after the rest
    ∷ read (set file_r 16 0xFF) (ok (belled 3 (resting 300 (bell 60 0 2 2 255) ∷ resting 5000 bell1 ∷ [])))
    -- 62 - 2 is the key of the first bell; 6 comes before 7, and 3 before both
    ∷ read (set file_r 18 0xFE) (refused 7 17)
    ∷ read (set (second_rest 0x13 0x89) 18 0xFE) (refused 6 17)
    ∷ read (set (cut 25 0x14) 18 0xFE) (refused 3 17)
    -- what the first bell breaks comes first
    ∷ read (set (cut 25 0x14) 14 0xFF) (refused 6 8)
    -- the file ends before the shift and before the number of bells
    ∷ read (cut 6 0x01) (refused 3 6)
    ∷ read (cut 7 0x02) (refused 3 7)
    -- in the rest of a bell, where one without a rest would end, and before its rank
    ∷ read (cut 15 0x0A) (refused 3 8)
    ∷ read (cut 16 0x0B) (refused 3 8)
    ∷ read (cut 24 0x13) (refused 3 17)
    ∷ read (cut 25 0x14) (refused 3 17)
    -- before the number of notes and before a note; after the last note a byte remains
    ∷ read (cut 26 0x15) (refused 3 26)
    ∷ read (cut 27 0x16) (refused 3 27)
    ∷ read (set file_r 4 0x33 ++ 0x00 ∷ []) (refused 3 55)
    -- the places of version 3: the shift and the number of bells as in version 2, a bell, the number of notes, and both notes
    ∷ read (set file_r 6 0x19) (refused 19 6)
    ∷ read (set file_r 7 0x00) (refused 5 7)
    ∷ read (set file_r 7 0x61) (refused 5 7)
    ∷ read (set file_r 8 0x0B) (refused 6 8)
    ∷ read (set file_r 26 0x41) (refused 8 26)
    ∷ read (set file_r 27 0x0C) (refused 9 27)
    ∷ read (set file_r 32 0x06) (refused 11 27)
    ∷ read (set file_r 42 0x4A) (refused 10 41)
    ∷ read (set (cut 27 0x16) 26 0x00) (ok (record { version = 3; cores = 1; shift = 252; bells = phrase_r.bells; notes = [] }))
    -- S as version 3: the first bell rests 013E with a rank of 0C, and the second would begin with the 00 of an execution
    ∷ read (set file_s 0 0x03) (refused 6 17)
    -- R as version 2: the second bell would begin with the 2C of the first one's rest, and has a ca of 3E0C and a cb of 4
    ∷ read (set file_r 0 0x02) (refused 6 15)
    -- as version 1 its shift is the number of bells, and there is no version 4
    ∷ read (set file_r 0 0x01) (refused 5 6)
    ∷ read (set file_r 0 0x04) (refused 1 0)
    ∷ []

-- Every row holds.
pub readings : map (λ (c : Case). reading c.file) read_table ≡ map (λ (c : Case). c.expected) read_table
unfolding reading
readings = refl

-- ---- the rules, on fields that may be too wide

abbrev refuses : Phrase → ℕ → ℕ → Asked
refuses x n at = record { asked = x; expected = refused n at }

abbrev passes : Phrase → Asked
passes x = record { asked = x; expected = ok x }

-- on two bells, of which the first or the second rests
abbrev pub early : ℕ → ℕ → Phrase
early v r = record { version = v; cores = 1; shift = 0; bells = resting r bell0 ∷ bell1 ∷ []; notes = [] }

abbrev late : ℕ → ℕ → Phrase
late v r = record { version = v; cores = 1; shift = 0; bells = bell0 ∷ resting r bell1 ∷ []; notes = [] }

-- on a bell twice, of which the second rests
abbrev twice : ℕ → ℕ → Phrase
twice v r = record { version = v; cores = 1; shift = 0; bells = bell0 ∷ resting r bell0 ∷ []; notes = [] }

-- R with other notes
abbrev noted : List Note → Phrase
noted notes = record { version = 3; cores = 1; shift = 252; bells = phrase_r.bells; notes = notes }

abbrev pub asked_table : List Asked
asked_table =
    passes phrase_r
    ∷ passes (early 3 0)
    ∷ passes (early 3 5000)
    ∷ passes (late 3 5000)
    -- beyond 5000, and 0, 5 and 5000 in two bytes
    ∷ refuses (early 3 5001) 6 8
    ∷ refuses (late 3 5001) 6 17
    ∷ refuses (early 3 65536) 6 8
    ∷ refuses (early 3 65541) 6 8
    ∷ refuses (late 3 70536) 6 17
    -- versions 1 and 2 have none
    ∷ passes (early 1 0)
    ∷ passes (early 2 0)
    ∷ refuses (early 1 1) 6 7
    ∷ refuses (late 1 1) 6 14
    ∷ refuses (early 2 1) 6 8
    ∷ refuses (late 2 1) 6 15
    ∷ refuses (early 2 5000) 6 8
    ∷ refuses (early 1 256) 6 7
    ∷ refuses (late 2 65536) 6 15
    -- a rest and a key that a bell before has: 6 comes before 7
    ∷ refuses (twice 1 0) 7 14
    ∷ refuses (twice 1 1) 6 14
    ∷ refuses (twice 2 0) 7 15
    ∷ refuses (twice 2 1) 6 15
    ∷ refuses (twice 3 5000) 7 17
    ∷ refuses (twice 3 5001) 6 17
    -- a rank of 256 with a right rest
    ∷ refuses (belled 3 (resting 300 (bell 60 0 2 2 256) ∷ [])) 6 8
    -- the places of the number of notes and of notes, after two bells of 9 bytes; and no version 4
    ∷ refuses (noted (replicate 65 (note 64 0 5 7 []))) 8 26
    ∷ refuses (noted (note 60 0 5 7 [] ∷ [])) 10 27
    ∷ refuses (noted (note 64 0 5 7 [] ∷ note 78 1 0 6 [] ∷ [])) 11 41
    ∷ refuses (belled 4 phrase_r.bells) 1 0
    ∷ []

-- Every row holds.
pub asked : map (λ (c : Asked). rules c.asked) asked_table ≡ map (λ (c : Asked). c.expected) asked_table
unfolding rules
asked = refl

-- ---- the writing

abbrev trial : Phrase → ℕ → Outcome (List ℕ) → Trial
trial x room due = record { phrase = x; room = room; due = due }

abbrev pub trials : List Trial
trials =
    -- R has 55 bytes
    trial phrase_r 55 (ok file_r)
    ∷ trial phrase_r 54 (refused 16 0)
    -- S has no rest, and no byte for one
    ∷ trial phrase_s 51 (ok file_s)
    -- one bell that rests 5 and no note: 03, 13 bytes after the count, and a rest of 0005
    ∷ trial (record { version = 3; cores = 2; shift = 0; bells = resting 5 (bell 62 244 300 5000 255) ∷ []; notes = [] }) 4096
    (ok (0x03 ∷ 0x00 ∷ 0x00 ∷ 0x00 ∷ 0x0D ∷ 0x02 ∷ 0x00 ∷ 0x01 ∷ 0x3E ∷ 0xF4 ∷ 0x01 ∷ 0x2C ∷ 0x13 ∷ 0x88 ∷ 0x00 ∷ 0x05 ∷ 0xFF ∷ 0x00 ∷ []))
    -- a rest is never cut: one of 65541 is not written as 5, nor any in version 2 as none
    ∷ trial (early 3 65541) 4096 (refused 6 8)
    ∷ trial (late 2 1) 4096 (refused 6 15)
    ∷ trial (early 3 5001) 0 (refused 6 8)
    ∷ []

-- Every trial ends as it is due.
pub writings : map (λ (t : Trial). writing t.phrase t.room) trials ≡ map (λ (t : Trial). t.due) trials
unfolding writing
writings = refl

-- ---- the longest file

-- 96 bells, and 64 notes that list four numbers each
abbrev long : ℕ → Phrase
long v = record { version = v; cores = 8; shift = 0; bells = scale 12 96; notes = replicate 64 (note 60 0 5 7 (0 ∷ 1 ∷ 2 ∷ 3 ∷ [])) }

-- 7 + 96 * 7 + 1 + 64 * 18 bytes in version 1, one more with the shift, and 96 * 2 more with the rests
pub longest : map (λ (v : ℕ). length (written (long v))) (1 ∷ 2 ∷ 3 ∷ []) ≡ 1832 ∷ 1833 ∷ 2025 ∷ []
unfolding written
longest = refl

-- ---- the jobs

-- each has the rest of the bell that it strikes
pub jobs_rest : map (λ (j : Job). j.rest) (jobs_of phrase_r) ++ map (λ (j : Job). j.rest) (jobs_of phrase_s) ≡ 300 ∷ 5000 ∷ 0 ∷ 0 ∷ []
unfolding find_from
jobs_rest = refl

-- In a phrase whose notes strike the second bell, the first and the second again, no other bell's.
pub rests_of_the_struck : map (λ (j : Job). j.rest) (jobs_of (noted (note 78 0 5 7 [] ∷ note 64 0 5 7 [] ∷ note 78 0 5 7 [] ∷ []))) ≡ 5000 ∷ 300 ∷ 5000 ∷ []
unfolding find_from
rests_of_the_struck = refl
