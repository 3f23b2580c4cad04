-- Phrases with a shift: their files, their rules, the bells that they strike. A table for each. Assumes nothing.
use Rattle.std.specs.Prelude.{ℕ, ◌≡◌, refl, true, false, List, [], ◌∷◌, ◌++◌, map, take, set}
use Rattle.std.proofs.Math.Option.{Option, none, some}
use Rattle.format.specs.Layout.{first, second}
use Rattle.format.specs.Outcome.{Outcome, ok, refused}
use Rattle.format.specs.Phrase.{Bell, Note, Phrase, transposed, find_from, find}
use Rattle.format.specs.Rules.{is_shift, rules}
use Rattle.format.specs.Reading.{reading}
use Rattle.format.specs.Writing.{written}
use Rattle.format.specs.Jobs.{shifted_key, jobs_of}
use Rattle.format.proofs.examples.Files.{bell, note, bell0, bell1, note0, note1, noted}

-- ---- keys and shifts

-- 60 with 4, 24, -3 and -24; 255 with 24, which no byte holds; 3 with -3, and with -24, which is below zero
pub keys : map (transposed 60) (4 ∷ 24 ∷ 253 ∷ 232 ∷ []) ++ transposed 255 24 ∷ transposed 3 253 ∷ transposed 3 232 ∷ [] ≡ 64 ∷ 84 ∷ 57 ∷ 36 ∷ 279 ∷ 0 ∷ 0 ∷ []
keys = refl

-- 0 to 24 and -24 to -1; no other byte, and 256 is none
pub shifts : map (is_shift second) (0 ∷ 1 ∷ 24 ∷ 25 ∷ 128 ∷ 231 ∷ 232 ∷ 255 ∷ 256 ∷ []) ≡ true ∷ true ∷ true ∷ false ∷ false ∷ false ∷ true ∷ true ∷ false ∷ []
unfolding is_shift
shifts = refl

-- where the version has none, 0 alone
pub no_shifts : map (is_shift first) (0 ∷ 1 ∷ 24 ∷ 255 ∷ 256 ∷ []) ≡ true ∷ false ∷ false ∷ false ∷ false ∷ []
unfolding is_shift
no_shifts = refl

-- ---- the look-up

-- bells that sound for 60, for 12 and for 119
abbrev bells : List Bell
bells = bell0 ∷ bell 12 0 1 1 0 ∷ bell 107 12 1 1 0 ∷ []

-- a key and a shift
pub record Struck : Type 0 where
  pub key : ℕ
  pub shift : ℕ
  pub expected : Option ℕ

abbrev strikes : ℕ → ℕ → Option ℕ → Struck
strikes key shift expected = record { key = key; shift = shift; expected = expected }

abbrev pub struck_table : List Struck
struck_table =
    strikes 60 0 (some 0)
    -- the shift moves the key, not the bell, and once
    ∷ strikes 56 4 (some 0)
    ∷ strikes 64 4 none
    ∷ strikes 52 4 none
    ∷ strikes 63 253 (some 0)
    ∷ strikes 57 253 none
    -- 143 - 24 is 119, and 0 + 12 is 12: keys that no bell has, moved to one
    ∷ strikes 143 232 (some 2)
    ∷ strikes 120 255 (some 2)
    ∷ strikes 0 12 (some 1)
    -- 12 and 119, moved past the keys of a bell
    ∷ strikes 12 255 none
    ∷ strikes 119 1 none
    -- 5 - 24 is below zero, 255 + 24 no byte: 23 in one; 292 and 316 are 36 and 60 in one
    ∷ strikes 5 232 none
    ∷ strikes 255 24 none
    ∷ strikes 292 24 none
    ∷ strikes 316 0 none
    ∷ []

-- Every row holds.
pub found : map (λ (c : Struck). find c.key c.shift bells) struck_table ≡ map (λ (c : Struck). c.expected) struck_table
unfolding find_from
found = refl

-- ---- the files

-- P down a third, four semitones (252 as a byte): the shift after m, and the keys as written, four higher than the bells sound
abbrev pub file_s : List ℕ
file_s =
    0x02
    ∷ 0x00 ∷ 0x00 ∷ 0x00 ∷ 0x2E
    ∷ 0x01
    ∷ 0xFC
    ∷ 0x02
    ∷ 0x3C ∷ 0x00 ∷ 0x00 ∷ 0x02 ∷ 0x00 ∷ 0x02 ∷ 0x01
    ∷ 0x3E ∷ 0x0C ∷ 0x00 ∷ 0x04 ∷ 0x00 ∷ 0x04 ∷ 0x02
    ∷ 0x02
    ∷ 0x0D ∷ 0x40 ∷ 0x00 ∷ 0x00 ∷ 0x00 ∷ 0x00 ∷ 0x00 ∷ 0x00 ∷ 0x00 ∷ 0x05 ∷ 0x00 ∷ 0x00 ∷ 0x00 ∷ 0x07
    ∷ 0x0D ∷ 0x4E ∷ 0x00 ∷ 0x00 ∷ 0x00 ∷ 0x00 ∷ 0x00 ∷ 0x00 ∷ 0x00 ∷ 0x00 ∷ 0x00 ∷ 0x00 ∷ 0x00 ∷ 0x06
    ∷ []

-- a version and a shift, with P's bells and these notes
abbrev pub shifted : ℕ → ℕ → List Note → Phrase
shifted v t notes = record { version = v; cores = 1; shift = t; bells = bell0 ∷ bell1 ∷ []; notes = notes }

-- the note of a key, on the bell of note 0 and of note 1
abbrev low : ℕ → Note
low key = note key 0 5 7 []

abbrev high : ℕ → Note
high key = note key 0 0 6 []

abbrev pub phrase_s : Phrase
phrase_s = shifted 2 252 (low 64 ∷ high 78 ∷ [])

-- its first n bytes, with the count that is right for them
abbrev cut : ℕ → ℕ → List ℕ
cut n count = take n (set file_s 4 count)

-- with another shift, and the keys that strike the same bells
abbrev moved : ℕ → ℕ → ℕ → List ℕ
moved t k0 k1 = set (set (set file_s 6 t) 24 k0) 38 k1

pub record Read : Type 0 where
  pub file : List ℕ
  pub expected : Outcome Phrase

abbrev read : List ℕ → Outcome Phrase → Read
read f x = record { file = f; expected = x }

abbrev pub read_table : List Read
read_table =
    read file_s (ok phrase_s)
    -- shifts of 0, 24 and -24, and of 25, -25 and -128
    ∷ read (moved 0x00 0x3C 0x4A) (ok (shifted 2 0 (low 60 ∷ high 74 ∷ [])))
    ∷ read (moved 0x18 0x24 0x32) (ok (shifted 2 24 (low 36 ∷ high 50 ∷ [])))
    ∷ read (moved 0xE8 0x54 0x62) (ok (shifted 2 232 (low 84 ∷ high 98 ∷ [])))
    ∷ read (moved 0x19 0x23 0x31) (refused 19 6)
    ∷ read (moved 0xE7 0x55 0x63) (refused 19 6)
    ∷ read (set file_s 6 0x80) (refused 19 6)
    -- the key of a bell itself, which the shift moves away
    ∷ read (set file_s 24 0x3C) (refused 10 23)
    -- 2, then 4, then 19, then what is about the bells
    ∷ read (set (set file_s 4 0x2D) 6 0x19) (refused 2 0)
    ∷ read (set (set file_s 5 0x00) 6 0x19) (refused 4 5)
    ∷ read (set (set file_s 6 0x19) 7 0x00) (refused 19 6)
    ∷ read (set (cut 7 0x02) 6 0x19) (refused 19 6)
    -- the file ends before m, before the shift and before the number of bells
    ∷ read (cut 5 0x00) (refused 3 5)
    ∷ read (cut 6 0x01) (refused 3 6)
    ∷ read (cut 7 0x02) (refused 3 7)
    -- a place further on than in version 1: the number of bells, a bell, the number of notes, a note, and what remains
    ∷ read (set file_s 7 0x00) (refused 5 7)
    ∷ read (set file_s 8 0x0B) (refused 6 8)
    ∷ read (set file_s 16 0xFE) (refused 7 15)
    ∷ read (set file_s 22 0x41) (refused 8 22)
    ∷ read (set file_s 23 0x0C) (refused 9 23)
    ∷ read (set file_s 28 0x06) (refused 11 23)
    ∷ read (set file_s 4 0x2F ++ 0x00 ∷ []) (refused 3 51)
    -- as version 1 its shift is the number of bells, and there is no version 4
    ∷ read (set file_s 0 0x01) (refused 5 6)
    ∷ read (set file_s 0 0x04) (refused 1 0)
    ∷ []

-- Every row holds.
pub readings : map (λ (c : Read). reading c.file) read_table ≡ map (λ (c : Read). c.expected) read_table
unfolding reading
readings = refl

-- The file of S is S.
pub file : written phrase_s ≡ file_s
unfolding written
file = refl

-- ---- the rules, on fields that may be too wide

pub record Asked : Type 0 where
  pub asked : Phrase
  pub expected : Outcome Phrase

abbrev refuses : Phrase → ℕ → ℕ → Asked
refuses x n at = record { asked = x; expected = refused n at }

abbrev passes : Phrase → Asked
passes x = record { asked = x; expected = ok x }

-- S on so many cores, with these bells
abbrev on : ℕ → ℕ → List Bell → Phrase
on m t bs = record { version = 2; cores = m; shift = t; bells = bs; notes = [] }

abbrev pub asked_table : List Asked
asked_table =
    passes phrase_s
    ∷ passes (shifted 2 24 (low 36 ∷ []))
    -- in version 1 a shift is refused, whatever the notes; 256 is 0 in one byte
    ∷ passes (shifted 1 0 (note0 ∷ note1 ∷ []))
    ∷ refuses (shifted 1 252 (low 64 ∷ [])) 19 6
    ∷ refuses (shifted 1 1 (note0 ∷ [])) 19 6
    ∷ refuses (shifted 1 256 (note0 ∷ [])) 19 6
    -- out of range, and no byte
    ∷ refuses (shifted 2 25 (low 35 ∷ [])) 19 6
    ∷ refuses (shifted 2 231 (low 85 ∷ [])) 19 6
    ∷ refuses (shifted 2 256 (note0 ∷ [])) 19 6
    ∷ refuses (shifted 2 4294967295 (low 61 ∷ [])) 19 6
    -- 4, then 19, then 5, and the places of version 2
    ∷ refuses (on 9 25 (bell0 ∷ [])) 4 5
    ∷ refuses (on 1 25 []) 19 6
    ∷ refuses (on 1 0 []) 5 7
    ∷ refuses (on 1 0 (bell 60 0 2 2 256 ∷ [])) 6 8
    ∷ refuses (on 1 0 (bell0 ∷ bell0 ∷ [])) 7 15
    -- a key that no bell sounds for, moved by the shift; 320 is 64 in one byte
    ∷ refuses (shifted 2 252 (low 60 ∷ [])) 10 23
    ∷ refuses (shifted 2 252 (low 320 ∷ [])) 10 23
    ∷ []

-- Every row holds.
pub asked : map (λ (c : Asked). rules c.asked) asked_table ≡ map (λ (c : Asked). c.expected) asked_table
unfolding rules
asked = refl

-- ---- the jobs, and what is heard

-- S strikes the bells that P strikes.
pub jobs : jobs_of phrase_s ≡ jobs_of (noted (note0 ∷ note1 ∷ []))
unfolding find_from
jobs = refl

-- Its keys are heard four semitones lower than they are written.
pub heard : shifted_key phrase_s 0 ∷ shifted_key phrase_s 1 ∷ [] ≡ 60 ∷ 74 ∷ []
heard = refl
