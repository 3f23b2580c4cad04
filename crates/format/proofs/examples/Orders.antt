-- Notes that break more than one rule, the first of a file or of a phrase and the last: the times are told before the key, and the key before what the note lists.
-- Assumes nothing.
use Rattle.std.specs.Prelude.{ℕ, ◌+◌, ◌≡◌, refl, List, [], ◌∷◌, ◌++◌, map, length, take, set}
use Rattle.format.specs.Outcome.{ok, refused}
use Rattle.format.specs.Phrase.{Note, Phrase}
use Rattle.format.specs.Rules.{rules}
use Rattle.format.specs.Reading.{reading}
use Rattle.format.proofs.examples.Files.{Case, file_p, note, note0, note1, noted}
use Rattle.format.proofs.examples.Phrases.{Case as Asked}
use Rattle.format.proofs.examples.Shifts.{file_s, shifted}

-- ---- files

-- a note's record, with an rb of 5: an ra of 6 is wrong
abbrev bytes : ℕ → ℕ → List ℕ → List ℕ
bytes key ra listed =
    (13 + length listed) ∷ key
    ∷ 0x00 ∷ 0x00 ∷ 0x00 ∷ ra
    ∷ 0x00 ∷ 0x00 ∷ 0x00 ∷ 0x05
    ∷ 0x00 ∷ 0x00 ∷ 0x00 ∷ 0x07
    ∷ listed

-- P with two other notes, whose bells sound for 60 and 74; and P shifted by -4, where 64 and 78 strike them and 60 and 74 do not
abbrev file : List ℕ → List ℕ → List ℕ
file a b = set (take 22 file_p) 4 (17 + (length a + length b)) ++ a ++ b

abbrev lower : List ℕ → List ℕ → List ℕ
lower a b = set (take 23 file_s) 4 (18 + (length a + length b)) ++ a ++ b

abbrev row : List ℕ → ℕ → ℕ → Case
row f n at = record { file = f; expected = refused n at }

-- the first note, at 22: it breaks one rule, two, and all three
abbrev first_note : List Case
first_note =
    row (file (bytes 61 0 []) (bytes 74 0 [])) 10 22
    ∷ row (file (bytes 60 6 []) (bytes 74 0 [])) 11 22
    ∷ row (file (bytes 60 0 (0 ∷ [])) (bytes 74 0 [])) 12 22
    ∷ row (file (bytes 61 6 []) (bytes 74 0 [])) 11 22
    ∷ row (file (bytes 60 6 (0 ∷ [])) (bytes 74 0 [])) 11 22
    ∷ row (file (bytes 61 0 (0 ∷ [])) (bytes 74 0 [])) 10 22
    ∷ row (file (bytes 61 6 (0 ∷ [])) (bytes 74 0 [])) 11 22
    ∷ []

-- the last note, at 36
abbrev last_note : List Case
last_note =
    row (file (bytes 60 0 []) (bytes 61 0 [])) 10 36
    ∷ row (file (bytes 60 0 []) (bytes 74 6 [])) 11 36
    ∷ row (file (bytes 60 0 []) (bytes 74 0 (1 ∷ []))) 12 36
    ∷ row (file (bytes 60 0 []) (bytes 61 6 [])) 11 36
    ∷ row (file (bytes 60 0 []) (bytes 74 6 (1 ∷ []))) 11 36
    ∷ row (file (bytes 60 0 []) (bytes 61 0 (1 ∷ []))) 10 36
    ∷ row (file (bytes 60 0 []) (bytes 61 6 (1 ∷ []))) 11 36
    ∷ []

-- both notes of version 2, at 23 and at 37
abbrev shifted_notes : List Case
shifted_notes =
    row (lower (bytes 60 6 []) (bytes 78 0 [])) 11 23
    ∷ row (lower (bytes 64 6 (0 ∷ [])) (bytes 78 0 [])) 11 23
    ∷ row (lower (bytes 60 0 (0 ∷ [])) (bytes 78 0 [])) 10 23
    ∷ row (lower (bytes 60 6 (0 ∷ [])) (bytes 78 0 [])) 11 23
    ∷ row (lower (bytes 64 0 []) (bytes 74 6 [])) 11 37
    ∷ row (lower (bytes 64 0 []) (bytes 78 6 (1 ∷ []))) 11 37
    ∷ row (lower (bytes 64 0 []) (bytes 74 0 (1 ∷ []))) 10 37
    ∷ row (lower (bytes 64 0 []) (bytes 74 6 (1 ∷ []))) 11 37
    ∷ []

abbrev others : List Case
others =
    -- both notes are right
    record { file = file (bytes 60 0 []) (bytes 74 0 (0 ∷ [])); expected = ok (noted (note 60 0 5 7 [] ∷ note 74 0 5 7 (0 ∷ []) ∷ [])) }
    -- what an earlier note breaks comes first
    ∷ row (file (bytes 60 0 (0 ∷ [])) (bytes 61 6 [])) 12 22
    ∷ row (file (bytes 61 0 []) (bytes 74 6 [])) 10 22
    -- no bell, and an rb of 3600001; no bell, and a d of 3600001
    ∷ row (set (set (set (set file_p 23 0x3D) 29 0x36) 30 0xEE) 31 0x81) 11 22
    ∷ row (set (set (set (set file_p 23 0x3D) 33 0x36) 34 0xEE) 35 0x81) 11 22
    -- a length of 12, and a record that passes the end: 9 and 3 come before 11
    ∷ row (set (set file_p 22 0x0C) 27 0x06) 9 22
    ∷ row (set (set file_p 36 0x0E) 41 0x01) 3 36
    ∷ []

abbrev pub table : List Case
table = first_note ++ last_note ++ shifted_notes ++ others

-- Every row holds.
pub examples : map (λ (c : Case). reading c.file) table ≡ map (λ (c : Case). c.expected) table
unfolding reading
examples = refl

-- ---- phrases that are to be written

abbrev refuses : Phrase → ℕ → ℕ → Asked
refuses x n at = record { asked = x; expected = refused n at }

-- a note with an rb of 5
abbrev called : ℕ → ℕ → List ℕ → Note
called key ra listed = note key ra 5 7 listed

abbrev pub asked_table : List Asked
asked_table =
    -- the first note, and the last
    refuses (noted (called 61 6 [] ∷ note1 ∷ [])) 11 22
    ∷ refuses (noted (called 60 6 (0 ∷ []) ∷ note1 ∷ [])) 11 22
    ∷ refuses (noted (called 61 0 (0 ∷ []) ∷ note1 ∷ [])) 10 22
    ∷ refuses (noted (called 61 6 (0 ∷ []) ∷ note1 ∷ [])) 11 22
    ∷ refuses (noted (note0 ∷ called 61 6 [] ∷ [])) 11 36
    ∷ refuses (noted (note0 ∷ called 74 6 (1 ∷ []) ∷ [])) 11 36
    ∷ refuses (noted (note0 ∷ called 61 0 (1 ∷ []) ∷ [])) 10 36
    ∷ refuses (noted (note0 ∷ called 61 6 (1 ∷ []) ∷ [])) 11 36
    -- a key of 316 and a d of 4294967303, which are 60 and 7 in their bytes
    ∷ refuses (noted (called 316 6 [] ∷ [])) 11 22
    ∷ refuses (noted (note 61 0 5 4294967303 [] ∷ [])) 11 22
    -- five numbers and wrong times: 9 comes before 11
    ∷ refuses (noted (called 61 6 (0 ∷ 0 ∷ 0 ∷ 0 ∷ 0 ∷ []) ∷ [])) 9 22
    -- what an earlier note breaks comes first
    ∷ refuses (noted (called 60 0 (0 ∷ []) ∷ called 61 6 [] ∷ [])) 12 22
    -- under a shift of -4
    ∷ refuses (shifted 2 252 (called 60 6 [] ∷ [])) 11 23
    ∷ refuses (shifted 2 252 (called 64 0 [] ∷ called 74 0 (1 ∷ []) ∷ [])) 10 37
    ∷ refuses (shifted 2 252 (called 64 0 [] ∷ called 74 6 (1 ∷ []) ∷ [])) 11 37
    ∷ []

-- Every row holds.
pub asked : map (λ (c : Asked). rules c.asked) asked_table ≡ map (λ (c : Asked). c.expected) asked_table
unfolding rules
asked = refl
