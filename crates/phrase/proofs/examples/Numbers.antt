-- The numbers that a host gets, worked out by hand. Assumes nothing.
use Rattle.std.specs.Prelude.{ℕ, ◌≡◌, refl, List, [], ◌∷◌, ◌++◌, map, set}
use Rattle.model.specs.Certain.{run_verdict}
use Rattle.model.specs.Exploration.{analysis}
use Rattle.format.specs.Reading.{reading}
use Rattle.format.specs.Outcome.{ok, refused}
use Rattle.format.proofs.examples.Files.{file_p, phrase_p}
use Rattle.checking.proofs.examples.Checks.{version_nine, byte_remains, late_phrase, Case, lent, dues, given, values}
use Rattle.checking.proofs.examples.Certain.{called_at_zero}
use Rattle.playing.specs.Playing.{Times, scenario_for, played_of}
use Rattle.playing.proofs.examples.Playings.{playing_p, two}
use Rattle.phrase.specs.Host.{table_words, places, number_of, number_for, NumberByRun, outcome_number, written_number}

-- a table of 16,384 words, and two to the 32nd places
pub sizes : table_words ∷ places ∷ [] ≡ 16384 ∷ 4294967296 ∷ []
sizes = refl

-- accepted; 4 at 5; 13 at level 1; 14 with stroke 3, whose ends do not count
pub numbers :
    map number_of (values 0 0 0 0 ∷ values 4 5 0 0 ∷ values 13 1 0 0 ∷ values 14 3 6 7 ∷ [])
    ≡ 0 ∷ 17179869189 ∷ 55834574849 ∷ 60129542147 ∷ []
numbers = refl

-- a file that was read, and refusal 12 at 36; a file of 50 bytes that was written, refusal 9 at 92, and 16
pub edits :
    map outcome_number (ok phrase_p ∷ refused 12 36 ∷ []) ++ map written_number (ok file_p ∷ refused 9 92 ∷ refused 16 0 ∷ [])
    ≡ 0 ∷ 51539607588 ∷ 50 ∷ 38654705756 ∷ 68719476736 ∷ []
edits = refl

-- a playing that was worked out, 17, and 18 with stroke 3
abbrev times_p : Times
times_p = record { starts = 4 ∷ 0 ∷ []; finishes = 6 ∷ 4 ∷ [] }

pub playings : map outcome_number (ok times_p ∷ refused 17 0 ∷ refused 18 3 ∷ []) ≡ 0 ∷ 73014444032 ∷ 77309411331 ∷ []
playings = refl

abbrev played : List ℕ → List ℕ → ℕ
played file playing = outcome_number (played_of (reading file) playing)

-- of P: its playing; no byte; stroke 1, called at 1, where only 0 is allowed. Of files that are not read: 1 at 0, and 3 at 50
pub as_played :
    played file_p playing_p ∷ played file_p [] ∷ played file_p (two 0 2 1 4) ∷ played version_nine playing_p ∷ played byte_remains playing_p ∷ []
    ≡ 0 ∷ 73014444032 ∷ 77309411329 ∷ 4294967296 ∷ 12884901938 ∷ []
unfolding reading scenario_for
as_played = refl

-- files and tables, and the number that is due
abbrev pub table : List (Case ℕ)
table =
    lent file_p 32 0
    ∷ lent file_p table_words 0
    -- 13 at level 1, and at level 0
    ∷ lent file_p 31 55834574849
    ∷ lent file_p 0 55834574848
    -- 14 with stroke 0
    ∷ lent late_phrase 32 60129542144
    -- 1 at 0, and 3 at 50
    ∷ lent version_nine 0 4294967296
    ∷ lent byte_remains 32 12884901938
    ∷ []

pub as_due : given number_for table ≡ dues table
unfolding reading analysis
as_due = refl

-- P with stroke 0 called at 0 only, and stroke 1 due at 5: it ends at 6 in the one run, so 14 with stroke 1; due at 6, accepted
pub by_the_run : (r : ℕ) → NumberByRun (reading (set called_at_zero 49 0x05)) table_words r → r ≡ 60129542145
unfolding reading run_verdict
by_the_run r x = x.1

pub in_time_holds : (r : ℕ) → NumberByRun (reading called_at_zero) table_words r → r ≡ 0
unfolding reading run_verdict
in_time_holds r x = x.1
