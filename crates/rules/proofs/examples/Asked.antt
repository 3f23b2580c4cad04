-- What is answered of what was asked, and where files end. Assumes nothing.
use Rattle.std.specs.Prelude.{◌≡◌, refl, [], ◌∷◌, map, Ok, Err}
use Rattle.format.specs.Bytes.{records}
use Rattle.format.specs.Layout.{first, second, third}
use Rattle.format.specs.Outcome.{ok, refused}
use Rattle.format.specs.Phrase.{Phrase}
use Rattle.format.specs.Rules.{note_rules, all_bells, all_notes}
use Rattle.format.specs.Writing.{note_file}
use Rattle.format.proofs.examples.Files.{resting, bell0, bell1, note, note0, phrase, phrase_p}
use Rattle.rules.specs.internal.Answers.{end_of}
use Rattle.rules.specs.internal.Asking.{note_asked, body_asked, body_end}

-- what passes ends at 50, and refusal 12 at 36 ends nowhere
pub answers : map (λ o. end_of {A = Phrase} o 50) (ok phrase_p ∷ refused 12 36 ∷ []) ≡ Ok 50 ∷ Err (record { number = 12; place = 36 }) ∷ []
answers = refl

-- P ends at 50; a bell without notes at 15; with a note that lists two jobs at 31
pub ends : map (body_end first) (phrase_p ∷ phrase (bell0 ∷ []) [] ∷ phrase (bell0 ∷ []) (note 60 0 5 7 (0 ∷ 1 ∷ []) ∷ []) ∷ []) ≡ 50 ∷ 15 ∷ 31 ∷ []
unfolding records note_file
ends = refl

-- with a shift before the number of bells, each a byte further on
pub shifted_ends : map (body_end second) (phrase_p ∷ phrase (bell0 ∷ []) [] ∷ []) ≡ 51 ∷ 16 ∷ []
unfolding records note_file
shifted_ends = refl

-- with rests, two bytes further on for each bell
pub rested_ends : map (body_end third) (phrase_p ∷ phrase (bell0 ∷ []) [] ∷ []) ≡ 55 ∷ 18 ∷ []
unfolding records note_file
rested_ends = refl

-- a second bell that rests 1 is told at 7 + 7 and at 8 + 7, and passes in version 3; one that rests 5001 is told there at 8 + 9
pub rested_asked : map (λ l. body_asked l (phrase (bell0 ∷ resting 1 bell1 ∷ []) [])) (first ∷ second ∷ third ∷ [])
    ≡ refused 6 14 ∷ refused 6 15 ∷ ok [] ∷ []
unfolding all_bells all_notes
rested_asked = refl

pub long_rest : body_asked third (phrase (bell0 ∷ resting 5001 bell1 ∷ []) []) ≡ refused 6 17
unfolding all_bells all_notes
long_rest = refl

-- a note that lists five jobs, and has no bell, is told for the five
pub asked : note_asked 0 (bell0 ∷ bell1 ∷ []) 5 92 (note 61 0 5 7 (0 ∷ 1 ∷ 2 ∷ 3 ∷ 4 ∷ [])) ∷ note_asked 0 (bell0 ∷ bell1 ∷ []) 0 22 note0 ∷ [] ≡ refused 9 92 ∷ ok note0 ∷ []
unfolding note_rules
asked = refl

-- down four semitones key 64 has the bell of key 60, which has none itself
pub shifted_asked : note_asked 252 (bell0 ∷ bell1 ∷ []) 0 23 (note 64 0 5 7 []) ∷ note_asked 252 (bell0 ∷ bell1 ∷ []) 0 23 note0 ∷ []
    ≡ ok (note 64 0 5 7 []) ∷ refused 10 23 ∷ []
unfolding note_rules
shifted_asked = refl
