-- The jobs of phrases, and the bells that they strike: two tables, each with one result. Assumes nothing.
use Rattle.std.specs.Prelude.{ℕ, ◌≡◌, refl, List, [], ◌∷◌, map}
use Rattle.model.specs.Jobs.{Job, predecessors}
use Rattle.format.specs.Phrase.{Phrase, find_from}
use Rattle.format.specs.Jobs.{struck, jobs_of}
use Rattle.format.proofs.examples.Files.{bell, note, phrase, bell0, note0, phrase_p, phrase_q, noted}

-- ---- the bells that the notes strike

-- a phrase, and the number of the bell of each note that is due
pub record Case : Type 0 where
  pub phrase : Phrase
  pub expected : List ℕ

abbrev row : Phrase → List ℕ → Case
row x bells = record { phrase = x; expected = bells }

-- P with another written key and transposition of bell 1, and another key of note 1
abbrev second : ℕ → ℕ → ℕ → Phrase
second written transposition key = phrase (bell0 ∷ bell written transposition 4 4 2 ∷ []) (note0 ∷ note key 0 0 6 [] ∷ [])

abbrev pub table : List Case
table =
    -- note 1 has the key 74, and bell 1 sounds for 62 + 12
    row phrase_p (0 ∷ 1 ∷ [])
    ∷ row phrase_q (0 ∷ 1 ∷ 0 ∷ 0 ∷ [])
    -- a transposition of -12; both bells with the written key 60
    ∷ row (second 62 244 50) (0 ∷ 1 ∷ [])
    ∷ row (second 60 12 72) (0 ∷ 1 ∷ [])
    -- the lowest and the highest key, written and sounding
    ∷ row (second 12 0 12) (0 ∷ 1 ∷ [])
    ∷ row (second 119 0 119) (0 ∷ 1 ∷ [])
    ∷ row (second 13 255 12) (0 ∷ 1 ∷ [])
    ∷ row (second 107 12 119) (0 ∷ 1 ∷ [])
    -- bell 1 is written as 74 and sounds for 74 - 14; bell 0 sounds for 72 + 2
    ∷ row (phrase (bell 72 2 2 2 1 ∷ bell 74 242 4 4 2 ∷ []) (note 74 0 0 6 [] ∷ [])) (0 ∷ [])
    -- both notes of bell 0
    ∷ row (noted (note0 ∷ note 60 0 0 6 (0 ∷ []) ∷ [])) (0 ∷ 0 ∷ [])
    ∷ row (noted []) []
    ∷ []

-- Every row holds.
pub examples : map (λ (c : Case). map (struck c.phrase.shift c.phrase.bells) c.phrase.notes) table ≡ map (λ (c : Case). c.expected) table
unfolding find_from
examples = refl

-- ---- the jobs

abbrev job : ℕ → ℕ → ℕ → ℕ → ℕ → ℕ → ℕ → List ℕ → Job
job ra rb ca cb d p bell listed =
    record {
      earliest_release = ra;
      latest_release = rb;
      least_execution = ca;
      most_execution = cb;
      deadline = d;
      priority = p;
      bell = bell;
      rest = 0;
      listed = listed;
    }

-- Times and listed numbers are the note's, executions and the priority its bell's.
pub jobs : jobs_of (phrase (bell 60 0 2 3 9 ∷ bell 62 12 4 5 7 ∷ []) (note 74 1 6 8 [] ∷ note 60 11 12 13 (0 ∷ []) ∷ []))
    ≡ job 1 6 4 5 8 7 1 [] ∷ job 11 12 2 3 13 9 0 (0 ∷ []) ∷ []
unfolding find_from
jobs = refl

-- Job 2 waits for job 0 of its bell; job 3 for those that it lists, and once more for job 2 of its bell.
pub waits : map (predecessors (jobs_of phrase_q)) (0 ∷ 1 ∷ 2 ∷ 3 ∷ []) ≡ [] ∷ [] ∷ (0 ∷ []) ∷ (0 ∷ 2 ∷ 2 ∷ []) ∷ []
unfolding predecessors find_from
waits = refl
