-- The rows of the jobs of phrases, worked out by hand, in one table with one result; and what is read from them. Assumes nothing.
use Rattle.std.specs.Prelude.{ℕ, ◌≡◌, refl, List, [], ◌∷◌, ◌++◌, map, length, replicate}
use Rattle.model.specs.Jobs.{Job, predecessors}
use Rattle.model.proofs.examples.Marked.{due_waiting, due}
use Rattle.format.specs.Phrase.{Phrase, find_from}
use Rattle.format.specs.Jobs.{jobs_of}
use Rattle.format.proofs.examples.Files.{bell, note, phrase, note0, note1, phrase_p, phrase_q, noted}
use Rattle.jobs.specs.internal.JobRow.{job_rows, jobs_of_rows}
use Rattle.jobs.specs.internal.JobTable.{job_table}

-- a phrase, and the rows of its jobs that are due
pub record Case : Type 0 where
  pub phrase : Phrase
  pub expected : List ℕ

abbrev row : Phrase → List ℕ → Case
row x words = record { phrase = x; expected = words }

-- A row has 16 words: ra, rb, ca, cb, d, p; the number of predecessors, and five of them; rest, bell, the number of those listed, and a zero.
abbrev rows_p : List ℕ
rows_p =
    (0 ∷ 5 ∷ 2 ∷ 2 ∷ 7 ∷ 1 ∷ []) ++ (0 ∷ 0 ∷ 0 ∷ 0 ∷ 0 ∷ 0 ∷ []) ++ (0 ∷ 0 ∷ 0 ∷ 0 ∷ [])
    ++ (0 ∷ 0 ∷ 4 ∷ 4 ∷ 6 ∷ 2 ∷ []) ++ (0 ∷ 0 ∷ 0 ∷ 0 ∷ 0 ∷ 0 ∷ []) ++ (0 ∷ 1 ∷ 0 ∷ 0 ∷ [])

-- job 2 waits for job 0 of its bell; job 3 for those that it lists, and once more for job 2 of its bell
abbrev rows_q : List ℕ
rows_q =
    rows_p
    ++ (1 ∷ 2 ∷ 2 ∷ 2 ∷ 9 ∷ 1 ∷ []) ++ (1 ∷ 0 ∷ 0 ∷ 0 ∷ 0 ∷ 0 ∷ []) ++ (0 ∷ 0 ∷ 0 ∷ 0 ∷ [])
    ++ (66051 ∷ 263430 ∷ 2 ∷ 2 ∷ 460809 ∷ 1 ∷ []) ++ (3 ∷ 0 ∷ 2 ∷ 2 ∷ 0 ∷ 0 ∷ []) ++ (0 ∷ 0 ∷ 2 ∷ 0 ∷ [])

-- job 2 lists job 0, and waits for job 1 of its bell too; the executions are ranges
abbrev phrase_l : Phrase
phrase_l = phrase (bell 60 0 2 3 9 ∷ bell 62 12 4 5 7 ∷ []) (note0 ∷ note1 ∷ note 74 11 12 13 (0 ∷ []) ∷ [])

abbrev rows_l : List ℕ
rows_l =
    (0 ∷ 5 ∷ 2 ∷ 3 ∷ 7 ∷ 9 ∷ []) ++ (0 ∷ 0 ∷ 0 ∷ 0 ∷ 0 ∷ 0 ∷ []) ++ (0 ∷ 0 ∷ 0 ∷ 0 ∷ [])
    ++ (0 ∷ 0 ∷ 4 ∷ 5 ∷ 6 ∷ 7 ∷ []) ++ (0 ∷ 0 ∷ 0 ∷ 0 ∷ 0 ∷ 0 ∷ []) ++ (0 ∷ 1 ∷ 0 ∷ 0 ∷ [])
    ++ (11 ∷ 12 ∷ 4 ∷ 5 ∷ 13 ∷ 7 ∷ []) ++ (2 ∷ 0 ∷ 1 ∷ 0 ∷ 0 ∷ 0 ∷ []) ++ (0 ∷ 1 ∷ 1 ∷ 0 ∷ [])

-- jobs 0, 2, 4 and 5 are of bell 0: each waits for the nearest before it, not the first; job 5 lists four more
abbrev phrase_f : Phrase
phrase_f = noted (note0 ∷ note1 ∷ note 60 1 2 9 [] ∷ note 74 2 3 9 [] ∷ note 60 3 4 9 [] ∷ note 60 4 5 9 (0 ∷ 1 ∷ 2 ∷ 3 ∷ []) ∷ [])

abbrev rows_f : List ℕ
rows_f =
    rows_p
    ++ (1 ∷ 2 ∷ 2 ∷ 2 ∷ 9 ∷ 1 ∷ []) ++ (1 ∷ 0 ∷ 0 ∷ 0 ∷ 0 ∷ 0 ∷ []) ++ (0 ∷ 0 ∷ 0 ∷ 0 ∷ [])
    ++ (2 ∷ 3 ∷ 4 ∷ 4 ∷ 9 ∷ 2 ∷ []) ++ (1 ∷ 1 ∷ 0 ∷ 0 ∷ 0 ∷ 0 ∷ []) ++ (0 ∷ 1 ∷ 0 ∷ 0 ∷ [])
    ++ (3 ∷ 4 ∷ 2 ∷ 2 ∷ 9 ∷ 1 ∷ []) ++ (1 ∷ 2 ∷ 0 ∷ 0 ∷ 0 ∷ 0 ∷ []) ++ (0 ∷ 0 ∷ 0 ∷ 0 ∷ [])
    ++ (4 ∷ 5 ∷ 2 ∷ 2 ∷ 9 ∷ 1 ∷ []) ++ (5 ∷ 0 ∷ 1 ∷ 2 ∷ 3 ∷ 4 ∷ []) ++ (0 ∷ 0 ∷ 4 ∷ 0 ∷ [])

abbrev pub table : List Case
table = row phrase_p rows_p ∷ row phrase_q rows_q ∷ row phrase_l rows_l ∷ row phrase_f rows_f ∷ row (noted []) [] ∷ []

abbrev rows_of : Phrase → List ℕ
rows_of x = job_rows (jobs_of x) (length (jobs_of x))

-- Every row of the table holds.
pub examples : map (λ (c : Case). rows_of c.phrase) table ≡ map (λ (c : Case). c.expected) table
unfolding find_from job_rows
examples = refl

-- The words after the rows stay.
pub words_after : job_table phrase_p (replicate 34 9) ≡ rows_p ++ 9 ∷ 9 ∷ []
unfolding find_from job_rows
words_after = refl

-- the jobs of Q: the bell gives hold range and rank, the note the rest
abbrev jobs_q : List Job
jobs_q = due 7 0 5 2 2 1 0 ∷ due 6 0 0 4 4 2 1 ∷ due 9 1 2 2 2 1 0 ∷ due_waiting 460809 (0 ∷ 2 ∷ []) 66051 263430 2 2 1 0 ∷ []

-- Q has these jobs.
pub q_jobs : jobs_of phrase_q ≡ jobs_q
unfolding find_from
q_jobs = refl

-- They are what is read from their rows.
pub q_read : jobs_of_rows rows_q 4 ≡ jobs_q
unfolding jobs_of_rows
q_read = refl

-- These are their predecessors.
pub q_predecessors : map (predecessors jobs_q) (0 ∷ 1 ∷ 2 ∷ 3 ∷ []) ≡ [] ∷ [] ∷ (0 ∷ []) ∷ (0 ∷ 2 ∷ 2 ∷ []) ∷ []
unfolding predecessors
q_predecessors = refl
