-- The check of a phrase file over a lent table: its verdict, and the result that carries it. Assumes nothing.
use Rattle.std.specs.Prelude.{ℕ, ◌-◌, ◌*◌, ◌≡◌, List, [], get_or, length, drop, replicate}
use Rattle.model.specs.Limits.{most_jobs}
use Rattle.model.specs.Refusals.{late_job}
use Rattle.model.specs.Jobs.{Job, job}
use Rattle.model.specs.States.{Range, empty, range, earliest, latest}
use Rattle.model.specs.Dispatch.{Scenario}
use Rattle.model.specs.Exploration.{accepted, refused, late, analysis, state_words, capacity}
use Rattle.model.specs.Exploration.{Verdict}
use Rattle.model.specs.Guarantee.{Admissible, Kept}
use Rattle.words.specs.Tabulate.{tabulate}
use Rattle.words.specs.Padded.{padded}
use Rattle.format.specs.Phrase.{Phrase}
use Rattle.format.specs.Jobs.{jobs_of}
use Rattle.format.specs.Outcome.{Outcome, ok}
use Rattle.format.specs.Outcome.{refused as unread}
use Rattle.checking.specs.declared.Answer.{Answer}
use Rattle.checking.specs.declared.Answer.TheVariants.{Accepted, Refused, Late}
use Rattle.checking.specs.declared.Checked.{Checked}

-- ---- the verdict, for a reading and a table of so many words

-- so many states of the phrase have room in half of the table (S)
abbrev pub capacity_for : Phrase → ℕ → ℕ
capacity_for x words = capacity words x.cores (length (jobs_of x))

-- A refusal of reading stands as it is; else the phrase's jobs are analysed, with the capacity that the table gives.
abbrev pub verdict : Outcome Phrase → ℕ → Verdict
verdict (ok x) words = analysis (jobs_of x) x.cores (capacity_for x words)
verdict (unread n at) words = refused n at

-- what two levels of k jobs on m cores take (2 * S * W) of a table of so many words
abbrev pub level_words : ℕ → ℕ → ℕ → ℕ
level_words words m k = 2 * (capacity words m k * state_words m k)

-- So many words of the table, from the first on, may hold anything afterwards: none on a refusal of reading.
abbrev pub used_words : Outcome Phrase → ℕ → ℕ
used_words (ok x) words = level_words words x.cores (length (jobs_of x))
used_words (unread n at) words = 0

-- The table before and after: every word that may not change is as before.
abbrev pub TableKept : Outcome Phrase → List ℕ → List ℕ → Type 0
TableKept o before after = drop (used_words o (length before)) after ≡ drop (used_words o (length before)) before

-- ---- the result that carries it

-- a word for each of k jobs, and zeros from k on
unfoldable pub per_job : ℕ → (ℕ → ℕ) → List ℕ
unfolding tabulate
per_job k f = padded most_jobs (tabulate f 0 k)

-- On any refusal, late included, all is zero beside the answer.
abbrev pub refusing : Answer → Checked
refusing a =
    record {
      answer = a;
      jobs = 0;
      earliest = replicate most_jobs 0;
      latest = replicate most_jobs 0;
      best = replicate most_jobs 0;
      worst = replicate most_jobs 0;
      states = 0;
    }

-- When accepted: the number of jobs (K); for each job the bounds of its finish time (its ends) and of its response, which is the finish time minus the
-- earliest release (ra); and the number of states stored.
abbrev pub result_of : List Job → Verdict → Checked
result_of js (accepted bounds c) =
    record {
      answer = Accepted;
      jobs = length js;
      earliest = per_job (length js) (λ i. earliest (get_or bounds i empty));
      latest = per_job (length js) (λ i. latest (get_or bounds i empty));
      best = per_job (length js) (λ i. earliest (get_or bounds i empty) - (job js i).earliest_release);
      worst = per_job (length js) (λ i. latest (get_or bounds i empty) - (job js i).earliest_release);
      states = c;
    }
result_of js (refused n at) = refusing (Refused n at)
result_of js (late i e f) = refusing (Late i e f)

-- the jobs that were read, none on a refusal
abbrev pub jobs_read : Outcome Phrase → List Job
jobs_read (ok x) = jobs_of x
jobs_read (unread n at) = []

-- The result of a check.
abbrev pub checked_of : Outcome Phrase → ℕ → Checked
checked_of o words = result_of (jobs_read o) (verdict o words)

-- ---- what a result says

-- the answer that a verdict gives
abbrev pub answer_for : Verdict → Answer
answer_for (accepted bounds c) = Accepted
answer_for (refused n at) = Refused n at
answer_for (late i e f) = Late i e f

-- what document 01 writes of an answer: the number of a refusal and its place; of a late job the finish times
pub record Values : Type 0 where
  pub number : ℕ
  pub place : ℕ
  pub earliest : ℕ
  pub latest : ℕ

-- 0 for what was accepted
abbrev pub values_of : Answer → Values
values_of Accepted = record { number = 0; place = 0; earliest = 0; latest = 0 }
values_of (Refused n at) = record { number = n; place = at; earliest = 0; latest = 0 }
values_of (Late i e f) = record { number = late_job; place = i; earliest = e; latest = f }

-- the bounds of job i that a result reports, read off its arrays
abbrev pub bound_of : Checked → ℕ → Range
bound_of r i = range (get_or r.earliest i 0) (get_or r.latest i 0)

-- the bounds of every job
unfoldable pub bounds_of : Checked → List Range
unfolding tabulate
bounds_of r = tabulate (bound_of r) 0 r.jobs

-- ---- what is promised of every run (demand 3)

-- A phrase was read and accepted, and every run of it keeps the bounds of this verdict.
abbrev pub Playable : Outcome Phrase → Verdict → Type 0
Playable (ok x) (accepted bounds c) = (s : Scenario) → Admissible (jobs_of x) s → Kept (jobs_of x) x.cores bounds s
Playable (ok x) (refused n at) = ⊥
Playable (ok x) (late i e f) = ⊥
Playable (unread n at) v = ⊥

-- Where a result accepts, the phrase is playable with the bounds that stand in the result's own arrays.
abbrev pub RunsKept : Outcome Phrase → Checked → Type 0
RunsKept o r = r.answer ≡ Accepted → Playable o (accepted (bounds_of r) r.states)
