-- Wake words worked out by hand, each kind in one table with one result. Assumes nothing.
use Rattle.std.specs.Prelude.{ℕ, ◌+◌, ◌≡◌, refl, List, [], ◌∷◌, map, get_or}
use Rattle.model.specs.Jobs.{Job}
use Rattle.model.specs.Dispatch.{Scenario}
use Rattle.model.proofs.examples.Marked.{stroke, waiting, resting}
use Rattle.words.specs.Tabulate.{tabulate}
use Rattle.dispatch.specs.internal.Wakes.{asleep, started_word, last_moment, wake_in, wake_of, word_of, woken_by}

-- the marks, and the last moment: 3,600,000 and 64 times 10,000
pub marks : asleep ∷ started_word ∷ last_moment ∷ [] ≡ 2147483648 ∷ 4294967295 ∷ 4240000 ∷ []
marks = refl

-- the word of a job that waits for job n to start
abbrev waits_for : ℕ → ℕ
waits_for n = 2147483648 + n

-- ---- of a list of predecessors

-- the rests of jobs, the predecessors, the moment, and the word that is due; jobs 0, 2 and 4 finish at 9, 5 and 7, and jobs 1 and 3 have not started
pub record Listed : Type 0 where
  pub rests : List ℕ
  pub waits : List ℕ
  pub from : ℕ
  pub due : ℕ

abbrev rested : List ℕ → ℕ → List ℕ → ℕ → Listed
rested rests t ws x = record { rests = rests; waits = ws; from = t; due = x }

abbrev from : ℕ → List ℕ → ℕ → Listed
from = rested []

abbrev pub among : Listed → ℕ
among c = wake_in (λ w. get_or c.rests w 0) (9 ∷ 0 ∷ 5 ∷ 0 ∷ 7 ∷ []) c.waits c.from

abbrev lists : List Listed
lists =
    -- none
    from 3 [] 3
    -- one that finishes after the moment, then, and before it
    ∷ from 3 (2 ∷ []) 5
    ∷ from 5 (2 ∷ []) 5
    ∷ from 6 (2 ∷ []) 6
    -- the latest of three, whichever place it has, or the moment
    ∷ from 3 (2 ∷ 0 ∷ 4 ∷ []) 9
    ∷ from 3 (0 ∷ 2 ∷ 4 ∷ []) 9
    ∷ from 3 (2 ∷ 4 ∷ 0 ∷ []) 9
    ∷ from 8 (2 ∷ 4 ∷ []) 8
    -- one that has not started: alone, before and after one that has
    ∷ from 3 (3 ∷ []) (waits_for 3)
    ∷ from 3 (3 ∷ 2 ∷ []) (waits_for 3)
    ∷ from 3 (2 ∷ 3 ∷ []) (waits_for 3)
    -- of two the one that is listed first, be it the larger
    ∷ from 3 (1 ∷ 3 ∷ []) (waits_for 1)
    ∷ from 3 (3 ∷ 1 ∷ []) (waits_for 3)
    ∷ from 3 (4 ∷ 3 ∷ 0 ∷ 1 ∷ []) (waits_for 3)
    -- one that has rested after the moment, then, and before it
    ∷ rested (0 ∷ 0 ∷ 3 ∷ []) 3 (2 ∷ []) 8
    ∷ rested (0 ∷ 0 ∷ 3 ∷ []) 8 (2 ∷ []) 8
    ∷ rested (0 ∷ 0 ∷ 3 ∷ []) 9 (2 ∷ []) 9
    -- the first to finish is the last to have rested, by a moment, or is not; whichever place it has, or two
    ∷ rested (0 ∷ 0 ∷ 5 ∷ []) 3 (2 ∷ 0 ∷ 4 ∷ []) 10
    ∷ rested (0 ∷ 0 ∷ 5 ∷ []) 3 (0 ∷ 4 ∷ 2 ∷ []) 10
    ∷ rested (0 ∷ 0 ∷ 5 ∷ []) 3 (2 ∷ 0 ∷ 2 ∷ []) 10
    ∷ rested (0 ∷ 0 ∷ 3 ∷ []) 3 (0 ∷ 4 ∷ 2 ∷ []) 9
    -- the rest of another is not asked; and one that has not started has not begun to rest
    ∷ rested (8 ∷ 8 ∷ 0 ∷ 8 ∷ 8 ∷ []) 3 (2 ∷ []) 5
    ∷ rested (0 ∷ 0 ∷ 0 ∷ 4 ∷ []) 3 (3 ∷ []) (waits_for 3)
    ∷ []

pub as_listed : map among lists ≡ map (λ (c : Listed). c.due) lists
unfolding wake_in
as_listed = refl

-- ---- of the jobs of a phrase

-- Five jobs. The predecessors of job 2 are 0, which it lists, and 1, of its bell; those of job 3 are 1 and 2, which it lists, and 0, of its bell; job 4
-- lists 0.
abbrev five : List Job
five =
    stroke 0 30 1 9 1 7
    ∷ stroke 0 30 1 9 1 8
    ∷ waiting (0 ∷ []) 0 30 1 9 1 8
    ∷ waiting (1 ∷ 2 ∷ []) 0 30 1 9 1 7
    ∷ waiting (0 ∷ []) 0 30 1 9 1 9
    ∷ []

-- the executions are not asked
abbrev called : Scenario
called = record { release = λ j. get_or (4 ∷ 6 ∷ 1 ∷ 20 ∷ 2 ∷ []) j 0; execution = λ j. 29 }

-- the finish times of the first jobs, a job, its word where it has not started, and its word
pub record Case : Type 0 where
  pub finishes : List ℕ
  pub number : ℕ
  pub unstarted : ℕ
  pub due : ℕ

-- one that has not started, and one that has
abbrev waits : ℕ → List ℕ → ℕ → Case
waits j l x = record { finishes = l; number = j; unstarted = x; due = x }

abbrev started : ℕ → List ℕ → ℕ → Case
started j l x = record { finishes = l; number = j; unstarted = x; due = 4294967295 }

abbrev cases : List Case
cases =
    -- without predecessors it wakes once it is released, whatever others do
    waits 0 [] 4
    ∷ waits 1 [] 6
    ∷ waits 1 (9 ∷ []) 6
    -- it waits for those that it lists, in their order, and last for the one of its bell
    ∷ waits 2 [] (waits_for 0)
    ∷ waits 2 (0 ∷ 12 ∷ []) (waits_for 0)
    ∷ waits 2 (9 ∷ []) (waits_for 1)
    ∷ waits 3 [] (waits_for 1)
    ∷ waits 3 (9 ∷ 12 ∷ []) (waits_for 2)
    ∷ waits 3 (0 ∷ 12 ∷ 14 ∷ []) (waits_for 0)
    -- either may be the latest, and so may the release
    ∷ waits 2 (9 ∷ 12 ∷ []) 12
    ∷ waits 2 (15 ∷ 12 ∷ []) 15
    ∷ waits 3 (30 ∷ 12 ∷ 14 ∷ []) 30
    ∷ waits 3 (9 ∷ 12 ∷ 14 ∷ []) 20
    ∷ waits 4 (9 ∷ []) 9
    ∷ waits 4 (1 ∷ []) 2
    -- those that have started, with a predecessor or without
    ∷ started 0 (9 ∷ []) 4
    ∷ started 1 (0 ∷ 12 ∷ []) 6
    ∷ started 2 (9 ∷ 12 ∷ 14 ∷ []) 12
    ∷ []

pub before_the_start : map (λ (c : Case). wake_of five called c.finishes c.number) cases ≡ map (λ (c : Case). c.unstarted) cases
unfolding wake_of
before_the_start = refl

pub of_any : map (λ (c : Case). word_of five called c.finishes c.number) cases ≡ map (λ (c : Case). c.due) cases
unfolding wake_of
of_any = refl

-- ---- of jobs whose bells rest

-- Bells 7, 8 and 9 rest for 6, 3 and 4. The predecessors of job 2 are 1, which it lists, and 0, of its bell; those of job 3 are 0 and 2, both of its bell, which
-- it lists, and 2 again, the nearest; those of job 4 are 0 and 1, the latter of its bell; job 5, the first of its bell, lists 3.
abbrev six : List Job
six =
    resting 6 90 [] 0 30 1 9 1 7
    ∷ resting 3 90 [] 0 30 1 9 1 8
    ∷ resting 6 90 (1 ∷ []) 0 30 1 9 1 7
    ∷ resting 6 90 (0 ∷ 2 ∷ []) 0 30 1 9 1 7
    ∷ resting 3 90 (0 ∷ []) 0 30 1 9 1 8
    ∷ resting 4 90 (3 ∷ []) 0 30 1 9 1 9
    ∷ []

abbrev called_six : Scenario
called_six = record { release = λ j. get_or (4 ∷ 6 ∷ 14 ∷ 2 ∷ 1 ∷ 3 ∷ []) j 0; execution = λ j. 29 }

abbrev resting_cases : List Case
resting_cases =
    -- the first of its bell has no rest to wait for, nor for what it lists
    waits 0 [] 4
    ∷ waits 5 (0 ∷ 0 ∷ 0 ∷ 20 ∷ []) 20
    -- job 0 has rested at 15, which is after job 1 finishes, then, and before; and after the release or before it
    ∷ waits 2 (9 ∷ 12 ∷ []) 15
    ∷ waits 2 (9 ∷ 15 ∷ []) 15
    ∷ waits 2 (9 ∷ 16 ∷ []) 16
    ∷ waits 2 (7 ∷ 12 ∷ []) 14
    -- listed and the nearest, job 2 rests once; job 0, of the same bell too, does not rest, be it the later
    ∷ waits 3 (20 ∷ 5 ∷ 21 ∷ []) 27
    ∷ waits 3 (20 ∷ 5 ∷ 9 ∷ []) 20
    ∷ waits 3 (20 ∷ 5 ∷ 15 ∷ []) 21
    -- each by its own bell's rest, and job 0, of another, with none
    ∷ waits 4 (9 ∷ 12 ∷ []) 15
    ∷ waits 4 (18 ∷ 12 ∷ []) 18
    -- none rests that has not started
    ∷ waits 2 (9 ∷ []) (waits_for 1)
    ∷ waits 2 (0 ∷ 12 ∷ []) (waits_for 0)
    ∷ waits 3 (20 ∷ 5 ∷ []) (waits_for 2)
    ∷ started 4 (9 ∷ 12 ∷ 0 ∷ 0 ∷ 17 ∷ []) 15
    ∷ []

pub as_rested : map (λ (c : Case). wake_of six called_six c.finishes c.number) resting_cases ≡ map (λ (c : Case). c.unstarted) resting_cases
unfolding wake_of
as_rested = refl

pub of_any_rested : map (λ (c : Case). word_of six called_six c.finishes c.number) resting_cases ≡ map (λ (c : Case). c.due) resting_cases
unfolding wake_of
of_any_rested = refl

-- ---- after a start

-- the finish times, the words that were, the job that started, and the words that are due
pub record Woken : Type 0 where
  pub finishes : List ℕ
  pub words : List ℕ
  pub starting : ℕ
  pub due : List ℕ

abbrev pub after : Woken → List ℕ
after c = tabulate (woken_by five called c.finishes c.words c.starting) 0 5

abbrev starts : List Woken
starts =
    -- Job 0: jobs 2 and 4 waited for it. The words of the others stay, though those of jobs 1 and 3, made anew, would be others.
    record {
      finishes = 9 ∷ 12 ∷ [];
      words = 4294967295 ∷ 77 ∷ waits_for 0 ∷ waits_for 1 ∷ waits_for 0 ∷ [];
      starting = 0;
      due = 4294967295 ∷ 77 ∷ 12 ∷ waits_for 1 ∷ 9 ∷ [];
    }
    -- job 0 again, before job 1: job 2 waits on, for that one
    ∷ record {
      finishes = 9 ∷ [];
      words = 4294967295 ∷ 6 ∷ waits_for 0 ∷ waits_for 1 ∷ waits_for 0 ∷ [];
      starting = 0;
      due = 4294967295 ∷ 6 ∷ waits_for 1 ∷ waits_for 1 ∷ 9 ∷ [];
    }
    -- job 1: only job 3 waited for it
    ∷ record {
      finishes = 9 ∷ 12 ∷ [];
      words = 4294967295 ∷ 4294967295 ∷ waits_for 0 ∷ waits_for 1 ∷ waits_for 0 ∷ [];
      starting = 1;
      due = 4294967295 ∷ 4294967295 ∷ waits_for 0 ∷ waits_for 2 ∷ waits_for 0 ∷ [];
    }
    -- job 2, where all words say that they waited for it: only those of later jobs are made anew
    ∷ record {
      finishes = 9 ∷ 12 ∷ 14 ∷ [];
      words = waits_for 2 ∷ waits_for 2 ∷ waits_for 2 ∷ waits_for 2 ∷ waits_for 2 ∷ [];
      starting = 2;
      due = waits_for 2 ∷ waits_for 2 ∷ waits_for 2 ∷ 20 ∷ 9 ∷ [];
    }
    ∷ []

pub as_woken : map after starts ≡ map (λ (c : Woken). c.due) starts
unfolding tabulate wake_of
as_woken = refl
