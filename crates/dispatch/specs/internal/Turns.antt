-- A run in words, from start to start. Assumes nothing.
use Rattle.std.specs.Prelude.{ℕ, ◌≤◌, ◌<◌, max, ◌≡◌, Bool, true, false, cond, List, eqb, ltb, get_or, length}
use Rattle.model.specs.Folds.{ind, count, sum}
use Rattle.model.specs.Jobs.{Job}
use Rattle.model.specs.Dispatch.{Scenario}
use Rattle.model.specs.Guarantee.{WellFormed, Admissible}
use Rattle.model.specs.Playing.{horizon, start_time, finish_time}
use Rattle.model.proofs.History.{Entry, unstarted, ran, busy}
use Rattle.model.proofs.Following.{Stage}
use Rattle.words.specs.Tabulate.{tabulate}
use Rattle.jobs.specs.internal.JobRow.{jobs_of_rows, Setting}
use Rattle.playing.specs.Playing.{scenario_in}
use Rattle.playing.specs.internal.Admitting.{HasJobs}
use Rattle.dispatch.specs.internal.Wakes.{asleep, EachWakes, word_of}

-- what is given: the rows of k jobs, and a playing of them in their ranges, for m cores
pub record Dispatchable (rows : List ℕ) (k m : ℕ) (playing : List ℕ) : Type 0 where
  pub setting : Setting rows k m
  pub has_jobs : HasJobs playing k
  pub well_formed : WellFormed (jobs_of_rows rows k) m
  pub admissible : Admissible (jobs_of_rows rows k) (scenario_in playing)

-- ---- the words as a history: 0 is the finish time of a job that has not started

abbrev pub entry_in : ℕ → ℕ → Entry
entry_in a f = cond (eqb f 0) unstarted (ran a f)

unfoldable pub history_of : List ℕ → List ℕ → ℕ → List Entry
unfolding tabulate
history_of starts finishes k = tabulate (λ i. entry_in (get_or starts i 0) (get_or finishes i 0)) 0 k

-- how many of the first k have not started
unfoldable pub unstarted_in : List ℕ → ℕ → ℕ
unfolding sum
unstarted_in finishes k = sum (λ i. ind (eqb (get_or finishes i 0) 0)) k

-- the words from k on are zero
abbrev pub ZeroFrom : ℕ → List ℕ → Type 0
ZeroFrom k l = (j : ℕ) → k ≤ j → get_or l j 0 ≡ 0

-- ---- between two starts

-- At t, before the starts that are left there. From t on the cores say how many jobs run; no start before t is left; and all times are within the horizon.
pub record Standing (js : List Job) (s : Scenario) (k t : ℕ) (starts finishes wakes cores : List ℕ) : Type 0 where
  pub stage : Stage js (length cores) s t (history_of starts finishes k)
  pub in_use : (v : ℕ) → t ≤ v → busy v (history_of starts finishes k) ≡ count (ltb v) cores
  pub woken : EachWakes (word_of js s finishes) k wakes
  pub not_before : (c j : ℕ) → c < length cores → j < k → get_or wakes j 0 < asleep → t ≤ max (get_or cores c 0) (get_or wakes j 0)
  pub finishes_within : (j : ℕ) → j < k → get_or finishes j 0 ≤ horizon js s
  pub cores_within : (c : ℕ) → c < length cores → get_or cores c 0 ≤ horizon js s

-- all words are there, and zero from k on
pub record WordsKept (k : ℕ) (starts finishes wakes : List ℕ) : Type 0 where
  pub starts_long : k ≤ length starts
  pub finishes_long : k ≤ length finishes
  pub wakes_long : k ≤ length wakes
  pub starts_zero : ZeroFrom k starts
  pub finishes_zero : ZeroFrom k finishes

pub record Turn (rows : List ℕ) (k : ℕ) (playing starts finishes wakes cores : List ℕ) : Type 0 where
  pub time : ℕ
  pub standing : Standing (jobs_of_rows rows k) (scenario_in playing) k time starts finishes wakes cores
  pub kept : WordsKept k starts finishes wakes

-- ---- the end: each job has the start and the finish time of the run

abbrev pub IsTime : (ℕ → ℕ) → ℕ → List ℕ → Type 0
IsTime f k l = ((j : ℕ) → j < k → get_or l j 0 ≡ f j) × ZeroFrom k l

pub record Over (rows : List ℕ) (k m : ℕ) (playing starts finishes : List ℕ) : Type 0 where
  pub starts_are : IsTime (start_time (jobs_of_rows rows k) m (scenario_in playing)) k starts
  pub finishes_are : IsTime (finish_time (jobs_of_rows rows k) m (scenario_in playing)) k finishes

-- after a turn: a job more has started, or all have
abbrev pub Turned : List ℕ → ℕ → ℕ → List ℕ → List ℕ → List ℕ → List ℕ → List ℕ → List ℕ → Bool → Type 0
Turned rows k m playing before starts finishes wakes cores true =
    (length cores ≡ m) × Turn rows k playing starts finishes wakes cores × (unstarted_in finishes k < unstarted_in before k)
Turned rows k m playing before starts finishes wakes cores false =
    (length cores ≡ m) × Over rows k m playing starts finishes × (unstarted_in finishes k ≤ unstarted_in before k)
