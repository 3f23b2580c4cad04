-- The rows of jobs: their lengths and words; and the rows of a phrase's jobs are these jobs, of which what the analysis relies on holds. Assumes nothing.
use Prim.Native.Nat.{ℕ, zero, suc, ◌+◌, ◌*◌, ◌≤◌, ◌<◌}
use mathlib.Core.Path.{◌≡◌, refl, sym, ap, ◌∙◌, subst}
use mathlib.Core.Bool.{true}
use mathlib.Core.List.{List, [], ◌∷◌, ◌++◌}
use native.Mathlib.Nat.{not-suc-le-zero, le_of_suc-le-suc, zero-add}
use native.Mathlib.Omega.{arith}
use lib.ListN.{get_or, length, take, drop, length-append, length-drop, get_or-append}
use lib.Seq.{length-take-le, get_or-take, get_or-drop, get_or-append-add, ext_get_or}
use Rattle.model.specs.Limits.{most_jobs, longest_execution, longest_rest, latest_time}
use Rattle.model.specs.Folds.{member}
use Rattle.model.specs.Jobs.{Job, no_job, job, nearest, as_list, predecessors}
use Rattle.model.specs.internal.Bounds.{TimedUpTo, RestsUpTo}
use Rattle.model.proofs.Folds.{member_here, member_there}
use Rattle.words.specs.Tabulate.{tabulate}
use Rattle.words.specs.Padded.{padded}
use Rattle.words.proofs.Tabulate.{length_tabulate, get_or_tabulate, tabulate_is}
use Rattle.words.proofs.Padded.{padded_length}
use Rattle.format.specs.Phrase.{Phrase}
use Rattle.format.specs.Jobs.{jobs_of}
use Rattle.format.specs.Fits.{All}
use Rattle.format.specs.internal.Analysable.{most_predecessors, Analysable}
use Rattle.format.proofs.Jobs.{jobs_length}
use Rattle.rows.proofs.Records.{Wide, records_length, records_word}
use Rattle.jobs.specs.internal.JobRow.{row_words, earliest_release_at, latest_release_at, least_execution_at, most_execution_at, deadline_at, priority_at, predecessor_count_at, predecessors_at, rest_at, job_bell_at, job_listed_at, job_row, job_rows, word, job_at, jobs_of_rows, Rows, Setting}
use Rattle.jobs.specs.internal.JobTable.{job_table}

get_or_member : (l : List ℕ) (j : ℕ) → j < length l → member (get_or l j 0) l ≡ true
get_or_member [] j h = absurd (not-suc-le-zero h)
get_or_member (x ∷ xs) zero h = member_here x xs
get_or_member (x ∷ xs) (suc j) h = member_there (get_or xs j 0) x xs (get_or_member xs j (le_of_suc-le-suc h))

-- the words from a place on are a list, where they are its elements
taken : (rows : List ℕ) (from : ℕ) (l : List ℕ) (n : ℕ) → length l ≡ n → from + n ≤ length rows
    → ((j : ℕ) → j < n → get_or rows (from + j) 0 ≡ get_or l j 0) → take n (drop from rows) ≡ l
taken rows from l n e h same =
    let size : length (take n (drop from rows)) ≡ n = length-take-le n (drop from rows) (omega (arith, length-drop from rows)) in
    ext_get_or 0 (take n (drop from rows)) l (size ∙ sym e)
    (λ j b. let here : j < n = omega (arith, size, b) in get_or-take n (drop from rows) j 0 here ∙ get_or-drop from rows j 0 ∙ same j here)

-- ---- one row

module _ (js : List Job) (i : ℕ) (few : length (predecessors js i) ≤ most_predecessors) where
  abbrev before : List ℕ
  before = padded most_predecessors (predecessors js i)

  abbrev last : List ℕ
  last = (job js i).rest ∷ (job js i).bell ∷ length (job js i).listed ∷ 0 ∷ []

  room : length before ≡ most_predecessors
  room = padded_length most_predecessors (predecessors js i) few

  -- The row of a job is as wide as every row.
  pub row_length : length (job_row js i) ≡ row_words
  unfolding job_row
  row_length = omega (arith, room, length-append before last)

  row_predecessor : (j : ℕ) → j < length (predecessors js i) → get_or (job_row js i) (predecessors_at + j) 0 ≡ get_or (predecessors js i) j 0
  unfolding job_row
  row_predecessor j h =
      sym (get_or-drop predecessors_at (job_row js i) j 0)
      ∙ get_or-append before last 0 j (omega (arith, room))
      ∙ get_or-append (predecessors js i) _ 0 j h

  row_last : (n : ℕ) → get_or (job_row js i) (rest_at + n) 0 ≡ get_or last n 0
  unfolding job_row
  row_last n =
      let place : rest_at + n ≡ predecessors_at + (most_predecessors + n) = omega arith in
      let at : most_predecessors + n ≡ length before + n = omega (arith, room) in
      ap (λ (m : ℕ). get_or (job_row js i) m 0) place
      ∙ sym (get_or-drop predecessors_at (job_row js i) (most_predecessors + n) 0)
      ∙ ap (λ (m : ℕ). get_or (before ++ last) m 0) at
      ∙ get_or-append-add before last n 0

-- ---- rows one after the other

all_tabulated : {A : Type 0} (P : A → Type 0) (f : ℕ → A) (a n : ℕ) → ((i : ℕ) → i < n → P (f (a + i))) → All P (tabulate f a n)
unfolding All tabulate
all_tabulated P f a zero h = tt
all_tabulated P f a (suc n) h =
    let first : a + 0 ≡ a = omega arith in
    (subst (λ (m : ℕ). P (f m)) first (h 0 (omega arith)), all_tabulated P f (suc a) n (λ i b. let next : a + suc i ≡ suc a + i = omega arith in subst (λ (m : ℕ). P (f m)) next (h (suc i) (omega arith))))

module _ (js : List Job) (n : ℕ) (few : (i : ℕ) → i < n → length (predecessors js i) ≤ most_predecessors) where
  abbrev numbers : List ℕ
  numbers = tabulate (λ (i : ℕ). i) 0 n

  wide : Wide (job_row js) row_words numbers
  wide = all_tabulated (λ (i : ℕ). length (job_row js i) ≡ row_words) (λ (i : ℕ). i) 0 n (λ i b. rw zero-add (row_length js i (few i b)))

  -- The rows of n jobs take the words of n rows.
  pub rows_length : length (job_rows js n) ≡ n * row_words
  unfolding job_rows
  rows_length = records_length (job_row js) row_words numbers wide ∙ ap (λ (m : ℕ). m * row_words) (length_tabulate (λ (i : ℕ). i) 0 n)

  -- A word of the rows is that of its row, whatever follows them.
  pub rows_word : (more : List ℕ) (i at : ℕ) → i < n → at < row_words → word (job_rows js n ++ more) i at ≡ get_or (job_row js i) at 0
  unfolding job_rows
  rows_word more i at b h =
      get_or-append (job_rows js n) more 0 (i * row_words + at) (omega (arith, rows_length))
      ∙ records_word (job_row js) row_words numbers 0 wide i at (omega (arith, length_tabulate (λ (m : ℕ). m) 0 n)) h
      ∙ ap (λ (m : ℕ). get_or (job_row js m) at 0) (get_or_tabulate (λ (m : ℕ). m) 0 n i 0 b ∙ zero-add i)

-- ---- the jobs that rows hold

module _ (js : List Job) (few : (i : ℕ) → i < length js → length (predecessors js i) ≤ most_predecessors) (rows more : List ℕ) (e : rows ≡ job_rows js (length js) ++ more) where
  long : length js * row_words ≤ length rows
  long = omega (arith, rows_length js (length js) few, length-append (job_rows js (length js)) more, ap length e)

  module _ (i : ℕ) (b : i < length js) where
    word_of : (at : ℕ) → at < row_words → word rows i at ≡ get_or (job_row js i) at 0
    word_of at h = ap (λ (l : List ℕ). word l i at) e ∙ rows_word js (length js) few more i at b h

    count_of : word rows i predecessor_count_at ≡ length (predecessors js i)
    unfolding job_row
    count_of = word_of predecessor_count_at (omega arith)

    predecessor_word : (j : ℕ) → j < length (predecessors js i) → get_or rows (i * row_words + predecessors_at + j) 0 ≡ get_or (predecessors js i) j 0
    predecessor_word j h =
        let place : i * row_words + predecessors_at + j ≡ i * row_words + (predecessors_at + j) = omega arith in
        ap (λ (m : ℕ). get_or rows m 0) place ∙ word_of (predecessors_at + j) (omega (arith, few i b)) ∙ row_predecessor js i (few i b) j h

    all_of : take (word rows i predecessor_count_at) (drop (i * row_words + predecessors_at) rows) ≡ predecessors js i
    all_of =
        taken rows (i * row_words + predecessors_at) (predecessors js i) (word rows i predecessor_count_at) (sym count_of) (omega (arith, count_of, few i b, long))
        (λ j h. predecessor_word j (omega (arith, count_of, h)))

    listed_count_holds : word rows i job_listed_at ≡ length (job js i).listed
    listed_count_holds = word_of job_listed_at (omega arith) ∙ row_last js i (few i b) 2

    listed_of : take (word rows i job_listed_at) (drop (i * row_words + predecessors_at) rows) ≡ (job js i).listed
    unfolding predecessors
    listed_of =
        let own : List ℕ = as_list (nearest js (job js i).bell i) in
        let more-than : length (predecessors js i) ≡ length (job js i).listed + length own = length-append (job js i).listed own in
        taken rows (i * row_words + predecessors_at) (job js i).listed (word rows i job_listed_at) (sym listed_count_holds) (omega (arith, listed_count_holds, more-than, few i b, long))
        (λ j h. predecessor_word j (omega (arith, listed_count_holds, more-than, h)) ∙ get_or-append (job js i).listed own 0 j (omega (arith, listed_count_holds, h)))

    -- The job in row i is job i.
    pub job_of : job_at rows i ≡ job js i
    unfolding job_at job_row
    job_of =
        let ra = word_of earliest_release_at (omega arith) in
        let rb = word_of latest_release_at (omega arith) in
        let ca = word_of least_execution_at (omega arith) in
        let cb = word_of most_execution_at (omega arith) in
        let d = word_of deadline_at (omega arith) in
        let p = word_of priority_at (omega arith) in
        let rest = word_of rest_at (omega arith) ∙ row_last js i (few i b) 0 in
        let own = word_of job_bell_at (omega arith) ∙ row_last js i (few i b) 1 in
        λ n. record {
          earliest_release = ra n;
          latest_release = rb n;
          least_execution = ca n;
          most_execution = cb n;
          deadline = d n;
          priority = p n;
          bell = own n;
          rest = rest n;
          listed = listed_of n;
        }

  -- What the rows of these jobs hold is these jobs.
  pub jobs_of_holds : jobs_of_rows rows (length js) ≡ js
  unfolding jobs_of_rows
  jobs_of_holds = tabulate_is (job_at rows) (length js) js no_job refl (λ i b. job_of i b)

  -- The rows have every job, with its predecessors, where these are smaller than the job.
  pub rows_of : ((i : ℕ) → i < length js → (w : ℕ) → member w (predecessors js i) ≡ true → w < i) → Rows rows (length js)
  rows_of earlier =
      record {
        long = long;
        few = λ i b. omega (arith, count_of i b, few i b);
        all = λ i b. ap (λ (l : List Job). predecessors l i) jobs_of_holds ∙ sym (all_of i b);
        earlier = λ i j b h.
            let here : j < length (predecessors js i) = omega (arith, count_of i b, h) in
            omega (arith, predecessor_word i b j here, earlier i b (get_or (predecessors js i) j 0) (get_or_member (predecessors js i) j here));
      }

-- ---- the rows of a phrase's jobs

-- The times of the jobs are in their ranges.
pub timed : (x : Phrase) → Analysable x → TimedUpTo latest_time (jobs_of x)
timed x can =
    record {
      releases = λ i b. (can.ranges i b).release;
      executions = λ i b. (can.ranges i b).execution.1;
      deadlines = λ i b. (can.ranges i b).deadline;
    }

-- None has a longer rest than the longest.
pub rests : (x : Phrase) → Analysable x → RestsUpTo longest_rest (jobs_of x)
rests x can i b = (can.ranges i b).rest

module _ (x : Phrase) (can : Analysable x) (rows t : List ℕ) (e : rows ≡ job_table x t) where
  abbrev js : List Job
  js = jobs_of x

  abbrev after : List ℕ
  after = drop (length js * row_words) t

  -- What the table of a phrase's jobs holds is these jobs.
  pub phrase_jobs : jobs_of_rows rows (length x.notes) ≡ js
  phrase_jobs = ap (jobs_of_rows rows) (sym (jobs_length x)) ∙ jobs_of_holds js can.few rows after e

  ranges_of : (i : ℕ) → i < length js → (1 ≤ word rows i least_execution_at) × (word rows i most_execution_at ≤ longest_execution)
  unfolding job_row
  ranges_of i b =
      let least = word_of js can.few rows after e i b least_execution_at (omega arith) in
      let most = word_of js can.few rows after e i b most_execution_at (omega arith) in
      (rw least (can.ranges i b).execution.0, rw most (can.ranges i b).execution.2)

  -- What the analysis relies on holds of the table of a phrase's jobs.
  pub setting : length x.notes ≤ most_jobs → Setting rows (length x.notes) x.cores
  setting small =
      record {
        rows_of = subst (Rows rows) (jobs_length x) (rows_of js can.few rows after e can.earlier);
        jobs = small;
        cores = can.cores.0;
        few_cores = can.cores.1;
        timed = rw phrase_jobs (timed x can);
        rests = rw phrase_jobs (rests x can);
        executions = λ i b. ranges_of i (omega (arith, jobs_length x, b));
      }
