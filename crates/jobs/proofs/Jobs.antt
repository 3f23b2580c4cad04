-- What the rows say of a job and of its predecessors. Assumes nothing.
use Prim.Native.Nat.{ℕ, zero, suc, ◌+◌, ◌*◌, ◌<◌}
use mathlib.Core.Path.{◌≡◌, refl, ap, ◌∙◌}
use mathlib.Core.Bool.{Bool, ◌||◌}
use mathlib.Core.List.{List}
use native.Mathlib.Nat.{zero-add}
use native.Mathlib.Numerals.{add-one}
use native.Mathlib.Omega.{arith}
use lib.Dec.{eqb}
use lib.ListN.{get_or, length, drop, length-drop, drop_of_length-le}
use lib.Seq.{length-take-le, get_or-take, get_or-drop, drop-cons}
use Rattle.std.specs.List.{range_with_len, list_any}
use Rattle.model.specs.Folds.{member}
use Rattle.model.specs.Jobs.{no_job, job, predecessors}
use Rattle.words.specs.Tabulate.{tabulate}
use Rattle.words.proofs.Tabulate.{length_tabulate, get_or_tabulate}
use Rattle.jobs.specs.internal.JobRow.{row_words, predecessor_count_at, predecessors_at, word, job_at, jobs_of_rows, Rows}
use Rattle.jobs.specs.internal.Fields.{field_count, field_at}

-- As many jobs are read as rows are asked for.
pub length_jobs : (rows : List ℕ) (k : ℕ) → length (jobs_of_rows rows k) ≡ k
unfolding jobs_of_rows
length_jobs rows k = length_tabulate (job_at rows) 0 k

-- A row holds its job.
pub job_of : (rows : List ℕ) (k i : ℕ) → i < k → job (jobs_of_rows rows k) i ≡ job_at rows i
unfolding jobs_of_rows
job_of rows k i h = get_or_tabulate (job_at rows) 0 k i no_job h ∙ ap (job_at rows) (zero-add i)

-- A row holds the fields of its job in their order.
pub field_of : (rows : List ℕ) (k i at : ℕ) → i < k → at < field_count → field_at at (job (jobs_of_rows rows k) i) ≡ word rows i at
unfolding job_at tabulate
field_of rows k i at h b = ap (field_at at) (job_of rows k i h) ∙ get_or_tabulate (word rows i) 0 field_count at 0 b ∙ ap (word rows i) (zero-add at)

module _ (rows : List ℕ) (k i : ℕ) (h : i < k) (r : Rows rows k) where
  -- The row counts the predecessors.
  pub length_predecessors : length (predecessors (jobs_of_rows rows k) i) ≡ word rows i predecessor_count_at
  length_predecessors =
      ap length (r.all i h)
      ∙ length-take-le (word rows i predecessor_count_at) (drop (i * row_words + predecessors_at) rows) (rw length-drop (omega (arith, r.long, r.few i h)))

  module _ (j : ℕ) (b : j < length (predecessors (jobs_of_rows rows k) i)) where
    below : j < word rows i predecessor_count_at
    below = omega (arith, length_predecessors)

    -- The row holds each predecessor.
    pub predecessor_of : get_or (predecessors (jobs_of_rows rows k) i) j 0 ≡ word rows i (predecessors_at + j)
    predecessor_of =
        ap (λ (l : List ℕ). get_or l j 0) (r.all i h)
        ∙ get_or-take (word rows i predecessor_count_at) (drop (i * row_words + predecessors_at) rows) j 0 below
        ∙ get_or-drop (i * row_words + predecessors_at) rows j 0
        ∙ ap (λ (n : ℕ). get_or rows n 0) (omega arith)

    -- A predecessor is smaller than the job.
    pub predecessor_below : word rows i (predecessors_at + j) < i
    predecessor_below = omega (arith, r.earlier i j h below, ap (λ (n : ℕ). get_or rows n 0) place)
      where
        place : i * row_words + (predecessors_at + j) ≡ i * row_words + predecessors_at + j
        place = omega arith

-- ---- a search for x in a list, by its places

-- The test of each place from `a` on, of which n are left, answers for what is left of the list.
pub member_by_place : (x : ℕ) (l : List ℕ) (a n : ℕ) → a + n ≡ length l → list_any (λ j. eqb x (get_or l j 0)) (range_with_len a n) ≡ member x (drop a l)
unfolding member
member_by_place x l a zero e = rw (drop_of_length-le l {i = a} (omega arith)) refl
member_by_place x l a (suc n) e =
    let rest = member_by_place x l (a + 1) n (omega arith) ∙ ap (λ (b : ℕ). member x (drop b l)) (add-one a) in
    rw (drop-cons l a 0 (omega arith)) (ap (λ (b : Bool). eqb x (get_or l a 0) || b) rest)
