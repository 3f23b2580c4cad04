-- Laws of the arrays that hold a word for each job, and zeros after these. Assumes nothing.
use Prim.Native.Nat.{ℕ, ◌+◌, ◌-◌, ◌≤◌, ◌<◌}
use mathlib.Core.Path.{◌≡◌, refl, sym, ap, ◌∙◌}
use mathlib.Core.Bool.{Bool, true, false}
use mathlib.Core.List.{List}
use native.Mathlib.Nat.{zero-add}
use native.Mathlib.Decide.{ℕ_discrete}
use native.Mathlib.Omega.{arith}
use lib.Dec.{ltb}
use lib.ListN.{get_or, length, set, replicate, length-append, length-replicate, length-set, get_or-append}
use lib.Seq.{get_or-append-add, get_or-set_same, get_or-set_other, ext_get_or}
use borrow.Author.Tests.{ltb-true, ltb-false}
use Rattle.model.specs.Limits.{most_jobs}
use Rattle.model.proofs.Folds.{get_or_same}
use Rattle.words.specs.Tabulate.{tabulate}
use Rattle.words.proofs.Tabulate.{length_tabulate, get_or_tabulate, tabulate_ext}
use Rattle.words.specs.Padded.{padded}
use Rattle.checking.specs.Checking.{per_job}

module _ (k : ℕ) (f : ℕ → ℕ) (few : k ≤ most_jobs) where
  abbrev zeros : List ℕ
  zeros = replicate (most_jobs - length (tabulate f 0 k)) 0

  per_job_length : length (per_job k f) ≡ most_jobs
  unfolding per_job
  per_job_length = omega (arith, length-append (tabulate f 0 k) zeros, length-replicate {A = ℕ} (most_jobs - length (tabulate f 0 k)) 0, length_tabulate f 0 k)

  -- Such an array holds the word of each job.
  pub per_job_at : (i : ℕ) → i < k → get_or (per_job k f) i 0 ≡ f i
  unfolding per_job
  per_job_at i b = get_or-append (tabulate f 0 k) zeros 0 i (omega (arith, length_tabulate f 0 k)) ∙ get_or_tabulate f 0 k i 0 b ∙ ap f (zero-add i)

  per_job_after : (i : ℕ) → k ≤ i → get_or (per_job k f) i 0 ≡ 0
  unfolding per_job
  per_job_after i b =
      let place : i ≡ length (tabulate f 0 k) + (i - k) = omega (arith, length_tabulate f 0 k) in
      ap (λ n. get_or (per_job k f) n 0) place ∙ get_or-append-add (tabulate f 0 k) zeros (i - k) 0 ∙ get_or_same (most_jobs - length (tabulate f 0 k)) (i - k) 0

  -- an array is known by its words, and by its zeros after these
  pub per_job_is : (l : List ℕ) → length l ≡ most_jobs → ((i : ℕ) → i < k → get_or l i 0 ≡ f i) → ((i : ℕ) → k ≤ i → i < most_jobs → get_or l i 0 ≡ 0)
      → l ≡ per_job k f
  per_job_is l e h z = ext_get_or 0 l (per_job k f) (e ∙ sym per_job_length) (λ i b. go i b (ltb i k) refl)
    where
      go : (i : ℕ) → i < length l → (t : Bool) → ltb i k ≡ t → get_or l i 0 ≡ get_or (per_job k f) i 0
      go i b true q = h i (ltb-true i k q) ∙ sym (per_job_at i (ltb-true i k q))
      go i b false q = z i (ltb-false i k q) (omega (arith, e)) ∙ sym (per_job_after i (ltb-false i k q))

-- Arrays of words that agree for every job are the same.
pub per_job_ext : (k : ℕ) (f g : ℕ → ℕ) → ((i : ℕ) → i < k → f i ≡ g i) → per_job k f ≡ per_job k g
unfolding per_job
per_job_ext k f g h =
    ap (λ l. padded most_jobs l) (tabulate_ext f g 0 k (λ i b. rw zero-add (h i b)))

-- With no job there are only zeros.
pub per_job_none : (f : ℕ → ℕ) → replicate most_jobs 0 ≡ per_job 0 f
per_job_none f = per_job_is 0 f (omega arith) (replicate most_jobs 0) (length-replicate {A = ℕ} most_jobs 0) (λ i b. omega (arith, b)) (λ i b q. get_or_same most_jobs i 0)

-- one more word
pub per_job_more : (i : ℕ) (f : ℕ → ℕ) → i < most_jobs → set (per_job i f) i (f i) ≡ per_job (i + 1) f
per_job_more i f few =
    per_job_is (i + 1) f (omega arith) (set (per_job i f) i (f i)) (length-set (per_job i f) i (f i) ∙ per_job_length i f (omega arith)) (λ j b. here j b (ℕ_discrete j i))
    (λ j b q. get_or-set_other (per_job i f) i j (f i) 0 (λ w. omega arith) ∙ per_job_after i f (omega arith) j (omega arith))
  where
    here : (j : ℕ) → j < i + 1 → Dec (j ≡ i) → get_or (set (per_job i f) i (f i)) j 0 ≡ f j
    here j b (yes z) = rw z (get_or-set_same (per_job i f) i (f i) 0 (omega (arith, per_job_length i f (omega arith))))
    here j b (no z) = get_or-set_other (per_job i f) i j (f i) 0 z ∙ per_job_at i f (omega arith) j (omega (arith, b, z))
