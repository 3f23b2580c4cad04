-- The result of an accepting analysis, from the words. Assumes nothing.
use Prim.Native.Nat.{ℕ, ◌+◌, ◌-◌, ◌≤◌, ◌<◌}
use mathlib.Core.Path.{◌≡◌, sym, ap, ◌∙◌}
use mathlib.Core.List.{List}
use native.Mathlib.Nat.{zero-add}
use native.Mathlib.Omega.{arith}
use lib.ListN.{get_or, length, take, drop, length-drop}
use lib.Seq.{length-take-le, get_or-take, get_or-drop}
use borrow.Author.Tests.{ne_eqb}
use Rattle.model.specs.Limits.{most_jobs}
use Rattle.model.specs.Jobs.{Job, job}
use Rattle.model.specs.States.{Range, empty, range, earliest, latest}
use Rattle.model.specs.Exploration.{accepted}
use Rattle.jobs.specs.internal.JobRow.{jobs_of_rows}
use Rattle.jobs.proofs.Jobs.{length_jobs}
use Rattle.steps.specs.internal.Observed.{observed_of}
use Rattle.steps.proofs.Ranges.{observed_at_holds}
use Rattle.checking.specs.Checking.{per_job, result_of}
use Rattle.results.specs.internal.Finishes.{release_of, response_of, Released, FinishesObserved}
use Rattle.checking.specs.declared.Answer.TheVariants.{Accepted}
use Rattle.checking.specs.declared.Checked.{Checked}
use Rattle.checking.proofs.PerJob.{per_job_is, per_job_ext}

module _ (rows : List ℕ) (k : ℕ) (seen : List ℕ) (h : FinishesObserved rows k seen) where
  abbrev js : List Job
  js = jobs_of_rows rows k

  abbrev bounds : List Range
  bounds = observed_of k seen

  bound_at : (i : ℕ) → i < k → get_or bounds i empty ≡ range (get_or seen i 0) (get_or seen (most_jobs + i) 0)
  bound_at i b = observed_at_holds k seen i b ∙ rw (ne_eqb (get_or seen (most_jobs + i) 0) 0 (λ w. omega (arith, h.finished i b)))

  -- the words of one end of every range, from a place on
  module _ (at : ℕ) (end : Range → ℕ) (room : at + most_jobs ≤ length seen) (here : (i : ℕ) → i < k → end (get_or bounds i empty) ≡ get_or seen (at + i) 0)
      (beyond : (i : ℕ) → k ≤ i → i < most_jobs → get_or seen (at + i) 0 ≡ 0) where
    abbrev finishes : List ℕ
    finishes = take most_jobs (drop at seen)

    finish_at : (i : ℕ) → i < most_jobs → get_or finishes i 0 ≡ get_or seen (at + i) 0
    finish_at i b = get_or-take most_jobs (drop at seen) i 0 b ∙ get_or-drop at seen i 0

    end_at : (i : ℕ) → i < k → get_or finishes i 0 ≡ end (get_or bounds i empty)
    end_at i b = finish_at i (omega (arith, h.few)) ∙ sym (here i b)

    finish_words : finishes ≡ per_job (length js) (λ i. end (get_or bounds i empty))
    finish_words =
        per_job_is k (λ i. end (get_or bounds i empty)) h.few finishes (length-take-le most_jobs (drop at seen) (omega (arith, length-drop at seen))) end_at
        (λ i b q. finish_at i q ∙ beyond i b q)
        ∙ ap (λ n. per_job n (λ i. end (get_or bounds i empty))) (sym (length_jobs rows k))

    response_words : per_job k (response_of rows k finishes) ≡ per_job (length js) (λ i. end (get_or bounds i empty) - (job js i).earliest_release)
    response_words =
        per_job_ext k (response_of rows k finishes) (λ i. end (get_or bounds i empty) - (job js i).earliest_release) (λ i b. ap (λ n. n - release_of rows k i) (end_at i b))
        ∙ ap (λ n. per_job n (λ i. end (get_or bounds i empty) - (job js i).earliest_release)) (sym (length_jobs rows k))

  earliest_here : (i : ℕ) → i < k → earliest (get_or bounds i empty) ≡ get_or seen (0 + i) 0
  earliest_here i b = ap earliest (bound_at i b) ∙ ap (λ n. get_or seen n 0) (sym (zero-add i))

  latest_here : (i : ℕ) → i < k → latest (get_or bounds i empty) ≡ get_or seen (most_jobs + i) 0
  latest_here i b = ap latest (bound_at i b)

  earliest_beyond : (i : ℕ) → k ≤ i → i < most_jobs → get_or seen (0 + i) 0 ≡ 0
  earliest_beyond i b q = ap (λ n. get_or seen n 0) (zero-add i) ∙ (h.observed.beyond i b q).0

  latest_beyond : (i : ℕ) → k ≤ i → i < most_jobs → get_or seen (most_jobs + i) 0 ≡ 0
  latest_beyond i b q = (h.observed.beyond i b q).1

  low : 0 + most_jobs ≤ length seen
  low = omega (arith, h.observed.long)

  high : most_jobs + most_jobs ≤ length seen
  high = omega (arith, h.observed.long)

  -- No job finishes at its earliest time before its earliest release.
  pub earliest_released : Released rows k (take most_jobs (drop 0 seen))
  earliest_released i b = omega (arith, h.released i b, end_at 0 earliest low earliest_here earliest_beyond i b, ap earliest (bound_at i b))

  -- Nor at its latest time.
  pub latest_released : Released rows k (take most_jobs (drop most_jobs seen))
  latest_released i b = omega (arith, h.released i b, h.in_order_holds i b, end_at most_jobs latest high latest_here latest_beyond i b, ap latest (bound_at i b))

  -- Arrays of these finish times and responses are those of the result.
  pub accepted_result : (c : ℕ) (e l b w : List ℕ) → e ≡ take most_jobs (drop 0 seen) → l ≡ take most_jobs (drop most_jobs seen)
      → b ≡ per_job k (response_of rows k e) → w ≡ per_job k (response_of rows k l)
      → ◌≡◌ {A = Checked} (record { answer = Accepted; jobs = k; earliest = e; latest = l; best = b; worst = w; states = c }) (result_of js (accepted bounds c))
  accepted_result c e l b w p q r t =
      let j = sym (length_jobs rows k) in
      let p₁ = p ∙ finish_words 0 earliest low earliest_here earliest_beyond in
      let q₁ = q ∙ finish_words most_jobs latest high latest_here latest_beyond in
      let r₁ = r ∙ ap (λ z. per_job k (response_of rows k z)) p ∙ response_words 0 earliest low earliest_here earliest_beyond in
      let t₁ = t ∙ ap (λ z. per_job k (response_of rows k z)) q ∙ response_words most_jobs latest high latest_here latest_beyond in
      λ n. record { answer = Accepted; jobs = j n; earliest = p₁ n; latest = q₁ n; best = r₁ n; worst = t₁ n; states = c }
