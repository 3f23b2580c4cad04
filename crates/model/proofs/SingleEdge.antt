-- A state with one eligible job, explored into an empty level: the edge of that job is all. Assumes nothing.
use Prim.Native.Nat.{ℕ, zero, suc, ◌≤◌, ◌<◌}
use mathlib.Core.Path.{◌≡◌, refl, sym, ap, ◌∙◌, subst}
use mathlib.Core.Logic.{⊎_elim}
use mathlib.Core.Bool.{true, false}
use mathlib.Core.List.{List, [], ◌∷◌}
use native.Mathlib.Decide.{ℕ_discrete}
use native.Mathlib.Omega.{arith}
use lib.ListN.{length}
use borrow.Author.Tests.{le-ltb, lt-ltb}
use Rattle.model.specs.Jobs.{Job, job}
use Rattle.model.specs.States.{Range, State}
use Rattle.model.specs.Edges.{eligible, earliest_finish, latest_finish, successor}
use Rattle.model.specs.Exploration.{stored, Exploration, going, full, miss, limited, observed, add_edge, try_job, try_jobs}
use Rattle.model.proofs.Booleans.{cases}
use Rattle.model.proofs.Induction.{finish_range}
use Rattle.model.proofs.Coverage.{kept_from}

module _ (js : List Job) (cap : ℕ) (σ : State) where
  try_other : (j : ℕ) → eligible js σ j ≡ false → (x : Exploration) → try_job js cap σ j x ≡ x
  unfolding try_job
  try_other j e (going l seen c) = rw e refl
  try_other j e (full n) = refl
  try_other j e (miss i a b) = refl

  try_none : (n : ℕ) → ((j : ℕ) → j < n → eligible js σ j ≡ false) → (x : Exploration) → try_jobs js cap σ n x ≡ x
  unfolding try_jobs
  try_none zero h x = refl
  try_none (suc n) h x = try_other n (h n (omega arith)) (try_jobs js cap σ n x) ∙ try_none n (λ j l. h j (omega arith)) x

  module _ (i : ℕ) (inside : i < length js) (starts : eligible js σ i ≡ true) (alone : (j : ℕ) → j < length js → eligible js σ j ≡ true → j ≡ i)
      (l : List State) (seen : List Range) (c : ℕ) where
    other : (j : ℕ) → j < length js → (j ≡ i → ⊥) → eligible js σ j ≡ false
    other j h d = ⊎_elim (λ q. absurd (d (alone j h q))) (λ q. q) (cases (eligible js σ j))

    -- up to that job, and on from there
    up_to : try_jobs js cap σ (suc i) (going l seen c) ≡ add_edge js cap σ i l seen c
    unfolding try_jobs try_job
    up_to = ap (try_job js cap σ i) (try_none i (λ j h. other j (omega arith) (λ d. omega arith)) (going l seen c)) ∙ rw starts refl

    -- trying all jobs adds its edge
    pub try_one : try_jobs js cap σ (length js) (going l seen c) ≡ add_edge js cap σ i l seen c
    unfolding try_jobs
    try_one =
        kept_from (λ n. n ≤ length js → try_jobs js cap σ n (going l seen c) ≡ add_edge js cap σ i l seen c) (λ n p h. on n (ℕ_discrete n i) p h) (suc i) (length js) inside
        (λ h. up_to) (omega arith)
      where
        on : (n : ℕ) → Dec (n ≡ i) → (n ≤ length js → try_jobs js cap σ n (going l seen c) ≡ add_edge js cap σ i l seen c) → suc n ≤ length js
            → try_jobs js cap σ (suc n) (going l seen c) ≡ add_edge js cap σ i l seen c
        on n (yes d) p h = subst (λ k. try_jobs js cap σ (suc k) (going l seen c) ≡ add_edge js cap σ i l seen c) (sym d) up_to
        on n (no d) p h = try_other n (other n h d) (try_jobs js cap σ n (going l seen c)) ∙ p (omega arith)

  -- in time, and with room for a state, it makes the one state of the level
  pub add_timely : (i : ℕ) → 1 ≤ cap → latest_finish js σ i ≤ (job js i).deadline → (seen : List Range) (c : ℕ)
      → add_edge js cap σ i [] seen c ≡ going (successor js σ i ∷ []) (observed seen i (finish_range js σ i)) c
  unfolding add_edge stored limited
  add_timely i room h seen c = rw (le-ltb (job js i).deadline (latest_finish js σ i) h, le-ltb cap 1 room) refl

  -- else it is a miss
  pub add_late : (i : ℕ) → (job js i).deadline < latest_finish js σ i → (seen : List Range) (c : ℕ) → add_edge js cap σ i [] seen c ≡ miss i (earliest_finish js σ i) (latest_finish js σ i)
  unfolding add_edge
  add_late i h seen c = rw (lt-ltb (job js i).deadline (latest_finish js σ i) h) refl
