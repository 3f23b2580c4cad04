-- What an accepting analysis reports: for every job a range of finish times, none before the job's earliest release. Assumes nothing.
use Prim.Native.Nat.{ℕ, ◌<◌}
use mathlib.Core.Path.{◌≡◌, subst}
use mathlib.Core.Bool.{true}
use mathlib.Core.List.{List}
use native.Mathlib.Omega.{arith}
use lib.ListN.{get_or, length}
use Rattle.model.specs.Jobs.{Job, job}
use Rattle.model.specs.States.{Range, empty, is_range, State}
use Rattle.model.specs.Exploration.{Exploration, going, full, miss, accepted, verdict_of, explored, analysis}
use Rattle.model.specs.Guarantee.{WellFormed}
use Rattle.model.proofs.Induction.{WhileGoing}
use Rattle.model.proofs.Bounds.{level_bounded}
use Rattle.model.specs.internal.Bounds.{TimedUpTo, Between}
use Rattle.model.proofs.Soundness.{all_reported}

while_accepted : (P : List State → List Range → Type 0) (x : Exploration) (bounds : List Range) (c : ℕ) → verdict_of x ≡ accepted bounds c → WhileGoing P x
    → (l : List State) × P l bounds
while_accepted P (going l seen d) bounds c e h = (l, subst (λ (b : List Range). P l b) (cc) h)
while_accepted P (full n) bounds c e h = absurd (let z : ◌≡◌ {A = ℕ} 0 1 = cc in omega arith)
while_accepted P (miss i x y) bounds c e h = absurd (let z : ◌≡◌ {A = ℕ} 0 1 = cc in omega arith)

-- the bounds of so many jobs: each is a range, between the job's earliest release and d
pub record Reported (js : List Job) (d : ℕ) (bounds : List Range) : Type 0 where
  pub all_jobs : length bounds ≡ length js
  pub ranged : (i : ℕ) → i < length js → is_range (get_or bounds i empty) ≡ true
  pub between : (i : ℕ) → Between (job js i).earliest_release d (get_or bounds i empty)

-- An accepting analysis reports such bounds.
pub reported : (js : List Job) (m cap d : ℕ) → WellFormed js m → TimedUpTo d js → (bounds : List Range) (c : ℕ) → analysis js m cap ≡ accepted bounds c → Reported js d bounds
unfolding analysis
reported js m cap d wf timed bounds c e =
    let h = while_accepted _ (explored js m cap (length js)) bounds c e (level_bounded js d timed m cap (length js)) in
    record {
      all_jobs = h.1.all_jobs;
      ranged = all_reported js m cap wf bounds c e (λ i b. ((timed.releases i b).0, timed.executions i b));
      between = h.1.ranges;
    }
