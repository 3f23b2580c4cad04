-- The bounds of a state, the latest start of a job and its edge, by the words that the code computes. Assumes nothing.
use Prim.Native.Nat.{ℕ, zero, suc, ◌+◌, ◌<◌, ◌≤◌, min, max}
use mathlib.Core.Path.{◌≡◌, refl, sym, ap, ◌∙◌}
use mathlib.Core.Bool.{true, false, ◌&&◌, cond, and-true}
use mathlib.Core.List.{List, [], ◌∷◌}
use native.Mathlib.Nat.{add-zero}
use native.Mathlib.Omega.{arith}
use lib.Dec.{eqb}
use lib.IntN.{ℤ, pos, negsuc, ◌-ℤ◌}
use lib.ListN.{get_or, length, take, drop}
use lib.Seq.{get_or-take, get_or-drop}
use lib.Signed.{lt_z, le_z}
use borrow.Author.Tests.{ltb-true, ltb-false, le-leb, lt-leb, eq-eqb, ne_eqb}
use Rattle.model.specs.Limits.{latest_time, longest_rest}
use Rattle.model.specs.Folds.{all, Limit, infinite, finite, smallest}
use Rattle.model.specs.Jobs.{Job, job, before}
use Rattle.model.specs.States.{State, first}
use Rattle.model.specs.Edges.{or_zero, candidate, certainly_ready, certainly_ready_beside, earliest_start, work_conserving_bound, higher_priority_bound, latest_start, earliest_finish, latest_finish}
use Rattle.model.specs.Eligibility.{min_z, last_before, latest_start_z, in_order}
use Rattle.model.specs.internal.Bounds.{TimedUpTo, RestsUpTo, Bounded}
use Rattle.model.proofs.Bounds.{bound_up_to}
use Rattle.model.proofs.Eligibility.{before_suc, min_pos, eligible_in_order, latest_start_is}
use Rattle.states.specs.internal.Slots.{possibly_at, certainly_at, state_of}
use Rattle.edges.specs.internal.Edges.{latest_start_time, candidates, no_limit, limit_word, smallest_in, bound_over, start_of, edge_of, edge_in_order}
use Rattle.std.specs.Prelude.{Some, None}
use Rattle.edges.proofs.Folds.{smallest_listed}

-- ---- the smallest over the listed candidates

module _ (js : List Job) (σ : State) (k : ℕ) (every_job : k ≡ length js) where
  -- over the candidates, the smallest is the first moment at which one is certainly ready
  first_listed : smallest_in all (certainly_ready js σ) (candidates js σ k) ≡ smallest (candidate js σ) (certainly_ready js σ) (length js)
  first_listed = rw (← every_job) (smallest_listed (candidate js σ) all (candidate js σ) (certainly_ready js σ) (λ j. sym (and-true (candidate js σ j))) k)

  -- over the candidates that go before job i, it is the higher-priority bound
  pub higher_listed : (i : ℕ) → bound_over js σ i (candidates js σ k) ≡ higher_priority_bound js σ i
  unfolding higher_priority_bound
  higher_listed i =
      rw (← every_job)
      (smallest_listed (candidate js σ) (λ j. before js j i) (λ j. candidate js σ j && before js j i) (certainly_ready_beside js σ i) (λ j. refl) k)

  -- the work-conserving bound, from the first upper availability and the first moment at which a candidate is certainly ready
  pub bound_is : TimedUpTo latest_time js → RestsUpTo longest_rest js → Bounded js latest_time σ → (free ready : ℕ) → free ≡ first σ.certainly_free
      → ready ≡ limit_word (smallest_in all (certainly_ready js σ) (candidates js σ k)) → cond (eqb ready no_limit) free (max free ready) ≡ work_conserving_bound js σ
  unfolding work_conserving_bound
  bound_is timed rests g free ready e r =
      go (smallest (candidate js σ) (certainly_ready js σ) (length js)) (r ∙ ap limit_word first_listed) (bound_up_to js latest_time longest_rest timed rests σ g)
    where
      go : (x : Limit) → ready ≡ limit_word x → max (first σ.certainly_free) (or_zero x) ≤ latest_start_time
          → cond (eqb ready no_limit) free (max free ready) ≡ max (first σ.certainly_free) (or_zero x)
      go infinite q h = rw (eq-eqb ready no_limit q) (omega arith)
      go (finite x) q h = rw (ne_eqb ready no_limit (λ (z : ready ≡ no_limit). omega arith)) (omega arith)

-- ---- the first availabilities

first_of_holds : (m at : ℕ) (ws : List ℕ) → 1 ≤ m → first (take m (drop at ws)) ≡ get_or ws at 0
first_of_holds m at ws h = head (take m (drop at ws)) ∙ get_or-take m (drop at ws) 0 0 h ∙ get_or-drop at ws 0 0 ∙ ap (λ (n : ℕ). get_or ws n 0) (add-zero at)
  where
    head : (l : List ℕ) → first l ≡ get_or l 0 0
    head [] = refl
    head (x ∷ xs) = refl

module _ (m k : ℕ) (ws : List ℕ) (h : 1 ≤ m) where
  -- the first lower availability, as a word
  pub first_possibly : first (state_of m k ws).possibly_free ≡ get_or ws possibly_at 0
  unfolding state_of
  first_possibly = first_of_holds m possibly_at ws h

  -- the first upper availability, as a word
  pub first_certainly : first (state_of m k ws).certainly_free ≡ get_or ws (certainly_at m) 0
  unfolding state_of
  first_certainly = first_of_holds m (certainly_at m) ws h

-- ---- the latest start, and the edge

-- the smaller of a number and the one before a word for a limit, as far as the word is not past the number
pub last_in_word : (x r : ℕ) (l : Limit) → x < no_limit → min (suc x) r ≡ min (suc x) (limit_word l) → min_z (pos x) (pos r -ℤ pos 1) ≡ last_before x l
last_in_word x zero infinite h e = absurd (omega arith)
last_in_word x (suc r) infinite h e = rw (before_suc r, min_pos x r) (ap pos (omega arith))
last_in_word x r (finite zero) h e = let none : r ≡ 0 = omega arith in ap (λ (z : ℕ). min_z (pos x) (pos z -ℤ pos 1)) none
last_in_word x zero (finite (suc y)) h e = absurd (omega arith)
last_in_word x (suc r) (finite (suc y)) h e = rw (before_suc r, min_pos x r, before_suc y, min_pos x y) (ap pos (omega arith))

-- a number that an integer is below is not at most it, and one that it is not below is
not_in_order : (z : ℤ) (e : ℕ) → lt_z z (pos e) ≡ true → le_z (pos e) z ≡ false
not_in_order (pos l) e h = lt-leb e l (ltb-true l e h)
not_in_order (negsuc l) e h = refl

is_in_order : (z : ℤ) (e : ℕ) → lt_z z (pos e) ≡ false → le_z (pos e) z ≡ true
is_in_order (pos l) e h = le-leb e l (ltb-false l e h)
is_in_order (negsuc l) e h = sym h

module _ (js : List Job) (σ : State) (i : ℕ) where
  -- for a candidate, the edge by one comparison is that by two
  pub same_edge : candidate js σ i ≡ true → edge_in_order js σ i ≡ edge_of js σ i
  unfolding edge_in_order edge_of
  same_edge e = ap (λ b. cond b (Some (start_of js σ i)) None) (sym (eligible_in_order js σ i e))

  module _ (z : ℤ) (l : z ≡ latest_start_z js σ i) where
    -- a job whose latest start is below its earliest has none
    pub no_edge_found : lt_z z (pos (earliest_start js σ i)) ≡ true → None ≡ edge_in_order js σ i
    unfolding edge_in_order in_order
    no_edge_found h = rw (← l, not_in_order z (earliest_start js σ i) h)

    module _ (h : lt_z z (pos (earliest_start js σ i)) ≡ false) where
      in_order_holds : in_order js σ i ≡ true
      unfolding in_order
      in_order_holds = rw (← l) (is_in_order z (earliest_start js σ i) h)

      -- else its latest start is a time
      pub a_time : z ≡ pos (latest_start js σ i)
      a_time = l ∙ latest_start_is js σ i in_order_holds

      -- and it has one, with these moments
      pub edge_found : (s e f : ℕ) → s ≡ earliest_start js σ i → e ≡ s + (job js i).least_execution → f ≡ latest_start js σ i + (job js i).most_execution
          → Some (record { job = i; start = s; earliest = e; latest = f }) ≡ edge_in_order js σ i
      unfolding edge_in_order earliest_finish latest_finish
      edge_found s e f p q r =
          let least : e ≡ earliest_start js σ i + (job js i).least_execution = omega (arith, p, q) in
          rw (in_order_holds, p, least, r)
