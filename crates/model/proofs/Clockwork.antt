-- The run of jobs with nothing uncertain follows the chain of states: each job of the chain starts at its moment, and the last state tells when each
-- finishes. Assumes nothing.
use Prim.Native.Nat.{ℕ, ◌+◌, ◌<◌}
use mathlib.Core.Path.{◌≡◌, refl, sym, ap, ap₂, ◌∙◌, subst}
use mathlib.Core.Bool.{true}
use mathlib.Core.List.{List}
use native.Mathlib.Omega.{arith}
use lib.ListN.{length, set}
use Rattle.model.specs.Folds.{count}
use Rattle.model.specs.Jobs.{Job}
use Rattle.model.specs.Dispatch.{Scenario}
use Rattle.model.specs.States.{Range, empty, range, is_range, earliest, latest, State, finish_of}
use Rattle.model.specs.Edges.{eligible, earliest_finish, latest_finish, successor}
use Rattle.model.specs.Guarantee.{WellFormed}
use Rattle.model.specs.Playing.{horizon, start_time, finish_time, Played}
use Rattle.model.specs.Certain.{Certain, only_scenario}
use Rattle.model.proofs.Folds.{count_none, count_all}
use Rattle.model.proofs.Induction.{finish_range}
use Rattle.model.proofs.History.{Entry, unstarted, ran, entry, has_started}
use Rattle.model.proofs.Run.{Start, Lasting, At, run_after}
use Rattle.model.proofs.Starts.{Fits, Covers, start_eligible, covers_start}
use Rattle.model.proofs.Covering.{covers_initial, covers_later, one_more, some_left}
use Rattle.model.proofs.Whole.{played, entry_is, has_started_holds}
use Rattle.model.proofs.Scenarios.{only_admissible}
use Rattle.model.proofs.Chain.{chain, next, moment, chain_shaped, Link, link, definite_at, range_at_holds, was_next}

-- a range of one moment into which a finish time fits is that moment
fits_one : (r : Range) (a f : ℕ) → earliest r ≡ latest r → Fits r (ran a f) → r ≡ range f f
fits_one empty a f e h = absurd h
fits_one (range x y) a f e h = ap₂ range (omega (arith, e)) (omega (arith, e))

module _ (js : List Job) (m : ℕ) (wf : WellFormed js m) (certain : Certain js) where
  abbrev s : Scenario
  s = only_scenario js

  -- the state of the level that the run has come to covers it
  abbrev Follows : ℕ → List Entry → Type 0
  Follows t h = Covers m (chain js m (count has_started h)) t h

  follows_start : (t : ℕ) (h : List Entry) (i : ℕ) → Start js m s t h i → Follows t h → Follows t (set h i (ran t (t + s.execution i)))
  unfolding chain
  follows_start t h i x c =
      rw (one_more js m s t h i x)
      (subst (λ j. Covers m (successor js σ j) t (set h i (ran t (t + s.execution i)))) ((link js m wf certain n (some_left js m s t h i x)).alone i x.inside is_eligible)
      (covers_start js m s (only_admissible js certain) σ t h c wf.cores (chain_shaped js m wf certain n) x.inv.idle x.room i x.inside x.is x.firstly x.inv.all_jobs))
    where
      n : ℕ
      n = count has_started h

      σ : State
      σ = chain js m n

      is_eligible : eligible js σ i ≡ true
      is_eligible =
          start_eligible js m s (only_admissible js certain) σ t h c wf.cores (chain_shaped js m wf certain n) x.inv.idle x.room i x.inside x.is x.firstly

  follows : Lasting js m s Follows
  unfolding chain
  follows =
      record {
        begins = rw (count_none has_started (length js) unstarted refl) (covers_initial js m);
        starts = follows_start;
        passes = λ t h inv c. covers_later m (chain js m (count has_started h)) t h c;
      }

  abbrev start : ℕ → ℕ
  start = start_time js m s

  abbrev finish : ℕ → ℕ
  finish = finish_time js m s

  whole : Played js m s
  whole = played js m s wf (only_admissible js certain)

  -- the last state tells the finish times
  pub told : (k : ℕ) → k < length js → finish_of (chain js m (length js)) k ≡ range (finish k) (finish k)
  told k l = go (run_after js m s wf (only_admissible js certain) Follows follows (horizon js s))
    where
      go : At js m s wf (only_admissible js certain) Follows follows (horizon js s) → finish_of (chain js m (length js)) k ≡ range (finish k) (finish k)
      go x =
          fits_one (finish_of (chain js m (length js)) k) (start k) (finish k) ((definite_at js m wf certain (length js) (omega arith)).finishes k)
          (rw (all, entry_is js m s wf (only_admissible js certain) (horizon js s) x.0 x.1 k l (begun k l)) at (x.2.finishes k))
        where
          begun : (j : ℕ) → j < length js → has_started (entry x.0 j) ≡ true
          begun j b = has_started_holds js m s wf (only_admissible js certain) (horizon js s) x.0 x.1 j b (omega (arith, whole.over j b, whole.executed j b))

          all : count has_started x.0 ≡ length js
          all = count_all has_started x.0 unstarted (λ j b. begun j (omega (arith, x.1.inv.all_jobs))) ∙ x.1.inv.all_jobs

  -- every job is that of some state
  pub each_next : (k : ℕ) → k < length js → (j : ℕ) × (j < length js) × (k ≡ next js m j)
  each_next k l = was_next js m wf certain k (length js) (omega arith) (ap is_range (told k l))

  -- the edge of a state tells both finish times of its job
  pub ends : (n : ℕ) → n < length js
      → (earliest_finish js (chain js m n) (next js m n) ≡ finish (next js m n)) × (latest_finish js (chain js m n) (next js m n) ≡ finish (next js m n))
  ends n h = (ap earliest same, ap latest same)
    where
      same : finish_range js (chain js m n) (next js m n) ≡ range (finish (next js m n)) (finish (next js m n))
      same = sym (range_at_holds js m wf certain n (length js) h (omega arith)) ∙ told (next js m n) (link js m wf certain n h).inside

  -- which starts at its moment
  pub starts_at : (n : ℕ) → n < length js → start (next js m n) ≡ moment js m n
  unfolding latest_finish
  starts_at n h =
      omega (arith, (ends n h).1, whole.executed (next js m n) l.inside, certain.executions (next js m n) l.inside, l.is_next.late)
    where
      l : Link js m wf certain n
      l = link js m wf certain n h
