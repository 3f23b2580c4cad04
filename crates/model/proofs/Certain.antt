-- Request 107, proved: where nothing is uncertain the analysis goes from one state to one state, and says what the one run does. Assumes nothing.
use Prim.Native.Nat.{ℕ, zero, suc, ◌+◌, ◌≤◌, ◌<◌}
use mathlib.Core.Path.{◌≡◌, refl, sym, ap, ap₂, ◌∙◌, subst}
use mathlib.Core.Logic.{◌⊎◌, inl, inr, ⊎_elim, ◌↔◌}
use mathlib.Core.Bool.{Bool, true, false, true≢false}
use mathlib.Core.List.{List, [], ◌∷◌}
use mathlib.Core.Option.{Option, none, some}
use native.Mathlib.Nat.{zero-add}
use native.Mathlib.Omega.{arith}
use lib.Dec.{leb, ltb}
use lib.ListN.{get_or, length, set}
use borrow.Author.Tests.{le-ltb, lt-ltb, ltb-true, ltb-false, leb-true, leb-false}
use Rattle.words.proofs.Tabulate.{get_or_tabulate, tabulate_is}
use Rattle.model.specs.Jobs.{Job, job}
use Rattle.model.specs.Dispatch.{Scenario, Moment, status}
use Rattle.model.specs.States.{Range, empty, range, is_range, State, finish_of}
use Rattle.model.specs.Edges.{earliest_finish, latest_finish, successor}
use Rattle.model.specs.Exploration.{hull, going, miss, limited, add_edge, try_states, counted, next_level, explored, Verdict, accepted, refused, late, verdict_of, analysis}
use Rattle.model.specs.Guarantee.{WellFormed, Admissible}
use Rattle.model.specs.Playing.{start_time, finish_time, Played}
use Rattle.model.specs.Certain.{Certain, only_scenario, is_late, first_late, verdict_by, run_verdict, Decided}
use Rattle.model.proofs.Booleans.{cases, clash}
use Rattle.model.proofs.Folds.{AllBelow, FirstFailing, first_failing}
use Rattle.model.proofs.Induction.{finish_range}
use Rattle.model.proofs.Coverage.{kept_from}
use Rattle.model.proofs.Whole.{played, times_unique}
use Rattle.model.proofs.Scenarios.{one_run_holds, only_admissible}
use Rattle.model.proofs.SingleEdge.{try_one, add_timely, add_late}
use Rattle.model.proofs.Chain.{chain as chainOf, next as next_of, chain_shaped, link as link_of, Link, moments_grow, in_order_holds}
use Rattle.model.proofs.Clockwork.{told, each_next, ends, starts_at}
use Rattle.model.proofs.FirstLate.{NotBefore, FirstLate, first_late_holds, first_late_is}

not_range : (r : Range) → is_range r ≡ false → r ≡ empty
not_range empty e = refl
not_range (range a b) e = absurd (true≢false e)

-- ---- the analysis

module _ (js : List Job) (m : ℕ) (wf : WellFormed js m) (certain : Certain js) where
  abbrev chain : ℕ → State
  chain = chainOf js m

  abbrev next : ℕ → ℕ
  next = next_of js m

  abbrev link : (n : ℕ) → n < length js → Link js m wf certain n
  link = link_of js m wf certain

  abbrev start : ℕ → ℕ
  start = start_time js m (only_scenario js)

  abbrev finish : ℕ → ℕ
  finish = finish_time js m (only_scenario js)

  -- the edge of state n is in time
  abbrev in_time : ℕ → Bool
  in_time n = leb (latest_finish js (chain n) (next n)) (job js (next n)).deadline

  -- ---- level by level

  module _ (cap : ℕ) (room : 1 ≤ cap) where
    -- level n holds the one state, whose finish ranges are those observed
    abbrev Completed : ℕ → Type 0
    Completed n = explored js m cap n ≡ going (chain n ∷ []) (chain n).finish (suc n)

    -- level n + 1 is the edge of the one job
    next_level_holds : (n : ℕ) → n < length js → Completed n → explored js m cap (suc n) ≡ counted (add_edge js cap (chain n) (next n) [] (chain n).finish (suc n))
    unfolding explored next_level try_states
    next_level_holds n h e =
        ap (next_level js cap) e
        ∙ ap counted (try_one js cap (chain n) (next n) (link n h).inside (link n h).starts (link n h).alone [] (chain n).finish (suc n))

    -- while the edges are in time, levels are completed
    completed : (n : ℕ) → n ≤ length js → AllBelow in_time n → Completed n
    unfolding explored limited chainOf successor
    completed zero h f = rw (le-ltb cap 1 room) refl
    completed (suc n) h f =
        next_level_holds n h (completed n (omega arith) (λ j b. f j (omega arith)))
        ∙ ap counted (add_timely js cap (chain n) (next n) room (leb-true (latest_finish js (chain n) (next n)) (job js (next n)).deadline (f n (omega arith))) (chain n).finish (suc n))
        ∙ ap₂ (λ seen c. going (chain (suc n) ∷ []) seen c)
        (ap (λ r. set (chain n).finish (next n) (hull r (finish_range js (chain n) (next n)))) (not_range (finish_of (chain n) (next n)) (link n h).fresh))
        one_more
      where
        one_more : suc n + 1 ≡ suc (suc n)
        one_more = omega arith

    abbrev Missed : ℕ → ℕ → Type 0
    Missed n n' = explored js m cap n' ≡ miss (next n) (earliest_finish js (chain n) (next n)) (latest_finish js (chain n) (next n))

    -- the first that is not in time is a miss in every later level
    missed : (n : ℕ) → n < length js → AllBelow in_time n → in_time n ≡ false → (n' : ℕ) → n < n' → Missed n n'
    unfolding explored next_level
    missed n h f e n' l =
        kept_from (Missed n) (λ j p. ap (next_level js cap) p) (suc n) n' l
        (next_level_holds n h (completed n (omega arith) f)
        ∙ ap counted (add_late js cap (chain n) (next n) (leb-false (latest_finish js (chain n) (next n)) (job js (next n)).deadline e) (chain n).finish (suc n)))

    one_state_holds : (n : ℕ) → n ≤ length js → (l : List State) (seen : List Range) (c : ℕ) → explored js m cap n ≡ going l seen c → (length l ≡ 1) × (c ≡ suc n)
    one_state_holds n h l seen c e = go (first_failing in_time n)
      where
        go : AllBelow in_time n ⊎ FirstFailing in_time n → (length l ≡ 1) × (c ≡ suc n)
        go (inl f) =
            let p : going (chain n ∷ []) (chain n).finish (suc n) ≡ going l seen c = sym (completed n h f) ∙ e in
            let q : chain n ∷ [] ≡ l = cc in
            let r : suc n ≡ c = cc in
            (ap length (sym q), sym r)
        go (inr x) = absurd (let p = sym (missed x.0 (omega (arith, x.1)) x.3 x.2 n x.1) ∙ e in let z : ◌≡◌ {A = ℕ} 0 1 = cc in omega arith)

    stopped : (i e f : ℕ) → verdict_of (explored js m cap (length js)) ≡ late i e f
        → (n : ℕ) × (n < length js) × (explored js m cap (suc n) ≡ miss i e f)
        × ((k : ℕ) → k ≤ n → (σ : State) × (seen : List Range) × (explored js m cap k ≡ going (σ ∷ []) seen (suc k)))
    stopped i e f q = go (first_failing in_time (length js))
      where
        same : (j a b : ℕ) → late j a b ≡ late i e f → miss j a b ≡ miss i e f
        same j a b p = cc

        go : AllBelow in_time (length js) ⊎ FirstFailing in_time (length js)
            → (n : ℕ) × (n < length js) × (explored js m cap (suc n) ≡ miss i e f)
            × ((k : ℕ) → k ≤ n → (σ : State) × (seen : List Range) × (explored js m cap k ≡ going (σ ∷ []) seen (suc k)))
        go (inl g) = absurd (let p = sym (ap verdict_of (completed (length js) (omega arith) g)) ∙ q in let z : ◌≡◌ {A = ℕ} 0 1 = cc in omega arith)
        go (inr x) = (
          x.0,
          x.1,
          missed x.0 x.1 x.3 x.2 (suc x.0) (omega arith) ∙ same _ _ _ (sym (ap verdict_of (missed x.0 x.1 x.3 x.2 (length js) x.1)) ∙ q),
          λ k l. (chain k, (chain k).finish, completed k (omega (arith, x.1)) (λ j b. x.3 j (omega arith))),
        )

    -- ---- the run

    late_next : (n : ℕ) → n < length js → in_time n ≡ false → is_late js m (only_scenario js) (next n) ≡ true
    unfolding is_late
    late_next n h e =
        lt-ltb (job js (next n)).deadline (finish (next n))
        (omega (arith, (ends js m wf certain n h).1, leb-false (latest_finish js (chain n) (next n)) (job js (next n)).deadline e))

    -- a late job is that of a state whose edge is not in time
    late_at : (k : ℕ) → k < length js → is_late js m (only_scenario js) k ≡ true → (j : ℕ) × (j < length js) × (k ≡ next j) × (in_time j ≡ false)
    unfolding is_late
    late_at k l e = go (each_next js m wf certain k l)
      where
        go : (j : ℕ) × (j < length js) × (k ≡ next j) → (j : ℕ) × (j < length js) × (k ≡ next j) × (in_time j ≡ false)
        go x = (x.0, x.1, x.2, by (in_time x.0) refl)
          where
            past : (job js (next x.0)).deadline < finish (next x.0)
            past = subst (λ k. (job js k).deadline < finish k) x.2 (ltb-true (job js k).deadline (finish k) e)

            by : (b : Bool) → in_time x.0 ≡ b → b ≡ false
            by false q = refl
            by true q =
                absurd (omega (
                  arith,
                  past,
                  (ends js m wf certain x.0 x.1).1,
                  leb-true (latest_finish js (chain x.0) (next x.0)) (job js (next x.0)).deadline q,
                ))

    none_late : AllBelow in_time (length js) → first_late js m (only_scenario js) ≡ none
    none_late f = first_late_is js m (only_scenario js) none (λ k l e. let x = late_at k l e in clash (f x.0 x.1) x.3)

    this_late : (x : FirstFailing in_time (length js)) → first_late js m (only_scenario js) ≡ some (next x.0)
    this_late x =
        first_late_is js m (only_scenario js) (some (next n))
        ((link n x.1).inside, late_next n x.1 x.2, λ k l e. let y = late_at k l e in subst (λ k. NotBefore js m (only_scenario js) k (next n)) (sym y.2) (later y.0 y.1 y.3))
      where
        n : ℕ
        n = x.0

        -- all edges before are in time
        after : (j : ℕ) → in_time j ≡ false → (leb n j ≡ true) ⊎ (leb n j ≡ false) → n ≤ j
        after j e (inl q) = leb-true n j q
        after j e (inr q) = clash (x.3 j (leb-false n j q)) e

        later : (j : ℕ) → j < length js → in_time j ≡ false → NotBefore js m (only_scenario js) (next j) (next n)
        later j l e =
            let a = after j e (cases (leb n j)) in (
              omega (arith, starts_at js m wf certain j l, starts_at js m wf certain n x.1, moments_grow js m wf certain n j a (omega arith)),
              λ d b. in_order_holds js m wf certain n j a l (omega (arith, d, starts_at js m wf certain j l, starts_at js m wf certain n x.1)) b,
            )

    -- ---- together

    verdict_is : verdict_of (explored js m cap (length js)) ≡ verdict_by js m (only_scenario js) (first_late js m (only_scenario js))
    verdict_is = go (first_failing in_time (length js))
      where
        go : AllBelow in_time (length js) ⊎ FirstFailing in_time (length js) → verdict_of (explored js m cap (length js)) ≡ verdict_by js m (only_scenario js) (first_late js m (only_scenario js))
        go (inl f) =
            rw (none_late f)
            (ap verdict_of (completed (length js) (omega arith) f)
            ∙ ap (λ b. accepted b (suc (length js)))
            (sym (tabulate_is (λ k. range (finish k) (finish k)) (length js) (chain (length js)).finish empty (chain_shaped js m wf certain (length js)).jobs (λ k l. sym (told js m wf certain k l)))))
        go (inr x) =
            rw (this_late x)
            (ap verdict_of (missed x.0 x.1 x.3 x.2 (length js) x.1)
            ∙ ap₂ (λ e f. late (next x.0) e f) (ends js m wf certain x.0 x.1).0 (ends js m wf certain x.0 x.1).1)

-- The analysis of jobs with nothing uncertain says what their one run does.
pub decided : (js : List Job) (m cap : ℕ) → WellFormed js m → Certain js → 1 ≤ cap → Decided js m cap
unfolding analysis run_verdict
decided js m cap wf certain room =
    record {
      one_run = λ s adm t. one_run_holds js certain s adm m t;
      one_state = one_state_holds js m wf certain cap room;
      verdict = verdict_is js m wf certain cap room;
      stopped = stopped js m wf certain cap room;
    }

-- ---- in the words of the request

module _ (js : List Job) (m cap : ℕ) (wf : WellFormed js m) (certain : Certain js) (room : 1 ≤ cap) where
  abbrev ended : ℕ → ℕ
  ended = finish_time js m (only_scenario js)

  -- what the verdict says of the run
  abbrev Says : Verdict → Type 0
  Says (accepted bounds c) =
      (c ≡ suc (length js)) × ((k : ℕ) → k < length js → get_or bounds k empty ≡ range (ended k) (ended k)) × ((k : ℕ) → k < length js → ended k ≤ (job js k).deadline)
  Says (refused n at) = ⊥
  Says (late i e f) =
      (i < length js) × (e ≡ ended i) × (f ≡ ended i) × ((job js i).deadline < ended i)
      × ((k : ℕ) → k < length js → (job js k).deadline < ended k → NotBefore js m (only_scenario js) k i)

  says : Says (analysis js m cap)
  unfolding run_verdict is_late
  says = rw (decided js m cap wf certain room).verdict (go (first_late js m (only_scenario js)) (first_late_holds js m (only_scenario js)))
    where
      go : (o : Option ℕ) → FirstLate js m (only_scenario js) o → Says (verdict_by js m (only_scenario js) o)
      go none f = (
        refl,
        λ k l. get_or_tabulate (λ k. range (ended k) (ended k)) 0 (length js) k empty l ∙ ap (λ i. range (ended i) (ended i)) (zero-add k),
        λ k l. ⊎_elim (λ e. absurd (f k l e)) (λ e. ltb-false (job js k).deadline (ended k) e) (cases (ltb (job js k).deadline (ended k))),
      )
      go (some i) f = (
        f.0,
        refl,
        refl,
        ltb-true (job js i).deadline (ended i) f.1,
        λ k l e. f.2 k l (lt-ltb (job js k).deadline (ended k) e),
      )

  -- Accepted exactly where the one run meets every deadline.
  pub accepted_exactly : ((bounds : List Range) × (c : ℕ) × (analysis js m cap ≡ accepted bounds c)) ↔ ((k : ℕ) → k < length js → ended k ≤ (job js k).deadline)
  accepted_exactly = (λ x. (rw x.2 at says).2, λ f. go f (analysis js m cap) refl says)
    where
      go : ((k : ℕ) → k < length js → ended k ≤ (job js k).deadline) → (v : Verdict) → analysis js m cap ≡ v → Says v
          → (bounds : List Range) × (c : ℕ) × (analysis js m cap ≡ accepted bounds c)
      go f (accepted bounds c) e x = (bounds, c, e)
      go f (refused n at) e x = absurd x
      go f (late i a b) e x = absurd (omega (arith, x.3, f i x.0))

  -- Then both bounds of every job are its finish time, and K + 1 states are stored.
  pub both_ends : (bounds : List Range) (c : ℕ) → analysis js m cap ≡ accepted bounds c
      → (c ≡ suc (length js)) × ((k : ℕ) → k < length js → get_or bounds k empty ≡ range (ended k) (ended k))
  both_ends bounds c e = let x = rw e at says in (x.0, x.1)

  -- No level is ever full.
  pub never_full : (n at : ℕ) → analysis js m cap ≡ refused n at → ⊥
  never_full n at e = rw e at says

  -- A job that is told to be late is so in the run, with these finish times, and the run starts no late job before it.
  pub told_late : (i e f : ℕ) → analysis js m cap ≡ late i e f
      → (i < length js) × (e ≡ ended i) × (f ≡ ended i) × ((job js i).deadline < ended i)
      × ((k : ℕ) → k < length js → (job js k).deadline < ended k → NotBefore js m (only_scenario js) k i)
  told_late i e f q = rw q at says

  -- Every admissible scenario has these start and finish times.
  pub only_times : (s : Scenario) → Admissible js s → (k : ℕ) → k < length js
      → (start_time js m s k ≡ start_time js m (only_scenario js) k) × (finish_time js m s k ≡ finish_time js m (only_scenario js) k)
  only_times s adm k l =
      times_unique js m s wf adm k l (start_time js m (only_scenario js) k) (ended k) (omega (arith, whole.executed k l, wf.lasts k l))
      (λ t. ap (λ (x : Moment). status x.statuses k) (one_run_holds js certain s adm m t) ∙ whole.once k l t)
    where
      whole : Played js m (only_scenario js)
      whole = played js m (only_scenario js) wf (only_admissible js certain)
