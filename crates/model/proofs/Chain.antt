-- The states, level by level, of jobs with nothing uncertain, whatever their deadlines: one follows another, each with one eligible job; and the order in
-- which these jobs start. Assumes nothing.
use Prim.Native.Nat.{ℕ, zero, suc, ◌+◌, ◌≤◌, ◌<◌}
use mathlib.Core.Path.{◌≡◌, refl, sym, ap, ◌∙◌}
use mathlib.Core.Logic.{◌⊎◌, inl, inr, ⊎_elim}
use mathlib.Core.Bool.{true, false, true≢false, false≢true}
use mathlib.Core.List.{List}
use native.Mathlib.Decide.{ℕ_discrete}
use native.Mathlib.Omega.{arith}
use lib.Dec.{leb}
use lib.ListN.{length}
use lib.Seq.{get_or-set_same, get_or-set_other}
use borrow.Author.Tests.{leb-true, leb-false}
use Rattle.model.specs.Folds.{ind, member, all}
use Rattle.model.specs.Jobs.{Job, predecessors, rest_of, before}
use Rattle.model.specs.States.{empty, is_range, latest, State, finish_of, started, level, initial, first}
use Rattle.model.specs.Edges.{candidate, certainly_ready, eligible, earliest_start, work_conserving_bound, latest_finish, availability, successor}
use Rattle.model.specs.Guarantee.{WellFormed}
use Rattle.model.specs.Certain.{Certain}
use Rattle.model.proofs.Booleans.{cases, clash}
use Rattle.model.proofs.Folds.{largest_le, le_largest, count_set, count_none, count_all, get_or_same, AllBelow, FirstFailing, first_failing}
use Rattle.model.proofs.Availability.{weighs_one, weighs_none, availability_before, availability_length, count_first}
use Rattle.model.proofs.Enclosure.{Shaped, initial_shaped, successor_shaped}
use Rattle.model.proofs.Induction.{finish_range}
use Rattle.model.proofs.Coverage.{kept_from}
use Rattle.model.proofs.Predecessors.{predecessor_earlier}
use Rattle.model.proofs.Starts.{candidate_in, candidate_out}
use Rattle.model.proofs.Definite.{first_le_bound, Definite, goes_in, goes_out, Next, eligible_next, one_next, successor_definite, next_job, next_starts}

-- no core is free before a start
first_from : (s f m : ℕ) (l : List ℕ) → 1 ≤ m → length l ≡ m → s ≤ f → s ≤ first (availability s f l)
first_from s f m l p e h =
    ⊎_elim (λ q. leb-true s (first (availability s f l)) q) (λ q. absurd (never (leb-false s (first (availability s f l)) q))) (cases (leb s (first (availability s f l))))
  where
    never : first (availability s f l) < s → ⊥
    never q =
        let t : ℕ = first (availability s f l) in
        omega (
          arith,
          count_first t m (availability s f l) p (availability_length s f m l p e),
          weighs_one t t (omega arith),
          availability_before s f t l q,
          weighs_none f t (omega arith),
        )

-- in every state all jobs have started, or there is a candidate: the first that has not started is one
some_candidate : (js : List Job) (m : ℕ) → WellFormed js m → (σ : State) → AllBelow (started σ) (length js) ⊎ ((i : ℕ) × (i < length js) × (candidate js σ i ≡ true))
some_candidate js m wf σ = go (first_failing (started σ) (length js))
  where
    go : AllBelow (started σ) (length js) ⊎ FirstFailing (started σ) (length js) → AllBelow (started σ) (length js) ⊎ ((i : ℕ) × (i < length js) × (candidate js σ i ≡ true))
    go (inl f) = inl f
    go (inr x) = inr (x.0, x.1, candidate_in js σ x.0 (x.2, λ w q. x.3 w (predecessor_earlier js m wf x.0 x.1 w q)))

module _ (js : List Job) (m : ℕ) where
  -- the state of level n
  unfoldable pub chain : ℕ → State
  unfolding next_job successor
  chain zero = initial m (length js)
  chain (suc n) = successor js (chain n) (next_job js (chain n))

  -- the job that starts there
  abbrev pub next : ℕ → ℕ
  next n = next_job js (chain n)

  -- and when it does
  abbrev pub moment : ℕ → ℕ
  moment n = work_conserving_bound js (chain n)

  module _ (wf : WellFormed js m) (certain : Certain js) where
    pub chain_shaped : (n : ℕ) → Shaped m (length js) (chain n)
    unfolding chain
    chain_shaped zero = initial_shaped m (length js)
    chain_shaped (suc n) = successor_shaped m (length js) js (chain n) (next n) wf.cores (chain_shaped n)

    -- the state is of level n, and every range in it is one moment
    record Stage (n : ℕ) : Type 0 where
      definite : Definite (chain n)
      level_is : level (chain n) ≡ n

    -- one job starts next
    pub record Link (n : ℕ) : Type 0 where
      pub inside : next n < length js
      pub starts : eligible js (chain n) (next n) ≡ true
      pub alone : (j : ℕ) → j < length js → eligible js (chain n) j ≡ true → j ≡ next n
      pub is_next : Next js (chain n) (next n)
      pub fresh : started (chain n) (next n) ≡ false

    stage_link : (n : ℕ) → n < length js → Stage n → Link n
    stage_link n h g = go (some_candidate js m wf (chain n))
      where
        go : AllBelow (started (chain n)) (length js) ⊎ ((i : ℕ) × (i < length js) × (candidate js (chain n) i ≡ true)) → Link n
        go (inl f) =
            absurd (omega (arith, h, g.level_is, (chain_shaped n).jobs, count_all is_range (chain n).finish empty (λ j b. f j (omega (arith, (chain_shaped n).jobs)))))
        go (inr x) =
            let y = next_starts js certain (chain n) g.definite x.0 x.1 x.2 in
            let z = eligible_next js certain (chain n) g.definite (next n) y.0 y.1 in
            record {
              inside = y.0;
              starts = y.1;
              alone = λ j b e. one_next js certain (chain n) g.definite j (next n) b y.0 e y.1;
              is_next = z;
              fresh = (candidate_out js (chain n) (next n) (goes_out js (chain n) (next n) z.goes_too).0).0;
            }

    stage : (n : ℕ) → n ≤ length js → Stage n
    unfolding chain successor
    stage zero h =
        record {
          definite = record { finishes = λ k. rw (get_or_same (length js) k empty) refl; cores = refl };
          level_is = count_none is_range (length js) empty refl;
        }
    stage (suc n) h = go (stage n (omega arith))
      where
        go : Stage n → Stage (suc n)
        go g =
            let x = stage_link n h g in
            record {
              definite = successor_definite js certain (chain n) g.definite (next n) x.inside (chain_shaped n).jobs x.starts;
              level_is = omega (
                arith,
                count_set is_range (chain n).finish (next n) (finish_range js (chain n) (next n)) empty (omega (arith, x.inside, (chain_shaped n).jobs)),
                ap ind x.fresh,
                g.level_is,
              );
            }

    pub link : (n : ℕ) → n < length js → Link n
    link n h = stage_link n h (stage n (omega arith))

    pub definite_at : (n : ℕ) → n ≤ length js → Definite (chain n)
    definite_at n h = (stage n h).definite

    -- ---- what has started keeps its range

    range_new : (n : ℕ) → n < length js → finish_of (chain (suc n)) (next n) ≡ finish_range js (chain n) (next n)
    unfolding chain successor
    range_new n h = get_or-set_same (chain n).finish (next n) (finish_range js (chain n) (next n)) empty (omega (arith, (link n h).inside, (chain_shaped n).jobs))

    range_kept : (n k : ℕ) → n < length js → started (chain n) k ≡ true → finish_of (chain (suc n)) k ≡ finish_of (chain n) k
    unfolding chain successor
    range_kept n k h e =
        get_or-set_other (chain n).finish (next n) k (finish_range js (chain n) (next n)) empty (λ d. true≢false (sym e ∙ ap (started (chain n)) d ∙ (link n h).fresh))

    range_stays : (k n : ℕ) → started (chain n) k ≡ true → (n' : ℕ) → n ≤ n' → n' ≤ length js → finish_of (chain n') k ≡ finish_of (chain n) k
    range_stays k n e n' h =
        kept_from (λ j. j ≤ length js → finish_of (chain j) k ≡ finish_of (chain n) k) (λ j p b. range_kept j k b (ap is_range (p (omega arith)) ∙ e) ∙ p (omega arith)) n n' h
        (λ b. refl)

    -- in every later state the job of state n has the range of its edge
    pub range_at_holds : (n n' : ℕ) → n < n' → n' ≤ length js → finish_of (chain n') (next n) ≡ finish_range js (chain n) (next n)
    range_at_holds n n' h b = range_stays (next n) (suc n) (ap is_range (range_new n (omega arith))) n' h b ∙ range_new n (omega arith)

    -- a job that has started was that of an earlier state
    pub was_next : (k n : ℕ) → n ≤ length js → started (chain n) k ≡ true → (j : ℕ) × (j < n) × (k ≡ next j)
    unfolding chain successor
    was_next k zero h e = absurd (false≢true (sym (ap is_range (get_or_same (length js) k empty)) ∙ e))
    was_next k (suc n) h e = go (ℕ_discrete k (next n)) (λ q. was_next k n (omega arith) q)
      where
        go : Dec (k ≡ next n) → (started (chain n) k ≡ true → (j : ℕ) × (j < n) × (k ≡ next j)) → (j : ℕ) × (j < suc n) × (k ≡ next j)
        go (yes d) f = (n, omega arith, d)
        go (no d) f =
            let x = f (sym (ap is_range (get_or-set_other (chain n).finish (next n) k (finish_range js (chain n) (next n)) empty d)) ∙ e) in
            (x.0, omega (arith, x.1), x.2)

    -- ---- the order of the starts

    ends_later : (n : ℕ) → n < length js → moment n < latest_finish js (chain n) (next n)
    unfolding latest_finish
    ends_later n h = omega (arith, (link n h).is_next.late, wf.lasts (next n) (link n h).inside, certain.executions (next n) (link n h).inside)

    moment_grows : (n : ℕ) → n < length js → moment n ≤ moment (suc n)
    unfolding chain successor
    moment_grows n h =
        omega (
          arith,
          (link n h).is_next.early,
          first_le_bound js (chain (suc n)),
          first_from (earliest_start js (chain n) (next n)) (latest_finish js (chain n) (next n)) m (chain n).certainly_free wf.cores (chain_shaped n).certainly
              (omega (arith, (link n h).is_next.early, ends_later n h)),
        )

    -- no job starts before those of earlier states
    pub moments_grow : (n n' : ℕ) → n ≤ n' → n' ≤ length js → moment n ≤ moment n'
    moments_grow n n' h = kept_from (λ j. j ≤ length js → moment n ≤ moment j) (λ j p b. omega (arith, p (omega arith), moment_grows j b)) n n' h (λ b. omega arith)

    -- nor does it go before one of them that starts at the same moment: it would have been ready then, and taken first
    pub in_order_holds : (n n' : ℕ) → n ≤ n' → n' < length js → moment n' ≤ moment n → before js (next n') (next n) ≡ true → ⊥
    unfolding certainly_ready
    in_order_holds n n' h b l p =
        (link n (omega arith)).is_next.firstly k (link n' b).inside (goes_in js (chain n) k (candidate_in js (chain n) k (fresh, waits)) ready_then) p
      where
        k : ℕ
        k = next n'

        was : (candidate js (chain n') k ≡ true) × (certainly_ready js (chain n') k ≤ moment n')
        was = goes_out js (chain n') k (link n' b).is_next.goes_too

        fresh : started (chain n) k ≡ false
        fresh = ⊎_elim (λ e. clash (ap is_range (range_stays k n e n' h (omega arith)) ∙ e) (link n' b).fresh) (λ e. e) (cases (started (chain n) k))

        over_then : (w : ℕ) → member w (predecessors js k) ≡ true → latest (finish_of (chain n') w) + rest_of js k w ≤ moment n
        over_then w q = omega (arith, l, was.1, le_largest all (λ v. latest (finish_of (chain n') v) + rest_of js k v) (predecessors js k) w q refl)

        waits : (w : ℕ) → member w (predecessors js k) ≡ true → started (chain n) w ≡ true
        waits w q = go (was_next w n' (omega arith) ((candidate_out js (chain n') k was.0).1 w q))
          where
            go : (j : ℕ) × (j < n') × (w ≡ next j) → started (chain n) w ≡ true
            go x =
                ⊎_elim
                (λ c. absurd (omega (
                  arith,
                  over_then w q,
                  ap latest (ap (finish_of (chain n')) x.2 ∙ range_at_holds x.0 n' x.1 (omega arith)),
                  ends_later x.0 (omega (arith, x.1)),
                  moments_grow n x.0 (leb-true n x.0 c) (omega (arith, x.1)),
                )))
                (λ c. rw x.2 (ap is_range (range_at_holds x.0 n (leb-false n x.0 c) (omega arith)))) (cases (leb n x.0))

        ready_then : certainly_ready js (chain n) k ≤ moment n
        ready_then =
            omega (
              arith,
              l,
              was.1,
              largest_le all (λ w. latest (finish_of (chain n) w) + rest_of js k w) (predecessors js k) (moment n)
                  (λ w q. omega (arith, over_then w q, ap latest (range_stays w n (waits w q) n' h (omega arith)))),
            )
