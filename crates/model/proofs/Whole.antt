-- The whole run, whether the analysis accepts or not: one history, of which the statuses at every t are a view, and off which starts and finish times are
-- read. Assumes nothing.
use Prim.Native.Nat.{ℕ, zero, suc, ◌+◌, ◌≤◌, ◌<◌}
use mathlib.Core.Path.{◌≡◌, refl, sym, ap, ap₂, ◌∙◌}
use mathlib.Core.Logic.{◌⊎◌, inl, inr, ⊎_elim}
use mathlib.Core.Bool.{Bool, true, false, not, cond, false≢true, true≢false}
use mathlib.Core.List.{List, map}
use native.Mathlib.Nat.{le_antisymm, not-suc-le-zero}
use native.Mathlib.Numerals.{lt_of_le_of_ne}
use native.Mathlib.Decide.{ℕ_discrete}
use native.Mathlib.Omega.{arith}
use lib.Dec.{leb, ltb}
use lib.ListN.{length, get_or-map}
use borrow.Author.Tests.{lt-ltb, le-ltb, ltb-false, leb-true, leb-false}
use Rattle.model.specs.Folds.{member}
use Rattle.model.specs.Jobs.{Job, job, predecessors, rest_of}
use Rattle.model.specs.Dispatch.{Scenario, waiting, running, done, status, is_waiting, run}
use Rattle.model.specs.Guarantee.{WellFormed, Admissible, status_at, Overlap}
use Rattle.model.specs.Playing.{horizon, first_time, runs_until, start_time, finish_time, Played}
use Rattle.model.proofs.Booleans.{cases}
use Rattle.model.proofs.Folds.{below_suc}
use Rattle.model.proofs.Predecessors.{predecessor_earlier, bell_predecessor}
use Rattle.model.proofs.History.{Entry, unstarted, ran, entry, has_started, view, Rested, Finished, Begun, view_begun, finished_started}
use Rattle.model.proofs.Run.{RanOnce, EntryRan, Served, After, At, run_after}
use Rattle.model.proofs.Progress.{Shrinks, shrinks, all_over}

-- ---- the first time

module _ (p : ℕ → Bool) (a : ℕ) (before : (t : ℕ) → t < a → p t ≡ false) where
  none_yet : (n : ℕ) → n ≤ a → first_time p n ≡ n
  unfolding first_time
  none_yet zero l = refl
  none_yet (suc n) l = rw (none_yet n (omega arith), before n (omega arith)) refl

  first_time_holds : p a ≡ true → (n : ℕ) → a ≤ n → first_time p n ≡ a
  unfolding first_time
  first_time_holds e zero l = omega arith
  first_time_holds e (suc n) l = go (cases (leb a n)) (λ d. first_time_holds e n d)
    where
      go : (leb a n ≡ true) ⊎ (leb a n ≡ false) → (a ≤ n → first_time p n ≡ a) → cond (p (first_time p n)) (first_time p n) (suc n) ≡ a
      go (inl d) r = rw (r (leb-true a n d), e) refl
      go (inr d) r = rw (none_yet n (omega (arith, leb-false a n d)), before n (omega (arith, leb-false a n d))) (omega (arith, leb-false a n d))

-- ---- entries of histories

abbrev pub start_in : Entry → ℕ
start_in unstarted = 0
start_in (ran a f) = a

abbrev pub finish_in : Entry → ℕ
finish_in unstarted = 0
finish_in (ran a f) = f

waits_until : (u a f : ℕ) → is_waiting (status_at a f u) ≡ ltb u a
unfolding status_at
waits_until u a f = go (ltb u a) (ltb u f)
  where
    go : (b c : Bool) → is_waiting (cond b waiting (cond c (running f) (done f))) ≡ b
    go true c = refl
    go false true = refl
    go false false = refl

runs_from : (a f : ℕ) → a < f → runs_until (status_at a f a) ≡ f
runs_from a f l = rw (view_begun a a f (omega arith), lt-ltb a f l) refl

-- views that agree up to b show starts by b at one moment
starts_agree : (b a f a' f' : ℕ) → a ≤ b → ((u : ℕ) → u ≤ b → view u (ran a f) ≡ view u (ran a' f')) → a' ≤ a
starts_agree b a f a' f' h e = ltb-false a a' (sym (waits_until a a' f') ∙ ap is_waiting (sym (e a h)) ∙ waits_until a a f ∙ le-ltb a a (omega arith))

module _ (js : List Job) (m : ℕ) (s : Scenario) where
  -- two histories that agree up to b agree on a job that started by b
  entries_agree : (b k : ℕ) (x x' : Entry) → has_started x ≡ true → Begun b x → EntryRan js m s k x → EntryRan js m s k x'
      → ((u : ℕ) → u ≤ b → view u x ≡ view u x') → x ≡ x'
  entries_agree b k unstarted x' t g p q e = absurd (false≢true t)
  entries_agree b k (ran a f) unstarted t g p q e = absurd (true≢false (ap is_waiting (sym (e b (omega arith))) ∙ waits_until b a f ∙ le-ltb b a g.0))
  entries_agree b k (ran a f) (ran a' f') t g p q e =
      let one = starts_agree b a f a' f' g.0 e in
      let same : a ≡ a' = le_antisymm (starts_agree b a' f' a f (omega (arith, g.0)) (λ u h. sym (e u h))) one in
      ap₂ ran same (omega (arith, p.executed, q.executed))

  look : (t : ℕ) (g : List Entry) → (run js m s t).statuses ≡ map (view t) g → (k : ℕ) → status (run js m s t).statuses k ≡ view t (entry g k)
  look t g e k = ap (λ l. status l k) e ∙ get_or-map (view t) g k unstarted

  -- a history shows the statuses of all moments up to its own
  shown : (t : ℕ) (g : List Entry) → After js m s t g (run js m s t) → (u : ℕ) → u ≤ t → (k : ℕ) → status (run js m s u).statuses k ≡ view u (entry g k)
  shown t g a u l = look u g (below_suc (λ u. (run js m s u).statuses ≡ map (view u) g) t a.past a.now u (omega arith))

  module _ (wf : WellFormed js m) (adm : Admissible js s) where
    -- ---- the history at the horizon is that of every moment

    at : (t : ℕ) → At js m s wf adm (Shrinks js s) (shrinks js s m wf adm) t
    at = run_after js m s wf adm (Shrinks js s) (shrinks js s m wf adm)

    b : ℕ
    b = horizon js s

    h : List Entry
    h = (at b).0

    after : After js m s b h (run js m s b)
    unfolding h
    after = (at b).1

    all_finished : (k : ℕ) → k < length js → Finished b (entry h k)
    unfolding h b
    all_finished = all_over js s m wf adm b h (omega arith) (at b).2

    at_all_times : (t k : ℕ) → k < length js → status (run js m s t).statuses k ≡ view t (entry h k)
    at_all_times t k l = ⊎_elim (λ e. shown b h after t (leb-true t b e) k) (λ e. later (leb-false t b e) (at t)) (cases (leb t b))
      where
        later : b < t → At js m s wf adm (Shrinks js s) (shrinks js s m wf adm) t → status (run js m s t).statuses k ≡ view t (entry h k)
        later lt x =
            look t x.0 x.1.now k
            ∙ ap (view t) (sym (entries_agree b k (entry h k) (entry x.0 k) (finished_started b (entry h k) (all_finished k l)) (after.inv.begun k) (after.inv.entries k)
            (x.1.inv.entries k) (λ u v. sym (shown b h after u v k) ∙ shown t x.0 x.1 u (omega arith) k)))

    -- ---- what it says of a job

    record Life (k a f : ℕ) : Type 0 where
      begins : a ≤ b
      lasts : a < f
      ends : f ≤ b
      ran_once : RanOnce js m s k a f
      stands : (t : ℕ) → status (run js m s t).statuses k ≡ status_at a f t
      served : (w : ℕ) → member w (predecessors js k) ≡ true → finish_in (entry h w) + rest_of js k w ≤ a

    life : (k : ℕ) → k < length js → Life k (start_in (entry h k)) (finish_in (entry h k))
    life k l = go (entry h k) (all_finished k l) (after.inv.begun k) (after.inv.entries k) (after.inv.served k) (λ t. at_all_times t k l)
      where
        by_then : (a r : ℕ) (x : Entry) → Rested a r x → finish_in x + r ≤ a
        by_then a r unstarted g = absurd g
        by_then a r (ran c f) g = g

        go : (x : Entry) → Finished b x → Begun b x → EntryRan js m s k x → Served js m s h k x → ((t : ℕ) → status (run js m s t).statuses k ≡ view t x) → Life k (start_in x) (finish_in x)
        go unstarted e g p q v = absurd e
        go (ran a f) e g p q v = record { begins = g.0; lasts = g.1; ends = e; ran_once = p; stands = v; served = λ w i. by_then a (rest_of js k w) (entry h w) (q w i) }

    -- ---- start and finish times are those of the history

    start_is : (k : ℕ) → k < length js → start_time js m s k ≡ start_in (entry h k)
    unfolding start_time b
    start_is k l =
        first_time_holds (λ t. not (is_waiting (status (run js m s t).statuses k))) (start_in (entry h k))
        (λ t c. ap not (waits t ∙ lt-ltb t (start_in (entry h k)) c)) (ap not (waits (start_in (entry h k)) ∙ le-ltb (start_in (entry h k)) (start_in (entry h k)) (omega arith))) b (life k l).begins
      where
        waits : (t : ℕ) → is_waiting (status (run js m s t).statuses k) ≡ ltb t (start_in (entry h k))
        waits t = ap is_waiting ((life k l).stands t) ∙ waits_until t (start_in (entry h k)) (finish_in (entry h k))

    finish_is : (k : ℕ) → k < length js → finish_time js m s k ≡ finish_in (entry h k)
    unfolding finish_time
    finish_is k l =
        ap (λ t. runs_until (status (run js m s t).statuses k)) (start_is k l)
        ∙ ap runs_until ((life k l).stands (start_in (entry h k)))
        ∙ runs_from (start_in (entry h k)) (finish_in (entry h k)) (life k l).lasts

    starts : ℕ → ℕ
    starts = start_time js m s

    finishes : ℕ → ℕ
    finishes = finish_time js m s

    timed : (k : ℕ) → k < length js → Life k (starts k) (finishes k)
    unfolding starts finishes
    timed k l = rw (start_is k l, finish_is k l) (life k l)

    -- ---- one bell

    -- a job starts when its predecessors have been done for as long as it asks of each
    ordered : (j : ℕ) → j < length js → (w : ℕ) → member w (predecessors js j) ≡ true → finishes w + rest_of js j w ≤ starts j
    unfolding finishes
    ordered j l w e = omega (arith, (timed j l).served w e, finish_is w (omega (arith, predecessor_earlier js m wf j l w e)))

    -- of two jobs of one bell the later starts when the earlier has finished and the bell has rested; by induction on a number above the later
    in_turn : (n i j : ℕ) → j < n → i < j → j < length js → (job js i).bell ≡ (job js j).bell → finishes i + (job js j).rest ≤ starts j
    in_turn zero i j q l r e = absurd (not-suc-le-zero q)
    in_turn (suc n) i j q l r e = go (bell_predecessor js i j l e) (λ p. in_turn n i p)
      where
        go : (p : ℕ) × (i ≤ p) × (p < j) × ((job js p).bell ≡ (job js j).bell) × (member p (predecessors js j) ≡ true) × (rest_of js j p ≡ (job js j).rest)
            → ((p : ℕ) → p < n → i < p → p < length js → (job js i).bell ≡ (job js p).bell → finishes i + (job js p).rest ≤ starts p)
            → finishes i + (job js j).rest ≤ starts j
        go x f = by (ℕ_discrete i x.0)
          where
            by : Dec (i ≡ x.0) → finishes i + (job js j).rest ≤ starts j
            by (yes d) = rw d (omega (arith, ordered j r x.0 x.4, x.5))
            by (no d) =
                omega (
                  arith,
                  f x.0 (omega (arith, x.2)) (lt_of_le_of_ne x.1 d) (omega (arith, x.2)) (e ∙ sym x.3),
                  (timed x.0 (omega (arith, x.2))).lasts,
                  ordered j r x.0 x.4,
                  x.5,
                )

    apart : (i j : ℕ) → i < length js → j < length js → (i ≡ j → ⊥) → (job js i).bell ≡ (job js j).bell → Overlap (starts i) (finishes i) (starts j) (finishes j) → ⊥
    apart i j p q d e o =
        ⊎_elim (λ c. omega (arith, in_turn (suc j) i j (omega arith) (lt_of_le_of_ne (leb-true i j c) d) q e, o.2, o.3))
        (λ c. omega (arith, in_turn (suc i) j i (omega arith) (leb-false i j c) p (sym e), o.1, o.4)) (cases (leb i j))

    -- Every run starts each job once and comes to its end.
    pub played : Played js m s
    unfolding starts finishes b
    played =
        record {
          once = λ k l. (timed k l).stands;
          released = λ k l. (timed k l).ran_once.released;
          executed = λ k l. (timed k l).ran_once.executed;
          over = λ k l. (timed k l).ends;
          apart = apart;
          rested = λ i j l r e. in_turn (suc j) i j (omega arith) l r e;
        }

    -- every history of the run says this of a job that has started
    pub entry_is : (t : ℕ) (g : List Entry) → After js m s t g (run js m s t) → (k : ℕ) → k < length js → has_started (entry g k) ≡ true
        → entry g k ≡ ran (start_time js m s k) (finish_time js m s k)
    unfolding starts finishes
    entry_is t g a k l c =
        entries_agree t k (entry g k) (ran (starts k) (finishes k)) c (a.inv.begun k) (a.inv.entries k) (timed k l).ran_once
        (λ u v. sym (shown t g a u v k) ∙ (timed k l).stands u)

    -- a history has every job started once the last has started
    pub has_started_holds : (t : ℕ) (g : List Entry) → After js m s t g (run js m s t) → (k : ℕ) → k < length js → start_time js m s k ≤ t → has_started (entry g k) ≡ true
    unfolding starts finishes
    has_started_holds t g a k l c = go (entry g k) (ap is_waiting (sym (shown t g a t (omega arith) k) ∙ (timed k l).stands t) ∙ waits_until t (starts k) (finishes k) ∙ le-ltb t (starts k) c)
      where
        go : (x : Entry) → is_waiting (view t x) ≡ false → has_started x ≡ true
        go unstarted e = absurd (true≢false e)
        go (ran a f) e = refl

    -- a start and a finish time by which a job stands at every t are its own
    pub times_unique : (k : ℕ) → k < length js → (a f : ℕ) → a < f → ((t : ℕ) → status (run js m s t).statuses k ≡ status_at a f t)
        → (start_time js m s k ≡ a) × (finish_time js m s k ≡ f)
    unfolding starts finishes
    times_unique k l a f lt e = (same, sym (runs_from (starts k) (finishes k) (timed k l).lasts) ∙ ap runs_until (both (starts k)) ∙ ap (λ t. runs_until (status_at a f t)) same ∙ runs_from a f lt)
      where
        both : (t : ℕ) → status_at (starts k) (finishes k) t ≡ status_at a f t
        both t = sym ((timed k l).stands t) ∙ e t

        same : starts k ≡ a
        same =
            le_antisymm (starts_agree a a f (starts k) (finishes k) (omega arith) (λ u v. sym (both u)))
            (starts_agree (starts k) (starts k) (finishes k) a f (omega arith) (λ u v. both u))
