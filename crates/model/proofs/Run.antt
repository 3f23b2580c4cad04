-- The induction of a run, from t = 0 on: its statuses are a view of one history, in which no core is idle while a job is ready; and whatever else each
-- start and the passing of time keep holds of that history too. Nothing here takes anything from the analysis. Assumes nothing.
use Prim.Native.Nat.{ℕ, zero, suc, ◌+◌, ◌≤◌, ◌<◌}
use mathlib.Core.Path.{◌≡◌, refl, sym, ap, ap₂, ◌∙◌, subst}
use mathlib.Core.Logic.{◌⊎◌, inl, inr}
use mathlib.Core.Bool.{Bool, true, false, true≢false}
use mathlib.Core.List.{List, [], ◌∷◌, map}
use mathlib.Core.Option.{Option, none, some}
use native.Mathlib.Nat.{add-zero, not-suc-le-zero}
use native.Mathlib.Omega.{arith}
use lib.Dec.{ltb}
use lib.ListN.{get_or, length, set, replicate, length-replicate, length-set}
use lib.Seq.{map-set_same}
use borrow.Author.Tests.{lt-ltb, le-ltb}
use Rattle.model.specs.Folds.{ind, count, member}
use Rattle.model.specs.Jobs.{Job, predecessors, rest_of, before}
use Rattle.model.specs.Dispatch.{Scenario, Status, waiting, running, Moment, finishes_at, finished, ready, first_of, if_some, fill, steps, run}
use Rattle.model.specs.Guarantee.{WellFormed, Admissible, status_at}
use Rattle.model.proofs.Folds.{count_none, set_each, get_or_same, below_suc}
use Rattle.model.proofs.Priority.{First, first_of_holds}
use Rattle.model.proofs.History.{Entry, unstarted, ran, entry, has_started, view, runs_past, busy, Rested, Begun, view_passes, fresh_unrested, fresh_waiting, busy_start, Ready, ready_out, ready_in, Idle}

-- ---- lists

-- what is set in the list is set in its image
pub map_set : {A B : Type 0} (f : A → B) (l : List A) (i : ℕ) (a : A) → map f (set l i a) ≡ set (map f l) i (f a)
map_set f [] i a = refl
map_set f (x ∷ xs) zero a = refl
map_set f (x ∷ xs) (suc i) a = ap (λ r. f x ∷ r) (map_set f xs i a)

-- the image of one thing many times is many times its image
pub map_replicate : {A B : Type 0} (f : A → B) (n : ℕ) (a : A) → map f (replicate n a) ≡ replicate n (f a)
map_replicate f zero a = refl
map_replicate f (suc n) a = ap (λ r. f a ∷ r) (map_replicate f n a)

map_map : {A B : Type 0} (f : B → B) (g k : A → B) (l : List A) (d : A) → ((i : ℕ) → f (g (get_or l i d)) ≡ k (get_or l i d)) → map f (map g l) ≡ map k l
map_map f g k [] d h = refl
map_map f g k (x ∷ xs) d h = ap₂ (λ a b. a ∷ b) (h 0) (map_map f g k xs d (λ i. h (suc i)))

count_map : {A B : Type 0} (p : B → Bool) (g : A → B) (q r : A → Bool) (l : List A) (d : A)
    → ((i : ℕ) → ind (p (g (get_or l i d))) + ind (q (get_or l i d)) ≡ ind (r (get_or l i d))) → count p (map g l) + count q l ≡ count r l
unfolding count
count_map p g q r [] d h = refl
count_map p g q r (x ∷ xs) d h = omega (arith, h 0, count_map p g q r xs d (λ i. h (suc i)))

-- ---- entries

begun_later : (t : ℕ) (x : Entry) → Begun t x → Begun (suc t) x
begun_later t unstarted b = tt
begun_later t (ran a f) b = (omega arith, b.1)

starts_now : (t f : ℕ) → t < f → view t (ran t f) ≡ running f
unfolding status_at
starts_now t f h = rw (le-ltb t t (omega arith), lt-ltb t f h) refl

starts_later : (u t f : ℕ) → u < t → view u (ran t f) ≡ waiting
unfolding status_at
starts_later u t f h = rw (lt-ltb u t h) refl

abbrev pub none_started : List Job → List Entry
none_started js = replicate (length js) unstarted

-- ---- the job that starts next at t

abbrev pub first_ready : List Job → Scenario → ℕ → List Status → Option ℕ
first_ready js s t l = first_of js (ready js s t l) (length js)

module _ (js : List Job) (s : Scenario) (t : ℕ) (l : List Status) where
  fill_by : (n : ℕ) (o : Option ℕ) → first_ready js s t l ≡ o
      → fill js s t (suc n) l ≡ if_some o (λ i. fill js s t n (set l i (running (t + s.execution i)))) (record { statuses = l; free = suc n })
  unfolding fill
  fill_by n o e = ap (λ o. if_some o (λ i. fill js s t n (set l i (running (t + s.execution i)))) (record { statuses = l; free = suc n })) e

  is_first : (o : Option ℕ) → first_ready js s t l ≡ o → First js (ready js s t l) (length js) o
  is_first o e = subst (First js (ready js s t l) (length js)) e (first_of_holds js (ready js s t l) (length js))

-- there is one, or none
pub next_cases : (o : Option ℕ) → (o ≡ none) ⊎ ((i : ℕ) × (o ≡ some i))
next_cases none = inl refl
next_cases (some i) = inr (i, refl)

module _ (js : List Job) (m : ℕ) (s : Scenario) where
  -- ---- what holds of a history

  -- for good, of a job that started at a and finishes at f
  pub record RanOnce (k a f : ℕ) : Type 0 where
    pub released : s.release k ≤ a
    pub executed : f ≡ a + s.execution k

  -- the same of an entry; nothing of a job that has not started
  abbrev pub EntryRan : ℕ → Entry → Type 0
  EntryRan k unstarted = Unit {0}
  EntryRan k (ran a f) = RanOnce k a f

  -- by the start of a job its predecessors had been done for as long as it asks of each
  abbrev pub Served : List Entry → ℕ → Entry → Type 0
  Served h k unstarted = Unit {0}
  Served h k (ran a f) = (w : ℕ) → member w (predecessors js k) ≡ true → Rested a (rest_of js k w) (entry h w)

  -- at t, where no core was idle before p
  pub record Inv (p t : ℕ) (h : List Entry) : Type 0 where
    pub all_jobs : length h ≡ length js
    pub begun : (k : ℕ) → Begun t (entry h k)
    pub idle : Idle js m s p h
    pub entries : (k : ℕ) → EntryRan k (entry h k)
    pub served : (k : ℕ) → Served h k (entry h k)

  abbrev Past : ℕ → List Entry → Type 0
  Past t h = (u : ℕ) → u < t → (run js m s u).statuses ≡ map (view u) h

  -- within the steps at t: n cores are free, and the starts that are left lead to the state of the run
  pub record Going (t n : ℕ) (h : List Entry) : Type 0 where
    pub inv : Inv t t h
    pub cores : n + busy t h ≡ m
    pub past : Past t h
    pub rest : fill js s t n (map (view t) h) ≡ run js m s t

  -- once the steps at t are done
  pub record After (t : ℕ) (h : List Entry) (x : Moment) : Type 0 where
    pub inv : Inv (suc t) t h
    pub cores : x.free + busy t h ≡ m
    pub now : x.statuses ≡ map (view t) h
    pub past : Past t h

  -- the dispatch rule starts job i at t
  pub record Start (t : ℕ) (h : List Entry) (i : ℕ) : Type 0 where
    pub inv : Inv t t h
    pub room : busy t h < m
    pub inside : i < length js
    pub is : Ready js s t h i
    pub firstly : (j : ℕ) → j < length js → Ready js s t h j → before js j i ≡ true → ⊥

  -- what every start and the passing of time keep
  pub record Lasting (P : ℕ → List Entry → Type 0) : Type 0 where
    pub begins : P 0 (none_started js)
    pub starts : (t : ℕ) (h : List Entry) (i : ℕ) → Start t h i → P t h → P t (set h i (ran t (t + s.execution i)))
    pub passes : (t : ℕ) (h : List Entry) → Inv (suc t) t h → P t h → P (suc t) h

  module _ (well_formed : WellFormed js m) (admissible : Admissible js s) where
    -- ---- a job starts

    module _ (t : ℕ) (h : List Entry) (i : ℕ) (start : Start t h i) where
      abbrev inv : Inv t t h
      inv = start.inv

      abbrev is : Ready js s t h i
      is = start.is

      abbrev f : ℕ
      f = t + s.execution i

      abbrev new : List Entry
      new = set h i (ran t f)

      in_history : i < length h
      in_history = omega (arith, start.inside, inv.all_jobs)

      takes_time : t < f
      takes_time = omega (arith, well_formed.lasts i start.inside, (admissible.executions i start.inside).0)

      -- what was ready with the new history at an earlier moment was so before
      ready_back : (u j : ℕ) → u < t → Ready js s u new j → Ready js s u h j
      ready_back u j l r =
          record {
            fresh = set_each (λ k x. has_started x ≡ false → has_started (entry h k) ≡ false) h i (ran t f) unstarted in_history (λ k e. e) (λ e. absurd (true≢false e)) j r.fresh;
            released = r.released;
            served = λ w q. set_each (λ k x. Rested u (rest_of js j w) x → Rested u (rest_of js j w) (entry h k)) h i (ran t f) unstarted in_history (λ k e. e)
                (λ e. absurd (omega arith)) w (r.served w q);
          }

      still_rested : (u r w : ℕ) → Rested u r (entry h w) → Rested u r (entry new w)
      still_rested u r =
          set_each (λ k x. Rested u r (entry h k) → Rested u r x) h i (ran t f) unstarted in_history (λ k e. e) (λ e. absurd (fresh_unrested u r (entry h i) is.fresh e))

      busy_new : (u : ℕ) → busy u new ≡ busy u h + ind (ltb u f)
      busy_new u = busy_start u h i t f in_history is.fresh

      inv_start : Inv t t new
      inv_start =
          record {
            all_jobs = length-set h i (ran t f) ∙ inv.all_jobs;
            begun = set_each (λ k x. Begun t x) h i (ran t f) unstarted in_history inv.begun (omega arith, takes_time);
            idle = λ u l j b r. omega (arith, busy_new u, inv.idle u l j b (ready_back u j l r));
            entries = set_each EntryRan h i (ran t f) unstarted in_history inv.entries (record { released = is.released; executed = refl });
            served = set_each (Served new) h i (ran t f) unstarted in_history (λ k. on k (entry h k) (inv.served k)) (λ w q. still_rested t (rest_of js i w) w (is.served w q));
          }
        where
          on : (k : ℕ) (x : Entry) → Served h k x → Served new k x
          on k unstarted g = tt
          on k (ran a b) g = λ w q. still_rested a (rest_of js k w) w (g w q)

      shows_start : set (map (view t) h) i (running f) ≡ map (view t) new
      shows_start = ap (λ x. set (map (view t) h) i x) (sym (starts_now t f takes_time)) ∙ sym (map_set (view t) h i (ran t f))

      past_start : Past t h → Past t new
      past_start p u l =
          p u l ∙ sym (map-set_same (view u) h i (ran t f) unstarted (starts_later u t f l ∙ sym (fresh_waiting u (entry h i) is.fresh)))

      one_core : busy t new ≡ suc (busy t h)
      one_core = omega (arith, busy_new t, ap ind (lt-ltb t f takes_time))

    -- ---- the steps at t, one by one

    -- the job that the dispatch rule takes
    pub taken : (t n : ℕ) (h : List Entry) → Going t (suc n) h → (i : ℕ) → first_ready js s t (map (view t) h) ≡ some i → Start t h i
    taken t n h g i e =
        let first = is_first js s t (map (view t) h) (some i) e in
        record {
          inv = g.inv;
          room = omega (arith, g.cores);
          inside = first.0;
          is = ready_out js s t h g.inv.begun i first.1;
          firstly = λ j b q. first.2 j b (ready_in js s t h g.inv.begun j q);
        }

    pub going_start : (t n : ℕ) (h : List Entry) → Going t (suc n) h → (i : ℕ) → first_ready js s t (map (view t) h) ≡ some i
        → Going t n (set h i (ran t (t + s.execution i)))
    going_start t n h g i e =
        let start = taken t n h g i e in
        record {
          inv = inv_start t h i start;
          cores = omega (arith, one_core t h i start, g.cores);
          past = past_start t h i start g.past;
          rest = rw (← (shows_start t h i start)) (sym (fill_by js s t (map (view t) h) n (some i) e) ∙ g.rest);
        }

    -- once no core is free, or no job is ready, no core was idle at t either
    settled : (t : ℕ) (h : List Entry) → Inv t t h → ((j : ℕ) → j < length js → Ready js s t h j → m ≤ busy t h) → Inv (suc t) t h
    settled t h inv g =
        record {
          all_jobs = inv.all_jobs;
          begun = inv.begun;
          idle = below_suc (λ u. (j : ℕ) → j < length js → Ready js s u h j → m ≤ busy u h) t inv.idle g;
          entries = inv.entries;
          served = inv.served;
        }

    -- and the steps are done
    pub going_full : (t : ℕ) (h : List Entry) → Going t 0 h → After t h (run js m s t)
    unfolding fill
    going_full t h g =
        subst (After t h) g.rest (record { inv = settled t h g.inv (λ j b r. omega (arith, g.cores)); cores = g.cores; now = refl; past = g.past })

    pub going_none : (t n : ℕ) (h : List Entry) → Going t (suc n) h → first_ready js s t (map (view t) h) ≡ none → After t h (run js m s t)
    going_none t n h g e =
        subst (After t h) (sym (fill_by js s t (map (view t) h) n none e) ∙ g.rest)
        (record { inv = settled t h g.inv (λ j b q. absurd (none_is j b (ready_in js s t h g.inv.begun j q))); cores = g.cores; now = refl; past = g.past })
      where
        none_is : (j : ℕ) → j < length js → ready js s t (map (view t) h) j ≡ true → ⊥
        none_is = is_first js s t (map (view t) h) none e

    -- ---- from one moment to the next

    at_moment_zero : Inv 0 0 (none_started js)
    at_moment_zero =
        record {
          all_jobs = length-replicate (length js) unstarted;
          begun = λ k. rw (get_or_same (length js) k unstarted) tt;
          idle = λ u l. absurd (not-suc-le-zero l);
          entries = λ k. rw (get_or_same (length js) k unstarted) tt;
          served = λ k. rw (get_or_same (length js) k unstarted) tt;
        }

    pub going_first : Going 0 m (none_started js)
    unfolding run steps
    going_first =
        record {
          inv = at_moment_zero;
          cores = omega (arith, count_none (runs_past 0) (length js) unstarted refl);
          past = λ u l. absurd (not-suc-le-zero l);
          rest =
              rw (count_none (finishes_at 0) (length js) waiting refl, add-zero m, map_replicate (finished 0) (length js) waiting, ← (map_replicate (view 0) (length js) unstarted))
              refl;
        }

    at_next_moment : (t : ℕ) (h : List Entry) → Inv (suc t) t h → Inv (suc t) (suc t) h
    at_next_moment t h inv =
        record {
          all_jobs = inv.all_jobs;
          begun = λ k. begun_later t (entry h k) (inv.begun k);
          idle = inv.idle;
          entries = inv.entries;
          served = inv.served;
        }

    -- the jobs that finish have freed their cores
    abbrev pub free_next : ℕ → ℕ
    free_next t = (run js m s t).free + count (finishes_at (suc t)) (run js m s t).statuses

    pub going_next : (t : ℕ) (h : List Entry) → After t h (run js m s t) → Going (suc t) (free_next t) h
    unfolding run steps
    going_next t h a =
        record {
          inv = at_next_moment t h a.inv;
          cores =
              rw a.now
              (omega (arith, count_map (finishes_at (suc t)) (view t) (runs_past (suc t)) (runs_past t) h unstarted (λ k. (view_passes t (entry h k) (a.inv.begun k)).1), a.cores));
          past = below_suc (λ u. (run js m s u).statuses ≡ map (view u) h) t a.past a.now;
          rest = rw (← shown) refl;
        }
      where
        shown : map (finished (suc t)) (run js m s t).statuses ≡ map (view (suc t)) h
        shown = rw a.now (map_map (finished (suc t)) (view t) (view (suc t)) h unstarted (λ k. (view_passes t (entry h k) (a.inv.begun k)).0))

    -- ---- the whole run

    module _ (P : ℕ → List Entry → Type 0) (lasting : Lasting P) where
      abbrev pub At : ℕ → Type 0
      At t = (h : List Entry) × After t h (run js m s t) × P t h

      fill_after : (t n : ℕ) (h : List Entry) → Going t n h → P t h → At t
      fill_after t zero h g q = (h, going_full t h g, q)
      fill_after t (suc n) h g q = go (next_cases (first_ready js s t (map (view t) h))) (λ h'. fill_after t n h')
        where
          go : (first_ready js s t (map (view t) h) ≡ none) ⊎ ((i : ℕ) × (first_ready js s t (map (view t) h) ≡ some i)) → ((h' : List Entry) → Going t n h' → P t h' → At t) → At t
          go (inl e) r = (h, going_none t n h g e, q)
          go (inr x) r = r (set h x.0 (ran t (t + s.execution x.0))) (going_start t n h g x.0 x.1) (lasting.starts t h x.0 (taken t n h g x.0 x.1) q)

      -- at every t there is such a history
      pub run_after : (t : ℕ) → At t
      run_after zero = fill_after 0 m (none_started js) going_first lasting.begins
      run_after (suc t) = go (run_after t)
        where
          go : At t → At (suc t)
          go x = fill_after (suc t) (free_next t) x.0 (going_next t x.0 x.1) (lasting.passes t x.0 x.1.inv x.2)
