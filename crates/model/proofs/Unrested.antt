-- Where a job has no rest, the analysis treats it as it did before there were rests: a predecessor counts from its finish on, and one that both jobs have is
-- left out of the higher-priority bound. Where no job has one, every run is that of the dispatch rule as it was, which is written out here, and its horizon
-- is the former. Assumes nothing.
use Prim.Native.Nat.{ℕ, zero, suc, ◌+◌, ◌≤◌, ◌<◌, max}
use mathlib.Core.Path.{◌≡◌, refl, sym, ap, ap₂, ◌∙◌}
use mathlib.Core.Bool.{Bool, true, false, not, ◌&&◌, cond, and-true}
use mathlib.Core.List.{List, [], ◌∷◌, map}
use mathlib.Core.Option.{Option, none, some}
use native.Mathlib.Omega.{arith}
use lib.Dec.{leb, eqb}
use lib.ListN.{get_or, length, set, replicate, get_or-map}
use borrow.Author.Tests.{le-leb, eqb-true}
use Rattle.model.specs.Folds.{ind, count, every, member, largest, all, largest_below, sum}
use Rattle.model.specs.Jobs.{Job, job, predecessors, rest_of}
use Rattle.model.specs.Dispatch.{Scenario, Status, Moment, status, is_waiting, has_rested, finishes_at, finished, beginning, ready, first_of, if_some, fill, steps, run}
use Rattle.model.specs.Dispatch.{waiting as waits, running as runs, done as is_over}
use Rattle.model.specs.States.{earliest, latest, State, finish_of}
use Rattle.model.specs.Edges.{possibly_ready, certainly_ready, rested_with, certainly_ready_beside}
use Rattle.model.specs.Playing.{horizon}
use Rattle.model.proofs.Folds.{every_same, largest_same, sum_ext}
use Rattle.model.proofs.Enclosure.{All}
use Rattle.model.proofs.Rests.{rest_at_most}
use Rattle.model.proofs.Run.{map_set, map_replicate}

-- ---- the analysis

-- a job without a rest asks none of its predecessors
rest_none : (js : List Job) (i : ℕ) → (job js i).rest ≡ 0 → (w : ℕ) → rest_of js i w ≡ 0
rest_none js i e w = omega (arith, rest_at_most js i w)

module _ (js : List Job) (σ : State) where
  -- Rmin is the former
  pub possibly_ready_unrested : (i : ℕ) → (job js i).rest ≡ 0
      → possibly_ready js σ i ≡ max (job js i).earliest_release (largest all (λ w. earliest (finish_of σ w)) (predecessors js i))
  unfolding possibly_ready
  possibly_ready_unrested i e =
      ap (max (job js i).earliest_release)
      (largest_same all all (λ w. earliest (finish_of σ w) + rest_of js i w) (λ w. earliest (finish_of σ w)) (λ w. refl) (λ w. omega (arith, rest_none js i e w)) (predecessors js i))

  -- so is Rmax
  pub certainly_ready_unrested : (i : ℕ) → (job js i).rest ≡ 0
      → certainly_ready js σ i ≡ max (job js i).latest_release (largest all (λ w. latest (finish_of σ w)) (predecessors js i))
  unfolding certainly_ready
  certainly_ready_unrested i e =
      ap (max (job js i).latest_release)
      (largest_same all all (λ w. latest (finish_of σ w) + rest_of js i w) (λ w. latest (finish_of σ w)) (λ w. refl) (λ w. omega (arith, rest_none js i e w)) (predecessors js i))

  -- and where job i is ready too, whatever rest that one has
  pub beside_unrested : (i j : ℕ) → (job js j).rest ≡ 0
      → certainly_ready_beside js σ i j
      ≡ max (job js j).latest_release (largest (λ w. not (member w (predecessors js i))) (λ w. latest (finish_of σ w)) (predecessors js j))
  unfolding certainly_ready_beside rested_with
  beside_unrested i j e =
      ap (max (job js j).latest_release)
      (largest_same (λ w. not (rested_with js i j w)) (λ w. not (member w (predecessors js i))) (λ w. latest (finish_of σ w) + rest_of js j w) (λ w. latest (finish_of σ w))
      (λ w. ap not
      (ap (λ (c : Bool). member w (predecessors js i) && c) (le-leb (rest_of js j w) (rest_of js i w) (omega (arith, rest_none js j e w))) ∙ and-true (member w (predecessors js i))))
      (λ w. omega (arith, rest_none js j e w)) (predecessors js j))

-- ---- the dispatch rule as it was

-- Whether a job is waiting, running on a core until f, or done.
pub data StatusUnrested : Type 0 where
  waiting : StatusUnrested
  running : ℕ → StatusUnrested
  done : StatusUnrested

pub record MomentUnrested : Type 0 where
  pub statuses : List StatusUnrested
  pub free : ℕ

abbrev pub status_unrested : List StatusUnrested → ℕ → StatusUnrested
status_unrested l k = get_or l k waiting

abbrev pub is_waiting_unrested : StatusUnrested → Bool
is_waiting_unrested waiting = true
is_waiting_unrested (running f) = false
is_waiting_unrested done = false

abbrev pub is_done : StatusUnrested → Bool
is_done waiting = false
is_done (running f) = false
is_done done = true

abbrev pub finishes_at_unrested : ℕ → StatusUnrested → Bool
finishes_at_unrested t waiting = false
finishes_at_unrested t (running f) = eqb f t
finishes_at_unrested t done = false

abbrev pub finished_unrested : ℕ → StatusUnrested → StatusUnrested
finished_unrested t waiting = waiting
finished_unrested t (running f) = cond (eqb f t) done (running f)
finished_unrested t done = done

abbrev pub beginning_unrested : List Job → ℕ → MomentUnrested
beginning_unrested js m = record { statuses = replicate (length js) waiting; free = m }

-- Ready at t: waiting, released by t, its predecessors all done.
unfoldable pub ready_unrested : List Job → Scenario → ℕ → List StatusUnrested → ℕ → Bool
unfolding every predecessors
ready_unrested js s t l i =
    is_waiting_unrested (status_unrested l i) && (leb (s.release i) t && every (λ w. is_done (status_unrested l w)) (predecessors js i))

module _ (js : List Job) (s : Scenario) where
  unfoldable pub fill_unrested : ℕ → ℕ → List StatusUnrested → MomentUnrested
  unfolding first_of ready_unrested
  fill_unrested t zero l = record { statuses = l; free = zero }
  fill_unrested t (suc n) l =
      if_some (first_of js (ready_unrested js s t l) (length js)) (λ i. fill_unrested t n (set l i (running (t + s.execution i)))) (record { statuses = l; free = suc n })

  unfoldable pub steps_unrested : ℕ → MomentUnrested → MomentUnrested
  unfolding fill_unrested count
  steps_unrested t x = fill_unrested t (x.free + count (finishes_at_unrested t) x.statuses) (map (finished_unrested t) x.statuses)

unfoldable pub run_unrested : List Job → ℕ → Scenario → ℕ → MomentUnrested
unfolding steps_unrested
run_unrested js m s zero = steps_unrested js s zero (beginning_unrested js m)
run_unrested js m s (suc t) = steps_unrested js s (suc t) (run_unrested js m s t)

-- ---- what is forgotten

-- since when a job is done
abbrev pub forget : Status → StatusUnrested
forget waits = waiting
forget (runs f) = running f
forget (is_over f) = done

abbrev pub forget_all : Moment → MomentUnrested
forget_all x = record { statuses = map forget x.statuses; free = x.free }

forget_look : (l : List Status) (k : ℕ) → status_unrested (map forget l) k ≡ forget (status l k)
forget_look l k = get_or-map forget l k waits

forget_waiting : (x : Status) → is_waiting x ≡ is_waiting_unrested (forget x)
forget_waiting waits = refl
forget_waiting (runs f) = refl
forget_waiting (is_over f) = refl

forget_finishes : (t : ℕ) (x : Status) → finishes_at t x ≡ finishes_at_unrested t (forget x)
forget_finishes t waits = refl
forget_finishes t (runs f) = refl
forget_finishes t (is_over f) = refl

forget_finished : (t : ℕ) (x : Status) → forget (finished t x) ≡ finished_unrested t (forget x)
forget_finished t waits = refl
forget_finished t (runs f) = go (eqb f t)
  where
    go : (c : Bool) → forget (cond c (is_over f) (runs f)) ≡ cond c done (running f)
    go true = refl
    go false = refl
forget_finished t (is_over f) = refl

count_forget : (t : ℕ) (l : List Status) → count (finishes_at t) l ≡ count (finishes_at_unrested t) (map forget l)
unfolding count
count_forget t [] = refl
count_forget t (x ∷ xs) = omega (arith, ap ind (forget_finishes t x), count_forget t xs)

all_forget : (t : ℕ) (l : List Status) → map forget (map (finished t) l) ≡ map (finished_unrested t) (map forget l)
all_forget t [] = refl
all_forget t (x ∷ xs) = ap₂ (λ a b. a ∷ b) (forget_finished t x) (all_forget t xs)

-- ---- what is done is done by the moment

-- if it is done, then since t or earlier
abbrev pub DoneBy : ℕ → Status → Type 0
DoneBy t waits = Unit {0}
DoneBy t (runs f) = Unit {0}
DoneBy t (is_over f) = f ≤ t

forget_rested : (t r : ℕ) (x : Status) → r ≡ 0 → DoneBy t x → has_rested t r x ≡ is_done (forget x)
forget_rested t r waits e h = refl
forget_rested t r (runs f) e h = refl
forget_rested t r (is_over f) e h = le-leb (f + r) t (omega arith)

finished_by : (t : ℕ) (x : Status) → DoneBy t x → DoneBy (suc t) (finished (suc t) x)
finished_by t waits h = tt
finished_by t (runs f) h = go (eqb f (suc t)) refl
  where
    go : (c : Bool) → eqb f (suc t) ≡ c → DoneBy (suc t) (cond c (is_over f) (runs f))
    go true e = omega (arith, eqb-true f (suc t) e)
    go false e = tt
finished_by t (is_over f) h = omega arith

all_finished : (t : ℕ) (l : List Status) → All (DoneBy t) l → All (DoneBy (suc t)) (map (finished (suc t)) l)
all_finished t [] h = tt
all_finished t (x ∷ xs) h = (finished_by t x h.0, all_finished t xs h.1)

none_done : (t n : ℕ) → All (DoneBy t) (map (finished t) (replicate n waits))
none_done t zero = tt
none_done t (suc n) = (tt, none_done t n)

all_at : {A : Type 0} (P : A → Type 0) (l : List A) (d : A) → P d → All P l → (k : ℕ) → P (get_or l k d)
all_at P [] d h g k = h
all_at P (x ∷ xs) d h g zero = g.0
all_at P (x ∷ xs) d h g (suc k) = all_at P xs d h g.1 k

all_set : {A : Type 0} (P : A → Type 0) (l : List A) (i : ℕ) (a : A) → P a → All P l → All P (set l i a)
all_set P [] i a h g = tt
all_set P (x ∷ xs) zero a h g = (h, g.1)
all_set P (x ∷ xs) (suc i) a h g = (g.0, all_set P xs i a h g.1)

module _ (js : List Job) (m : ℕ) (s : Scenario) where
  fill_done : (t n : ℕ) (l : List Status) → All (DoneBy t) l → All (DoneBy t) (fill js s t n l).statuses
  unfolding fill
  fill_done t zero l h = h
  fill_done t (suc n) l h =
      go (first_of js (ready js s t l) (length js)) (λ i. fill_done t n (set l i (runs (t + s.execution i))) (all_set (DoneBy t) l i (runs (t + s.execution i)) tt h))
    where
      go : (o : Option ℕ) → ((i : ℕ) → All (DoneBy t) (fill js s t n (set l i (runs (t + s.execution i)))).statuses)
          → All (DoneBy t) (if_some o (λ i. fill js s t n (set l i (runs (t + s.execution i)))) (record { statuses = l; free = suc n })).statuses
      go none r = h
      go (some i) r = r i

  -- in a run, what is done is done since the moment or earlier
  pub run_done : (t : ℕ) → All (DoneBy t) (run js m s t).statuses
  unfolding run steps
  run_done zero = fill_done 0 (m + count (finishes_at 0) (replicate (length js) waits)) (map (finished 0) (replicate (length js) waits)) (none_done 0 (length js))
  run_done (suc t) =
      fill_done (suc t) ((run js m s t).free + count (finishes_at (suc t)) (run js m s t).statuses) (map (finished (suc t)) (run js m s t).statuses)
      (all_finished t (run js m s t).statuses (run_done t))

-- ---- the run

-- a job that does not rest is ready as it was before
pub ready_unrested_holds : (js : List Job) (s : Scenario) (t : ℕ) (l : List Status) → All (DoneBy t) l → (i : ℕ) → (job js i).rest ≡ 0
    → ready js s t l i ≡ ready_unrested js s t (map forget l) i
unfolding ready ready_unrested
ready_unrested_holds js s t l h i e =
    ap₂ (λ (a b : Bool). a && (leb (s.release i) t && b)) (forget_waiting (status l i) ∙ ap is_waiting_unrested (sym (forget_look l i)))
    (every_same (λ w. has_rested t (rest_of js i w) (status l w)) (λ w. is_done (status_unrested (map forget l) w))
    (λ w. forget_rested t (rest_of js i w) (status l w) (rest_none js i e w) (all_at (DoneBy t) l waits tt h w) ∙ ap is_done (sym (forget_look l w))) (predecessors js i))

no_rest : (js : List Job) → ((i : ℕ) → i < length js → (job js i).rest ≡ 0) → (i : ℕ) → (job js i).rest ≡ 0
no_rest [] h i = refl
no_rest (x ∷ xs) h zero = h 0 (omega arith)
no_rest (x ∷ xs) h (suc i) = no_rest xs (λ k b. h (suc k) (omega arith)) i

first_same : (js : List Job) (p q : ℕ → Bool) → ((i : ℕ) → p i ≡ q i) → (n : ℕ) → first_of js p n ≡ first_of js q n
unfolding first_of
first_same js p q h zero = refl
first_same js p q h (suc n) = rw (h n, first_same js p q h n) refl

module _ (js : List Job) (m : ℕ) (s : Scenario) (none_rests : (i : ℕ) → i < length js → (job js i).rest ≡ 0) where
  fill_unrested_holds : (t n : ℕ) (l : List Status) → All (DoneBy t) l → forget_all (fill js s t n l) ≡ fill_unrested js s t n (map forget l)
  unfolding fill fill_unrested
  fill_unrested_holds t zero l h = refl
  fill_unrested_holds t (suc n) l h =
      rw (first_same js (ready js s t l) (ready_unrested js s t (map forget l)) (λ i. ready_unrested_holds js s t l h i (no_rest js none_rests i)) (length js))
      (go (first_of js (ready_unrested js s t (map forget l)) (length js))
      (λ i. fill_unrested_holds t n (set l i (runs (t + s.execution i))) (all_set (DoneBy t) l i (runs (t + s.execution i)) tt h)))
    where
      go : (o : Option ℕ)
          → ((i : ℕ) → forget_all (fill js s t n (set l i (runs (t + s.execution i)))) ≡ fill_unrested js s t n (map forget (set l i (runs (t + s.execution i)))))
          → forget_all (if_some o (λ i. fill js s t n (set l i (runs (t + s.execution i)))) (record { statuses = l; free = suc n }))
          ≡ if_some o (λ i. fill_unrested js s t n (set (map forget l) i (running (t + s.execution i)))) (record { statuses = map forget l; free = suc n })
      go none r = refl
      go (some i) r = r i ∙ ap (fill_unrested js s t n) (map_set forget l i (runs (t + s.execution i)))

  steps_unrested_holds : (t : ℕ) (x : Moment) → All (DoneBy t) (map (finished t) x.statuses) → forget_all (steps js s t x) ≡ steps_unrested js s t (forget_all x)
  unfolding steps steps_unrested
  steps_unrested_holds t x h =
      fill_unrested_holds t (x.free + count (finishes_at t) x.statuses) (map (finished t) x.statuses) h
      ∙ ap₂ (fill_unrested js s t) (ap (λ k. x.free + k) (count_forget t x.statuses)) (all_forget t x.statuses)

  -- Every run is that of the rule as it was, but for since when a job is done.
  pub run_unrested_holds : (t : ℕ) → forget_all (run js m s t) ≡ run_unrested js m s t
  unfolding run run_unrested
  run_unrested_holds zero =
      steps_unrested_holds 0 (beginning js m) (none_done 0 (length js))
      ∙ ap (λ l. steps_unrested js s 0 (record { statuses = l; free = m })) (map_replicate forget (length js) waits)
  run_unrested_holds (suc t) =
      steps_unrested_holds (suc t) (run js m s t) (all_finished t (run js m s t).statuses (run_done js m s t)) ∙ ap (steps_unrested js s (suc t)) (run_unrested_holds t)

  -- The horizon is the latest release and all executions.
  pub horizon_unrested : horizon js s ≡ largest_below s.release (length js) + sum s.execution (length js)
  unfolding horizon
  horizon_unrested =
      ap (λ k. largest_below s.release (length js) + k)
      (sum_ext (λ k. s.execution k + (job js k).rest) s.execution (length js) (λ k b. omega (arith, none_rests k b)))
