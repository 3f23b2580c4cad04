-- A history of a run: when each job started, and when it finishes. The statuses of the run at any moment are a view of it. Assumes nothing.
use Prim.Native.Nat.{ℕ, suc, ◌+◌, ◌≤◌, ◌<◌}
use mathlib.Core.Path.{◌≡◌, refl, sym, ap, ◌∙◌}
use mathlib.Core.Logic.{◌⊎◌, inl, inr, ⊎_elim}
use mathlib.Core.Bool.{Bool, true, false, not, ◌&&◌, cond, false≢true, true≢false}
use mathlib.Core.List.{List, map}
use native.Mathlib.Omega.{arith}
use lib.Dec.{ltb, leb}
use lib.ListN.{get_or, length, set, get_or-map}
use borrow.Author.Tests.{lt-ltb, le-ltb, leb-true, leb-false, le-leb, eq-eqb, ne_eqb, not-true}
use Rattle.model.specs.Folds.{ind, count, every, member}
use Rattle.model.specs.Jobs.{Job, predecessors, rest_of}
use Rattle.model.specs.Dispatch.{Scenario, Status, waiting, running, done, status, is_waiting, has_rested, finishes_at, finished, ready}
use Rattle.model.specs.Guarantee.{status_at}
use Rattle.model.proofs.Booleans.{cases, and_left, and_right, and_both}
use Rattle.model.proofs.Folds.{every_in, every_out, count_set}

-- what is known of a job: it has not started, or when it started and when it finishes
pub data Entry : Type 0 where
  unstarted : Entry
  ran : ℕ → ℕ → Entry

-- the entry of job k
abbrev pub entry : List Entry → ℕ → Entry
entry h k = get_or h k unstarted

-- whether the job has started
abbrev pub has_started : Entry → Bool
has_started unstarted = false
has_started (ran a f) = true

-- its status once the steps at t are done
abbrev pub view : ℕ → Entry → Status
view t unstarted = waiting
view t (ran a f) = status_at a f t

-- it started, and finishes after t
abbrev pub runs_past : ℕ → Entry → Bool
runs_past t unstarted = false
runs_past t (ran a f) = ltb t f

-- how many started jobs finish after t
abbrev pub busy : ℕ → List Entry → ℕ
busy t h = count (runs_past t) h

-- it started, and at t has been done for r
abbrev pub Rested : ℕ → ℕ → Entry → Type 0
Rested t r unstarted = ⊥
Rested t r (ran a f) = f + r ≤ t

-- it started, and finishes by t
abbrev pub Finished : ℕ → Entry → Type 0
Finished t unstarted = ⊥
Finished t (ran a f) = f ≤ t

-- if it started, then by t, and it takes time
abbrev pub Begun : ℕ → Entry → Type 0
Begun t unstarted = Unit {0}
Begun t (ran a f) = (a ≤ t) × (a < f)

-- ---- what a view shows

pub view_begun : (t a f : ℕ) → a ≤ t → status_at a f t ≡ cond (ltb t f) (running f) (done f)
unfolding status_at
view_begun t a f h = rw (le-ltb t a h) refl

view_waiting : (t : ℕ) (e : Entry) → Begun t e → is_waiting (view t e) ≡ not (has_started e)
view_waiting t unstarted b = refl
view_waiting t (ran a f) b = rw (view_begun t a f b.0) (go (ltb t f))
  where
    go : (c : Bool) → is_waiting (cond c (running f) (done f)) ≡ false
    go true = refl
    go false = refl

view_rested : (t r : ℕ) (e : Entry) → Begun t e → has_rested t r (view t e) ≡ true → Rested t r e
view_rested t r unstarted b d = absurd (false≢true d)
view_rested t r (ran a f) b d = go (ltb t f) (ap (has_rested t r) (sym (view_begun t a f b.0)) ∙ d)
  where
    go : (c : Bool) → has_rested t r (cond c (running f) (done f)) ≡ true → f + r ≤ t
    go true e = absurd (false≢true e)
    go false e = leb-true (f + r) t e

rested_view : (t r : ℕ) (e : Entry) → Begun t e → Rested t r e → has_rested t r (view t e) ≡ true
rested_view t r unstarted b x = absurd x
rested_view t r (ran a f) b x = rw (view_begun t a f b.0, le-ltb t f (omega arith)) (le-leb (f + r) t x)

-- ---- rests

-- what has rested for a while has rested for less
pub rested_less : (t r r' : ℕ) (e : Entry) → r ≤ r' → Rested t r' e → Rested t r e
rested_less t r r' unstarted h x = x
rested_less t r r' (ran a f) h x = omega arith

-- what has rested has started
pub rested_started : (t r : ℕ) (x : Entry) → Rested t r x → has_started x ≡ true
rested_started t r unstarted g = absurd g
rested_started t r (ran a f) g = refl

-- what has not started has not rested
pub fresh_unrested : (u r : ℕ) (x : Entry) → has_started x ≡ false → Rested u r x → ⊥
fresh_unrested u r unstarted e g = g
fresh_unrested u r (ran a f) e g = true≢false e

-- ---- from one moment to the next

-- a job that started finishes by t, at t + 1, or later
abbrev Finishes : ℕ → ℕ → Type 0
Finishes t f = (f ≤ t) ⊎ ((f ≡ suc t) ⊎ (suc t < f))

finishes : (t f : ℕ) → Finishes t f
finishes t f =
    ⊎_elim (λ e. inl (leb-true f t e))
    (λ e. ⊎_elim (λ d. inr (inl (omega (arith, leb-false f t e, leb-true f (suc t) d)))) (λ d. inr (inr (leb-false f (suc t) d))) (cases (leb f (suc t)))) (cases (leb f t))

abbrev Passes : ℕ → Entry → Type 0
Passes t e = (finished (suc t) (view t e) ≡ view (suc t) e) × (ind (finishes_at (suc t) (view t e)) + ind (runs_past (suc t) e) ≡ ind (runs_past t e))

-- the view follows the dispatch rule, and the cores freed are those of the jobs that finish
pub view_passes : (t : ℕ) (e : Entry) → Begun t e → Passes t e
view_passes t unstarted b = (refl, refl)
view_passes t (ran a f) b = rw (view_begun t a f b.0, view_begun (suc t) a f (omega (arith, b.0))) (go (finishes t f))
  where
    go : Finishes t f
        → (finished (suc t) (cond (ltb t f) (running f) (done f)) ≡ cond (ltb (suc t) f) (running f) (done f))
        × (ind (finishes_at (suc t) (cond (ltb t f) (running f) (done f))) + ind (ltb (suc t) f) ≡ ind (ltb t f))
    go (inl h) = rw (le-ltb t f h, le-ltb (suc t) f (omega arith)) (refl, refl)
    go (inr (inl h)) = rw (lt-ltb t f (omega arith), le-ltb (suc t) f (omega arith), eq-eqb f (suc t) h) (refl, refl)
    go (inr (inr h)) = rw (lt-ltb t f (omega arith), lt-ltb (suc t) f h, ne_eqb f (suc t) (λ e. omega arith)) (refl, refl)

-- ---- a start

-- what has finished has started
pub finished_started : (t : ℕ) (x : Entry) → Finished t x → has_started x ≡ true
finished_started t unstarted f = absurd f
finished_started t (ran a f) l = refl

-- what has not started is waiting
pub fresh_waiting : (u : ℕ) (x : Entry) → has_started x ≡ false → view u x ≡ waiting
fresh_waiting u unstarted e = refl
fresh_waiting u (ran a f) e = absurd (true≢false e)

fresh_idle : (u : ℕ) (x : Entry) → has_started x ≡ false → ind (runs_past u x) ≡ 0
fresh_idle u unstarted e = refl
fresh_idle u (ran a b) e = absurd (true≢false e)

-- a job that starts is busy until it finishes
pub busy_start : (u : ℕ) (h : List Entry) (i a f : ℕ) → i < length h → has_started (entry h i) ≡ false → busy u (set h i (ran a f)) ≡ busy u h + ind (ltb u f)
busy_start u h i a f b e = omega (arith, count_set (runs_past u) h i (ran a f) unstarted b, fresh_idle u (entry h i) e)

-- ---- readiness

-- the job has not started, was released by t, and at t its predecessors have been done for as long as it asks of each
pub record Ready (js : List Job) (s : Scenario) (t : ℕ) (h : List Entry) (i : ℕ) : Type 0 where
  pub fresh : has_started (entry h i) ≡ false
  pub released : s.release i ≤ t
  pub served : (w : ℕ) → member w (predecessors js i) ≡ true → Rested t (rest_of js i w) (entry h w)

-- before p, no core was free while a job was ready
abbrev pub Idle : List Job → ℕ → Scenario → ℕ → List Entry → Type 0
Idle js m s p h = (u : ℕ) → u < p → (j : ℕ) → j < length js → Ready js s u h j → m ≤ busy u h

module _ (js : List Job) (s : Scenario) (t : ℕ) (h : List Entry) (begun : (k : ℕ) → Begun t (entry h k)) (i : ℕ) where
  look : (k : ℕ) → status (map (view t) h) k ≡ view t (entry h k)
  look k = get_or-map (view t) h k unstarted

  abbrev statuses : List Status
  statuses = map (view t) h

  abbrev waits : Bool
  waits = is_waiting (status statuses i)

  abbrev is_served : Bool
  is_served = every (λ w. has_rested t (rest_of js i w) (status statuses w)) (predecessors js i)

  -- a job that is ready in the view is ready in the history
  pub ready_out : ready js s t (map (view t) h) i ≡ true → Ready js s t h i
  unfolding ready
  ready_out e =
      let both = and_right waits (leb (s.release i) t && is_served) e in
      record {
        fresh = not-true (has_started (entry h i)) (sym (view_waiting t (entry h i) (begun i)) ∙ ap is_waiting (sym (look i)) ∙ and_left waits (leb (s.release i) t && is_served) e);
        released = leb-true (s.release i) t (and_left (leb (s.release i) t) is_served both);
        served = λ w q. view_rested t (rest_of js i w) (entry h w) (begun w)
            (ap (has_rested t (rest_of js i w)) (sym (look w))
            ∙ every_out (λ w. has_rested t (rest_of js i w) (status statuses w)) (predecessors js i) (and_right (leb (s.release i) t) is_served both) w q);
      }

  -- and a job that is ready in the history is so in the view
  pub ready_in : Ready js s t h i → ready js s t (map (view t) h) i ≡ true
  unfolding ready
  ready_in r =
      and_both waits (leb (s.release i) t && is_served) (ap is_waiting (look i) ∙ view_waiting t (entry h i) (begun i) ∙ ap not r.fresh)
      (and_both (leb (s.release i) t) is_served (le-leb (s.release i) t r.released)
      (every_in (λ w. has_rested t (rest_of js i w) (status statuses w)) (predecessors js i)
      (λ w q. ap (has_rested t (rest_of js i w)) (look w) ∙ rested_view t (rest_of js i w) (entry h w) (begun w) (r.served w q))))
