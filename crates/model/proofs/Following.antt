-- A run followed from start to start, for proofs of code: nothing changes until a core is free and a job is ready, and then the first by priority starts.
-- Assumes nothing.
use Prim.Native.Nat.{ℕ, zero, suc, ◌+◌, ◌-◌, ◌≤◌, ◌<◌}
use mathlib.Core.Path.{◌≡◌, refl, sym, ◌∙◌, subst}
use mathlib.Core.Logic.{⊎_elim}
use mathlib.Core.Bool.{true, true≢false}
use mathlib.Core.List.{List, map}
use mathlib.Core.Option.{some}
use native.Mathlib.Decide.{ℕ_discrete}
use native.Mathlib.Omega.{arith}
use lib.ListN.{length, set}
use Rattle.model.specs.Jobs.{Job, before}
use Rattle.model.specs.Dispatch.{Scenario, ready, run}
use Rattle.model.specs.Guarantee.{WellFormed, Admissible}
use Rattle.model.specs.Playing.{horizon, start_time, finish_time}
use Rattle.model.proofs.Priority.{first_is}
use Rattle.model.proofs.History.{Entry, ran, entry, has_started, view, busy, Ready, ready_out, ready_in}
use Rattle.model.proofs.Run.{none_started, first_ready, next_cases, After, Going, taken, going_first, going_start, going_full, going_none, going_next}
use Rattle.model.proofs.Progress.{Shrinks, shrinks, start_within}
use Rattle.model.proofs.Whole.{entry_is}

module _ (js : List Job) (m : ℕ) (s : Scenario) where
  -- The run at t, before the starts that are left there.
  pub record Stage (t : ℕ) (h : List Entry) : Type 0 where
    pub going : Going js m s t (m - busy t h) h
    pub shrinks : Shrinks js s t h

  -- at v no core is free, or no job is ready
  abbrev pub NoStart : ℕ → List Entry → Type 0
  NoStart v h = (j : ℕ) → j < length js → Ready js s v h j → m ≤ busy v h

  module _ (wf : WellFormed js m) (adm : Admissible js s) where
    stage_of : (t n : ℕ) (h : List Entry) → Going js m s t n h → Shrinks js s t h → Stage t h
    stage_of t n h g q =
        let e : n ≡ m - busy t h = omega (arith, g.cores) in
        record { going = subst (λ n. Going js m s t n h) e g; shrinks = q }

    pub stage_first : Stage 0 (none_started js)
    stage_first = stage_of 0 m (none_started js) (going_first js m s wf adm) (shrinks js s m wf adm).begins

    -- with no further start the steps at t are done
    stage_after : (t : ℕ) (h : List Entry) → Stage t h → NoStart t h → After js m s t h (run js m s t)
    stage_after t h x still = go (m - busy t h) x.going
      where
        go : (n : ℕ) → Going js m s t n h → After js m s t h (run js m s t)
        go zero g = going_full js m s wf adm t h g
        go (suc n) g =
            ⊎_elim (λ e. going_none js m s wf adm t n h g e)
            (λ e. let start = taken js m s wf adm t n h g e.0 e.1 in absurd (omega (arith, still e.0 start.inside start.is, start.room)))
            (next_cases (first_ready js s t (map (view t) h)))

    -- to a later moment, with no start before it
    stage_later : (t u : ℕ) (h : List Entry) → t ≤ u → Stage t h → ((v : ℕ) → t ≤ v → v < u → NoStart v h) → Stage u h
    stage_later t zero h l x still = let e : t ≡ 0 = omega arith in subst (λ v. Stage v h) e x
    stage_later t (suc u) h l x still = go (ℕ_discrete t (suc u)) (λ c. stage_later t u h c x (λ v p q. still v p (omega arith)))
      where
        go : Dec (t ≡ suc u) → (t ≤ u → Stage u h) → Stage (suc u) h
        go (yes e) r = subst (λ v. Stage v h) e x
        go (no d) r =
            let c : t ≤ u = omega arith in
            let y = r c in
            let after = stage_after u h y (still u c (omega arith)) in
            stage_of (suc u) _ h (going_next js m s wf adm u h after) ((shrinks js s m wf adm).passes u h after.inv y.shrinks)

    -- where a core is free and a job is ready, the first by priority starts, and finishes by the horizon
    pub stage_start : (t u : ℕ) (h : List Entry) → t ≤ u → Stage t h → ((v : ℕ) → t ≤ v → v < u → NoStart v h) → busy u h < m → (i : ℕ) → i < length js → Ready js s u h i
        → ((j : ℕ) → j < length js → Ready js s u h j → before js j i ≡ true → ⊥)
        → Stage u (set h i (ran u (u + s.execution i))) × (u + s.execution i ≤ horizon js s)
    stage_start t u h l x still room i inside is firstly = go (m - busy u h) refl y.going
      where
        y : Stage u h
        y = stage_later t u h l x still

        go : (n : ℕ) → m - busy u h ≡ n → Going js m s u n h → Stage u (set h i (ran u (u + s.execution i))) × (u + s.execution i ≤ horizon js s)
        go zero e g = absurd (omega arith)
        go (suc n) e g =
            let first : first_ready js s u (map (view u) h) ≡ some i =
            first_is js (ready js s u (map (view u) h)) (length js) i inside (ready_in js s u h g.inv.begun i is) (λ j b r. firstly j b (ready_out js s u h g.inv.begun j r)) in
            let start = taken js m s wf adm u n h g i first in (
              stage_of u n (set h i (ran u (u + s.execution i))) (going_start js m s wf adm u n h g i first) ((shrinks js s m wf adm).starts u h i start y.shrinks),
              start_within js s m wf adm u h i start y.shrinks,
            )

    -- once all have started, the history is that of the whole run
    pub stage_over : (t : ℕ) (h : List Entry) → Stage t h → ((k : ℕ) → k < length js → has_started (entry h k) ≡ true) → (k : ℕ) → k < length js
        → entry h k ≡ ran (start_time js m s k) (finish_time js m s k)
    stage_over t h x all k l =
        entry_is js m s wf adm t h (stage_after t h x (λ j b r. absurd (true≢false (sym (all j b) ∙ r.fresh)))) k l (all k l)
