-- Laws of wake words: what a word says of the predecessors, how a look through them finds it, and which words a start changes. Assumes nothing.
use Prim.Native.Nat.{ℕ, zero, suc, ◌+◌, ◌-◌, ◌≤◌, ◌<◌, max}
use mathlib.Core.Path.{◌≡◌, refl, sym, ap, ◌∙◌}
use mathlib.Core.Logic.{◌⊎◌, inl, inr, ⊎_elim}
use mathlib.Core.Bool.{Bool, true, false, ◌&&◌, cond}
use mathlib.Core.List.{List, [], ◌∷◌}
use native.Mathlib.Decide.{ℕ_discrete}
use native.Mathlib.Omega.{arith}
use native.Mathlib.Numerals.{add-one}
use lib.Dec.{eqb, ltb}
use lib.ListN.{get_or, length, set, drop, drop_of_length-le}
use lib.Seq.{drop-cons, get_or-set_other}
use borrow.Author.Tests.{lt-ltb, eq-eqb, ne_eqb, eqb-false}
use Rattle.model.specs.Folds.{member, largest, all}
use Rattle.model.specs.Jobs.{Job, predecessors, rest_of}
use Rattle.model.specs.Dispatch.{Scenario}
use Rattle.model.proofs.Booleans.{cases}
use Rattle.model.proofs.Folds.{member_here, member_there, member_cases, not_in_nil}
use Rattle.model.proofs.Rests.{nearest_rested, rested_then_nearest}
use Rattle.jobs.specs.internal.Rests.{last_rest}
use Rattle.jobs.proofs.Rests.{none_rests, last_rests}
use Rattle.dispatch.specs.internal.Wakes.{asleep, wake_in, wake_of, woken_by, EachWakes}
use Rattle.dispatch.proofs.Choosing.{below_next}

-- the first n of these have started
abbrev pub StartedUpTo : List ℕ → List ℕ → ℕ → Type 0
StartedUpTo finishes ws n = (l : ℕ) → l < n → get_or finishes (get_or ws l 0) 0 ≡ 0 → ⊥

module _ (rest : ℕ → ℕ) (finishes : List ℕ) where
  abbrev finish : ℕ → ℕ
  finish w = get_or finishes w 0

  -- when a predecessor has rested
  abbrev rested : ℕ → ℕ
  rested w = finish w + rest w

  wake_head : (w : ℕ) (ws : List ℕ) (from : ℕ) (b : Bool) → eqb (finish w) 0 ≡ b
      → wake_in rest finishes (w ∷ ws) from ≡ cond b (asleep + w) (wake_in rest finishes ws (max from (rested w)))
  unfolding wake_in
  wake_head w ws from b e = ap (λ c. cond c (asleep + w) (wake_in rest finishes ws (max from (rested w)))) e

  -- ---- the word by how far the predecessors have started

  -- all before this one have, and this one has not
  pub wake_stops : (ws : List ℕ) (from l : ℕ) → l < length ws → StartedUpTo finishes ws l → finish (get_or ws l 0) ≡ 0 → wake_in rest finishes ws from ≡ asleep + get_or ws l 0
  wake_stops [] from l b f e = absurd (omega arith)
  wake_stops (w ∷ ws) from zero b f e = wake_head w ws from true (eq-eqb (finish w) 0 e)
  wake_stops (w ∷ ws) from (suc l) b f e =
      wake_head w ws from false (ne_eqb (finish w) 0 (f 0 (omega arith)))
      ∙ wake_stops ws (max from (rested w)) l (omega arith) (λ i h. f (suc i) (omega arith)) e

  -- all have
  pub wake_latest : (ws : List ℕ) (from : ℕ) → StartedUpTo finishes ws (length ws) → wake_in rest finishes ws from ≡ max from (largest all rested ws)
  unfolding wake_in largest
  wake_latest [] from f = omega arith
  wake_latest (w ∷ ws) from f =
      wake_head w ws from false (ne_eqb (finish w) 0 (f 0 (omega arith)))
      ∙ omega (arith, wake_latest ws (max from (rested w)) (λ i h. f (suc i) (omega arith)))

  -- ---- what a word says

  -- a job that is awake has predecessors that have started, and is ready when they have rested
  pub record Awake (ws : List ℕ) (from x : ℕ) : Type 0 where
    pub from_then : from ≤ x
    pub have_started : (w : ℕ) → member w ws ≡ true → (finish w ≡ 0 → ⊥) × (finish w + rest w ≤ x)

  pub awake : (ws : List ℕ) (from : ℕ) → wake_in rest finishes ws from < asleep → Awake ws from (wake_in rest finishes ws from)
  unfolding wake_in
  awake [] from h = record { from_then = omega arith; have_started = λ w i. absurd (not_in_nil w i) }
  awake (w ∷ ws) from h = go (eqb (finish w) 0) refl h (λ d. awake ws (max from (rested w)) d)
    where
      go : (b : Bool) → eqb (finish w) 0 ≡ b → cond b (asleep + w) (wake_in rest finishes ws (max from (rested w))) < asleep
          → (wake_in rest finishes ws (max from (rested w)) < asleep → Awake ws (max from (rested w)) (wake_in rest finishes ws (max from (rested w))))
          → Awake (w ∷ ws) from (cond b (asleep + w) (wake_in rest finishes ws (max from (rested w))))
      go true e d r = absurd (omega arith)
      go false e d r =
          let x = r d in
          record {
            from_then = omega (arith, x.from_then);
            have_started = λ v i. ⊎_elim (λ q. rw q (eqb-false (finish w) 0 e, omega (arith, x.from_then))) (λ q. x.have_started v q) (member_cases v w ws i);
          }

  -- where all have rested by a moment, the job is awake by then
  pub wakes_by : (ws : List ℕ) (from t : ℕ) → from ≤ t → ((w : ℕ) → member w ws ≡ true → (finish w ≡ 0 → ⊥) × (finish w + rest w ≤ t)) → wake_in rest finishes ws from ≤ t
  unfolding wake_in
  wakes_by [] from t h f = h
  wakes_by (w ∷ ws) from t h f =
      let x = f w (member_here w ws) in
      rw (ne_eqb (finish w) 0 x.0) (wakes_by ws (max from (rested w)) t (omega (arith, x.1)) (λ v i. f v (member_there v w ws i)))

  -- a word that waits for a job waits for a predecessor, where all times are smaller
  pub waits_for_holds : (ws : List ℕ) (from i : ℕ) → from < asleep → ((w : ℕ) → member w ws ≡ true → finish w + rest w < asleep) → wake_in rest finishes ws from ≡ asleep + i → member i ws ≡ true
  unfolding wake_in
  waits_for_holds [] from i h f e = absurd (omega arith)
  waits_for_holds (w ∷ ws) from i h f e = go (eqb (finish w) 0) refl e (λ d. waits_for_holds ws (max from (rested w)) i (omega (arith, f w (member_here w ws))) (λ v q. f v (member_there v w ws q)) d)
    where
      go : (b : Bool) → eqb (finish w) 0 ≡ b → cond b (asleep + w) (wake_in rest finishes ws (max from (rested w))) ≡ asleep + i
          → (wake_in rest finishes ws (max from (rested w)) ≡ asleep + i → member i ws ≡ true) → member i (w ∷ ws) ≡ true
      go true q d r = let same : i ≡ w = omega arith in rw same (member_here w ws)
      go false q d r = member_there i w ws (r d)

  -- a start changes no word but those that waited for the job that started
  pub wake_same : (i f : ℕ) → i < length finishes → finish i ≡ 0 → (ws : List ℕ) (from : ℕ) → (wake_in rest finishes ws from ≡ asleep + i → ⊥)
      → wake_in rest (set finishes i f) ws from ≡ wake_in rest finishes ws from
  unfolding wake_in
  wake_same i f b z [] from n = refl
  wake_same i f b z (w ∷ ws) from n = go (ℕ_discrete w i) (cases (eqb (finish w) 0)) (λ e. wake_same i f b z ws (max from (rested w)) e)
    where
      go : Dec (w ≡ i) → (eqb (finish w) 0 ≡ true) ⊎ (eqb (finish w) 0 ≡ false)
          → ((wake_in rest finishes ws (max from (rested w)) ≡ asleep + i → ⊥) → wake_in rest (set finishes i f) ws (max from (rested w)) ≡ wake_in rest finishes ws (max from (rested w)))
          → wake_in rest (set finishes i f) (w ∷ ws) from ≡ wake_in rest finishes (w ∷ ws) from
      go (yes d) c r = absurd (n (wake_head w ws from true (eq-eqb (finish w) 0 (ap finish d ∙ z)) ∙ ap (λ v. asleep + v) d))
      go (no d) (inl c) r = rw (get_or-set_other finishes i w f 0 d, c) refl
      go (no d) (inr c) r = rw (get_or-set_other finishes i w f 0 d, c) (r (λ e. n (wake_head w ws from false c ∙ e)))

-- ---- a look through the predecessors: first all finish times, then the rest of the last wait

module _ (finishes : List ℕ) where
  -- the first l have started, and `from` with the finish times that are left gives the latest of all
  pub record LookedAt (ws : List ℕ) (release l from : ℕ) : Type 0 where
    pub have_started : StartedUpTo finishes ws l
    pub latest : max from (largest all (λ w. get_or finishes w 0) (drop l ws)) ≡ max release (largest all (λ w. get_or finishes w 0) ws)

  module _ (ws : List ℕ) (release l from : ℕ) (so_far : LookedAt ws release l from) where
    -- one more has started
    pub looked_next : (w : ℕ) → l < length ws → w ≡ get_or ws l 0 → (get_or finishes w 0 ≡ 0 → ⊥) → LookedAt ws release (l + 1) (max from (get_or finishes w 0))
    unfolding largest
    looked_next w b is n =
        record {
          have_started = below_next (λ i. get_or finishes (get_or ws i 0) 0 ≡ 0 → ⊥) l so_far.have_started (λ e. n (ap (λ v. get_or finishes v 0) is ∙ e));
          latest =
              omega (
                arith,
                so_far.latest,
                ap (λ v. get_or finishes v 0) is,
                ap (largest all (λ w. get_or finishes w 0)) (drop-cons ws l 0 b),
                ap (λ i. largest all (λ w. get_or finishes w 0) (drop i ws)) (add-one l),
              );
        }

    -- all have
    pub looked_all : length ws ≤ l → StartedUpTo finishes ws (length ws) × (from ≡ max release (largest all (λ w. get_or finishes w 0) ws))
    unfolding largest
    looked_all h = (
      λ i b. so_far.have_started i (omega arith),
      omega (arith, so_far.latest, ap (largest all (λ w. get_or finishes w 0)) (drop_of_length-le ws {i = l} h)),
    )

module _ (js : List Job) (s : Scenario) (finishes : List ℕ) (j l from : ℕ) (looked : LookedAt finishes (predecessors js j) (s.release j) l from) where
  abbrev waits : List ℕ
  waits = predecessors js j

  -- the next has not started
  pub wake_waits : (w : ℕ) → l < length waits → w ≡ get_or waits l 0 → get_or finishes w 0 ≡ 0 → asleep + w ≡ wake_of js s finishes j
  unfolding wake_of
  wake_waits w b is e =
      ap (λ v. asleep + v) is ∙ sym (wake_stops (rest_of js j) finishes waits (s.release j) l b looked.have_started (ap (λ v. get_or finishes v 0) (sym is) ∙ e))

  -- all have
  module _ (through : length waits ≤ l) where
    wake_ends : wake_of js s finishes j ≡ max from (nearest_rested js j (λ w. get_or finishes w 0))
    unfolding wake_of
    wake_ends =
        let (started, latest) = looked_all finishes waits (s.release j) l from looked through in
        wake_latest (rest_of js j) finishes waits (s.release j) started ∙ omega (arith, latest, rested_then_nearest js j (λ w. get_or finishes w 0))

    pub wake_unrested : last_rest js j ≡ 0 → from ≡ wake_of js s finishes j
    wake_unrested e = sym (wake_ends ∙ omega (arith, none_rests js j (λ w. get_or finishes w 0) e))

    pub wake_rested : (count w rest : ℕ) → count ≡ length waits → w ≡ get_or waits (count - 1) 0 → rest ≡ last_rest js j → (rest ≡ 0 → ⊥)
        → max from (get_or finishes w 0 + rest) ≡ wake_of js s finishes j
    wake_rested count w rest many is r n =
        rw (is, many, r) (sym (wake_ends ∙ ap (max from) (last_rests js j (λ w. get_or finishes w 0) (λ e. n (r ∙ e)))))

-- ---- words written one by one

-- the words below n are these, and those from n on as they were
pub record WokenUpTo (f : ℕ → ℕ) (before : List ℕ) (n : ℕ) (wakes : List ℕ) : Type 0 where
  pub done : EachWakes f n wakes
  pub rest : (j : ℕ) → n ≤ j → get_or wakes j 0 ≡ get_or before j 0

module _ (js : List Job) (s : Scenario) (finishes before : List ℕ) (i : ℕ) where
  abbrev woken : ℕ → ℕ
  woken = woken_by js s finishes before i

  pub woken_anew : (j : ℕ) → i < j → get_or before j 0 ≡ asleep + i → woken j ≡ wake_of js s finishes j
  woken_anew j h e = rw (lt-ltb i j h, eq-eqb (get_or before j 0) (asleep + i) e) refl

  pub woken_as_before : (j : ℕ) → (get_or before j 0 ≡ asleep + i → ⊥) → woken j ≡ get_or before j 0
  woken_as_before j n = rw (ne_eqb (get_or before j 0) (asleep + i) n) (go (ltb i j))
    where
      go : (b : Bool) → cond (b && false) (wake_of js s finishes j) (get_or before j 0) ≡ get_or before j 0
      go true = refl
      go false = refl
