-- Level 0 in words: all of them are zero. Assumes nothing.
use Prim.Native.Nat.{ℕ, zero, suc, ◌+◌, ◌*◌, ◌-◌, ◌/◌, ◌^◌, ◌≤◌, ◌<◌}
use mathlib.Core.Path.{◌≡◌, refl, sym, ap, ◌∙◌, subst}
use mathlib.Core.List.{List, [], ◌∷◌}
use native.Mathlib.Nat.{zero-div, zero-mul, one-mul, mul-add, mul-le-mul_right, div-mul-le_self}
use native.Mathlib.Omega.{arith}
use lib.ListN.{length, get_or, drop, replicate, length-replicate}
use lib.Pow.{pow_pos}
use lib.Seq.{ext_get_or}
use borrow.Author.Tests.{le-ltb, lt-ltb}
use borrow.Rule.Slice.PartMut.{put_mid}
use Rattle.model.specs.Folds.{count}
use Rattle.model.specs.Limits.{most_jobs, latest_time}
use Rattle.model.specs.Jobs.{Job}
use Rattle.model.specs.States.{Range, empty, is_range, State, initial}
use Rattle.model.specs.Exploration.{going, full, limited, explored, Verdict, refused, analysis, state_words, capacity}
use Rattle.model.proofs.Folds.{get_or_same}
use Rattle.model.proofs.Bounds.{initial_bounded}
use Rattle.model.specs.internal.Bounds.{TimedUpTo, Bounded}
use Rattle.words.specs.Tabulate.{tabulate}
use Rattle.words.proofs.Tabulate.{tabulate_is}
use Rattle.words.proofs.Parts.{part_length, part_get, part_same, length_put, drop_after}
use Rattle.words.specs.internal.Parts.{part}
use Rattle.jobs.specs.internal.JobRow.{jobs_of_rows}
use Rattle.jobs.proofs.Jobs.{length_jobs}
use Rattle.states.specs.internal.Slots.{possibly_at, certainly_at, set_of, range_at, state_of, slot_of, states_of, Sound}
use Rattle.states.proofs.Frames.{same_state}
use Rattle.steps.specs.internal.Observed.{observed_words, observed_at, observed_of, Observed}
use Rattle.steps.specs.internal.Progress.{Half}
use Rattle.analysis.proofs.Halves.{part_part}
use Rattle.analysis.proofs.LevelsBuilt.{stops}

-- n words of 0
abbrev pub zeros : ℕ → List ℕ
zeros n = replicate n 0

abbrev at_zero : (n i : ℕ) → get_or (zeros n) i 0 ≡ 0
at_zero n i = get_or_same {A = ℕ} n i 0

-- ---- the initial state

zeros_part : (n b m : ℕ) → b + m ≤ n → part b m (zeros n) ≡ zeros m
zeros_part n b m h =
    let l = part_length b m (zeros n) (omega (arith, length-replicate {A = ℕ} n 0)) in
    ext_get_or 0 (part b m (zeros n)) (zeros m) (l ∙ sym (length-replicate {A = ℕ} m 0))
    (λ i c. part_get b m (zeros n) i (omega (arith, l, c)) ∙ at_zero n (b + i) ∙ sym (at_zero m i))

zeros_set : (n : ℕ) → set_of (zeros n) ≡ 0
unfolding set_of
zeros_set n = rw (at_zero n 0, at_zero n 1)

module _ (m k : ℕ) where
  abbrev W : ℕ
  W = state_words m k

  zeros_state : state_of m k (zeros W) ≡ initial m k
  unfolding state_of range_at
  zeros_state =
      same_state
      (tabulate_is (range_at m k (zeros W)) k (replicate k empty) empty (length-replicate k empty) (λ i h. rw (zeros_set W, zero-div (2 ^ i)) (sym (get_or_same k i empty))))
      (zeros_part W possibly_at m (omega arith)) (zeros_part W (certainly_at m) m (omega arith))

  zeros_sound : (rows : List ℕ) → TimedUpTo latest_time (jobs_of_rows rows k) → Sound (jobs_of_rows rows k) m k (zeros W)
  zeros_sound rows t =
      record {
        set_fits = rw (zeros_set W) (pow_pos k);
        bounded =
            subst (Bounded (jobs_of_rows rows k) latest_time) (ap (initial m) (length_jobs rows k) ∙ sym zeros_state) (initial_bounded (jobs_of_rows rows k) latest_time t m);
      }

-- ---- nothing observed

zeros_observed : (k n : ℕ) → observed_of k (zeros n) ≡ replicate k empty
unfolding observed_of
zeros_observed k n =
    tabulate_is (observed_at (zeros n)) k (replicate k empty) empty (length-replicate k empty)
    (λ i h. rw (at_zero n (most_jobs + i)) (sym (get_or_same k i empty)))

-- zeros say that nothing was observed
pub nothing_observed : {k : ℕ} {seen : List ℕ} → seen ≡ zeros observed_words → Observed k seen
nothing_observed e =
    record {
      long = ap length e ∙ length-replicate {A = ℕ} observed_words 0;
      beyond = λ i h g. (ap (λ (z : List ℕ). get_or z i 0) e ∙ at_zero observed_words i, ap (λ (z : List ℕ). get_or z (most_jobs + i) 0) e ∙ at_zero observed_words (most_jobs + i));
    }

-- ---- the first level

none_started : (k : ℕ) → count is_range (replicate k empty) ≡ 0
unfolding count
none_started zero = refl
none_started (suc k) = omega (arith, none_started k)

positive : (n : ℕ) → (n ≡ 0 → ⊥) → 1 ≤ n
positive zero h = absurd (h refl)
positive (suc n) h = omega arith

twice : (w : ℕ) → 2 * w ≡ w + w
twice w = omega arith

-- by what the code takes for the words of a state
module _ (rows : List ℕ) (k m : ℕ) (table : List ℕ) {w : ℕ} (wide : w ≡ state_words m k) where
  abbrev js : List Job
  js = jobs_of_rows rows k

  abbrev width : ℕ
  width = state_words m k

  abbrev cap : ℕ
  cap = length table / (2 * w)

  -- the analysis gives this answer, and words past both halves are as they were
  abbrev Answered : Verdict → List ℕ → List ℕ → Type 0
  Answered a t seen =
      (a ≡ analysis js m (capacity (length table) m k))
      × (Observed k seen × (drop (2 * (capacity (length table) m k * width)) t ≡ drop (2 * (capacity (length table) m k * width)) table))

  by_capacity : cap ≡ capacity (length table) m k
  by_capacity = ap (λ (z : ℕ). length table / (2 * z)) wide

  -- with no room for one state, level 0 is full
  pub no_room : {seen : List ℕ} → Observed k seen → cap ≡ 0 → Answered (refused 13 0) table seen
  unfolding explored limited
  no_room o e =
      let n : capacity (length table) m k ≡ 0 = sym by_capacity ∙ e in
      (stops js m (capacity (length table) m k) 0 (full 0) tt (omega arith) (rw (lt-ltb (capacity (length table) m k) 1 (omega (arith, n)), none_started (length js))), (o, refl))

  module _ (room : cap ≡ 0 → ⊥) where
    -- a half has room for a state
    pub room_for_one : 1 ≤ cap
    room_for_one = positive cap room

    halves_fit : 2 * (cap * width) ≤ length table
    halves_fit =
        let e : cap * (2 * w) ≡ cap * width + cap * width = ap (λ (z : ℕ). cap * (2 * z)) wide ∙ ap (λ (z : ℕ). cap * z) (twice width) ∙ mul-add cap width width in
        omega (arith, e, div-mul-le_self (length table) (2 * w))

    one_fits : width ≤ cap * width
    one_fits = omega (arith, mul-le-mul_right width room_for_one, one-mul width)

    -- the table with its first state cleared
    module _ {first : List ℕ} (blank : first ≡ zeros (length (part 0 (w - 0) table))) where
      abbrev cleared : List ℕ
      cleared = put_mid 0 (w - 0) table first

      spans : w - 0 ≡ width
      spans = omega (arith, wide)

      inside : 0 + width ≤ length table
      inside = omega (arith, one_fits, halves_fit)

      first_zeros : first ≡ zeros width
      first_zeros = blank ∙ ap (λ (z : ℕ). zeros (length (part 0 z table))) spans ∙ ap zeros (part_length 0 width table inside)

      first_long : length first ≡ width
      first_long = ap length first_zeros ∙ length-replicate {A = ℕ} width 0

      sized : cleared ≡ put_mid 0 width table first
      sized = ap (λ (z : ℕ). put_mid 0 z table first) spans

      long : length cleared ≡ length table
      long = ap length sized ∙ length_put 0 width table first inside first_long

      -- both halves lie in the cleared table
      pub cleared_room : 2 * (cap * width) ≤ length cleared
      cleared_room = omega (arith, long, halves_fit)

      slot : slot_of m k (part 0 (cap * width) cleared) 0 ≡ zeros width
      slot =
          ap (λ (z : ℕ). part z width (part 0 (cap * width) cleared)) (zero-mul width)
          ∙ part_part 0 (cap * width) 0 width cleared (omega (arith, one_fits)) (omega (arith, long, halves_fit))
          ∙ ap (part 0 width) sized ∙ part_same 0 width table first inside first_long ∙ first_zeros

      -- the lower half holds one state
      pub first_half : TimedUpTo latest_time js → Half js m k cap (part 0 (cap * width) cleared) 1
      first_half timed =
          record {
            long = part_length 0 (cap * width) cleared (omega (arith, long, halves_fit));
            room = room_for_one;
            sound = λ j h. rw (only j h) (rw slot (zeros_sound m k rows timed));
          }
        where
          only : (j : ℕ) → j < 1 → j ≡ 0
          only j h = omega arith

      -- it is level 0 of the definition
      pub first_level : {seen : List ℕ} → seen ≡ zeros observed_words → going (states_of m k (part 0 (cap * width) cleared) 1) (observed_of k seen) 1 ≡ explored js m cap 0
      unfolding states_of tabulate explored limited
      first_level {seen} none =
          rw (le-ltb cap 1 room_for_one, length_jobs rows k)
          (ap (λ (σ : State). going (σ ∷ []) (observed_of k seen) 1) (ap (state_of m k) slot ∙ zeros_state m k)
          ∙ ap (λ (l : List Range). going (initial m k ∷ []) l 1) (ap (observed_of k) none ∙ zeros_observed k observed_words))

      -- what the levels answer is the answer for the whole table
      pub answered : {a : Verdict} {seen : List ℕ} (t : List ℕ) → a ≡ analysis js m cap → Observed k seen → drop (2 * (cap * width)) t ≡ drop (2 * (cap * width)) cleared → Answered a t seen
      answered {a} {seen} t e o d =
          let p : drop (2 * (cap * width)) t ≡ drop (2 * (cap * width)) table =
          d ∙ ap (drop (2 * (cap * width))) sized ∙ drop_after 0 width table first inside first_long (2 * (cap * width)) (omega (arith, one_fits)) in
          subst (λ (z : ℕ). (a ≡ analysis js m z) × (Observed k seen × (drop (2 * (z * width)) t ≡ drop (2 * (z * width)) table))) by_capacity (e, (o, p))
