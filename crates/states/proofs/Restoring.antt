-- A state before a job started is told by its front and the finish times after. Assumes nothing.
use Prim.Native.Nat.{ℕ, ◌+◌, ◌≤◌, ◌<◌}
use mathlib.Core.Path.{◌≡◌, refl, sym, ap, ◌∙◌}
use mathlib.Core.Bool.{false}
use mathlib.Core.List.{List, ◌++◌}
use native.Mathlib.Decide.{ℕ_discrete}
use native.Mathlib.Omega.{arith}
use lib.ListN.{length, take, drop, get_or}
use lib.Seq.{length-take-le, take_at, drop_at, get_or-take, get_or-drop}
use Rattle.model.specs.States.{empty, started}
use Rattle.words.proofs.Tabulate.{tabulate_ext}
use Rattle.words.proofs.Parts.{part_take}
use Rattle.words.specs.internal.Parts.{part}
use Rattle.states.specs.internal.Slots.{possibly_at, certainly_at, earliest_at, latest_at, set_of, in_set, range_at, state_of}
use Rattle.states.specs.internal.Writing.{OtherFinishesKept, Restored}
use Rattle.states.proofs.Contents.{started_at}
use Rattle.states.proofs.Frames.{same_state, same_set_words, same_range}

-- a job outside the set has no range
no_range : (m k : ℕ) (ws : List ℕ) (i : ℕ) → in_set (set_of ws) i ≡ false → range_at m k ws i ≡ empty
unfolding range_at
no_range m k ws i p = rw p refl

module _ (m k i : ℕ) (ws vs front : List ℕ) (h : i < k) (long : earliest_at m ≤ length front) (waits : started (state_of m k ws) i ≡ false) (others : OtherFinishesKept m k i ws vs) (same : take (earliest_at m) front ≡ take (earliest_at m) ws) where
  abbrev back : List ℕ
  back = take (earliest_at m) front ++ drop (earliest_at m) vs

  front_length : length (take (earliest_at m) front) ≡ earliest_at m
  front_length = length-take-le (earliest_at m) front long

  back_front : take (earliest_at m) back ≡ take (earliest_at m) ws
  back_front = take_at (take (earliest_at m) front) (drop (earliest_at m) vs) (earliest_at m) front_length ∙ same

  early_word : (j : ℕ) → j < earliest_at m → get_or back j 0 ≡ get_or ws j 0
  early_word j b = sym (get_or-take (earliest_at m) back j 0 b) ∙ ap (λ (z : List ℕ). get_or z j 0) back_front ∙ get_or-take (earliest_at m) ws j 0 b

  late_word : (j : ℕ) → get_or back (earliest_at m + j) 0 ≡ get_or vs (earliest_at m + j) 0
  late_word j =
      sym (get_or-drop (earliest_at m) back j 0) ∙ ap (λ (z : List ℕ). get_or z j 0) (drop_at (take (earliest_at m) front) (drop (earliest_at m) vs) (earliest_at m) front_length)
      ∙ get_or-drop (earliest_at m) vs j 0

  latest_word : (j : ℕ) → get_or back (latest_at m k + j) 0 ≡ get_or vs (latest_at m k + j) 0
  latest_word j = let e : earliest_at m + (k + j) ≡ latest_at m k + j = omega arith in rw e at (late_word (k + j))

  early_part : (b : ℕ) → b + m ≤ earliest_at m → part b m back ≡ part b m ws
  early_part b g = sym (part_take b m (earliest_at m) back g) ∙ ap (part b m) back_front ∙ part_take b m (earliest_at m) ws g

  back_set : set_of back ≡ set_of ws
  back_set = same_set_words back ws (early_word 0 (omega arith)) (early_word 1 (omega arith))

  back_range : (j : ℕ) → j < k → range_at m k back j ≡ range_at m k ws j
  back_range j b = go (ℕ_discrete j i)
    where
      bit : in_set (set_of back) j ≡ in_set (set_of ws) j
      bit = ap (λ (x : ℕ). in_set x j) back_set

      go : Dec (j ≡ i) → range_at m k back j ≡ range_at m k ws j
      go (yes z) =
          let out : in_set (set_of ws) j ≡ false = ap (in_set (set_of ws)) z ∙ sym (started_at m k ws i h) ∙ waits in
          no_range m k back j (bit ∙ out) ∙ sym (no_range m k ws j out)
      go (no z) = same_range m k back ws j bit (late_word j ∙ (others j b z).0) (latest_word j ∙ (others j b z).1)

  back_state : state_of m k back ≡ state_of m k ws
  unfolding state_of
  back_state =
      same_state (tabulate_ext (range_at m k back) (range_at m k ws) 0 k (λ j b. back_range (0 + j) (omega arith)))
      (early_part possibly_at (omega arith)) (early_part (certainly_at m) (omega arith))

-- the front of the state, before the finish times once a job has started that had not, is the state again
pub restored : (m k i : ℕ) (ws vs front : List ℕ) → i < k → earliest_at m ≤ length front
    → started (state_of m k ws) i ≡ false → OtherFinishesKept m k i ws vs → take (earliest_at m) front ≡ take (earliest_at m) ws
    → Restored m k ws (take (earliest_at m) front ++ drop (earliest_at m) vs)
restored m k i ws vs front h long waits others same =
    record {
      state = back_state m k i ws vs front h long waits others same;
      set = back_set m k i ws vs front h long waits others same;
      front = back_front m k i ws vs front h long waits others same;
    }
