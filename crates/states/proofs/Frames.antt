-- What of a state its words elsewhere do not change. Assumes nothing.
use Prim.Native.Nat.{ℕ, ◌+◌, ◌≤◌, ◌<◌}
use mathlib.Core.Path.{◌≡◌, ap}
use mathlib.Core.List.{List}
use native.Mathlib.Omega.{arith}
use lib.ListN.{length, take, get_or}
use lib.Seq.{get_or-take}
use borrow.Rule.Slice.PartMut.{put_mid}
use Rattle.model.specs.States.{Range, State}
use Rattle.model.specs.Exploration.{state_words}
use Rattle.words.proofs.Tabulate.{tabulate_ext}
use Rattle.words.proofs.Parts.{get_before, get_after, part_take}
use Rattle.states.specs.internal.Slots.{set_words, possibly_at, certainly_at, earliest_at, latest_at, set_of, in_set, range_at, state_of}

-- states with the same parts are one
pub same_state : {r r' : List Range} {p p' c c' : List ℕ} → r ≡ r' → p ≡ p' → c ≡ c'
    → ◌≡◌ {A = State} (record { finish = r; possibly_free = p; certainly_free = c }) (record { finish = r'; possibly_free = p'; certainly_free = c' })
same_state d e f = rw (d, e, f)

-- the set is told by its two words
pub same_set_words : (ws vs : List ℕ) → get_or ws 0 0 ≡ get_or vs 0 0 → get_or ws 1 0 ≡ get_or vs 1 0 → set_of ws ≡ set_of vs
unfolding set_of
same_set_words ws vs p q = rw (p, q)

module _ (m k : ℕ) (ws vs : List ℕ) where
  -- a finish range is told by its bit and its two words
  pub same_range : (i : ℕ) → in_set (set_of ws) i ≡ in_set (set_of vs) i → get_or ws (earliest_at m + i) 0 ≡ get_or vs (earliest_at m + i) 0
      → get_or ws (latest_at m k + i) 0 ≡ get_or vs (latest_at m k + i) 0 → range_at m k ws i ≡ range_at m k vs i
  unfolding range_at
  same_range i p q r = rw (p, q, r)

  same_finish : set_of ws ≡ set_of vs → ((i : ℕ) → earliest_at m ≤ i → i < state_words m k → get_or ws i 0 ≡ get_or vs i 0) → (state_of m k ws).finish ≡ (state_of m k vs).finish
  unfolding state_of
  same_finish p g =
      tabulate_ext (range_at m k ws) (range_at m k vs) 0 k
      (λ i b. same_range (0 + i) (ap (λ (x : ℕ). in_set x (0 + i)) p) (g (earliest_at m + (0 + i)) (omega arith) (omega arith)) (g (latest_at m k + (0 + i)) (omega arith) (omega arith)))

-- ---- availabilities put back say nothing of the jobs

module _ (m k a : ℕ) (d ys : List ℕ) (first : set_words ≤ a) (last : a + m ≤ earliest_at m) (h : state_words m k ≤ length d) (l : length ys ≡ m) where
  -- the set stays
  pub put_set : set_of (put_mid a m d ys) ≡ set_of d
  put_set = same_set_words (put_mid a m d ys) d (get_before a m d ys (omega arith) l 0 (omega arith)) (get_before a m d ys (omega arith) l 1 (omega arith))

  -- the finish ranges stay
  pub put_finish : (state_of m k (put_mid a m d ys)).finish ≡ (state_of m k d).finish
  put_finish = same_finish m k (put_mid a m d ys) d put_set (λ i b c. get_after a m d ys (omega arith) l i (omega arith))

-- ---- words past a state say nothing of it

module _ (m k : ℕ) (ws : List ℕ) where
  -- the words of a state tell its set
  pub take_set : set_of (take (state_words m k) ws) ≡ set_of ws
  take_set = same_set_words (take (state_words m k) ws) ws (get_or-take (state_words m k) ws 0 0 (omega arith)) (get_or-take (state_words m k) ws 1 0 (omega arith))

  -- the words of a state tell the state
  pub take_state : state_of m k (take (state_words m k) ws) ≡ state_of m k ws
  unfolding state_of
  take_state =
      same_state (same_finish m k (take (state_words m k) ws) ws take_set (λ i b c. get_or-take (state_words m k) ws i 0 c))
      (part_take possibly_at m (state_words m k) ws (omega arith)) (part_take (certainly_at m) m (state_words m k) ws (omega arith))
