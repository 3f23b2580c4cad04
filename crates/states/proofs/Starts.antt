-- The words that the start of a job leaves. Assumes nothing.
use Prim.Native.Nat.{ℕ, ◌+◌, ◌/◌, ◌%◌, ◌^◌, ◌≤◌, ◌<◌}
use mathlib.Core.Path.{◌≡◌, refl, sym, ap, ◌∙◌, subst}
use mathlib.Core.Bool.{Bool, true, false}
use mathlib.Core.List.{List}
use native.Mathlib.Decide.{ℕ_discrete}
use native.Mathlib.Omega.{arith}
use lib.Dec.{eqb}
use lib.ListN.{length, get_or, set, length-set}
use lib.Seq.{get_or-set_same, get_or-set_other}
use borrow.Rule.Slice.PartMut.{put_mid}
use Rattle.model.specs.Folds.{ind}
use Rattle.model.specs.States.{Range, empty, range, is_range, State, started}
use Rattle.model.specs.Edges.{availability}
use Rattle.model.specs.Exploration.{state_words}
use Rattle.model.specs.internal.Sorted.{Sorted, Ordered}
use Rattle.model.proofs.StartedSet.{mask_of, mask_bit, mask_set, mask_fits}
use Rattle.words.proofs.Tabulate.{tabulate_is}
use Rattle.words.proofs.Parts.{part_same, part_before, part_after, part_set_before, part_set_after, length_put, get_after}
use Rattle.words.specs.internal.Parts.{part}
use Rattle.states.specs.internal.Slots.{set_words, possibly_at, certainly_at, earliest_at, latest_at, set_of, in_set, range_at, state_of}
use Rattle.states.proofs.Contents.{finish_length, finish_at, started_at, set_mask}
use Rattle.states.specs.internal.Writing.{with_start, OtherFinishesKept}
use Rattle.states.proofs.Frames.{same_state, same_range, put_set, put_finish}

-- ---- the set with a job more

module _ (m k : ℕ) (d : List ℕ) (i : ℕ) (h : i < k) (fits : set_of d < 2 ^ k) (waits : started (state_of m k d) i ≡ false) where
  abbrev finish : List Range
  finish = (state_of m k d).finish

  joined_mask : (e f : ℕ) → mask_of (set finish i (range e f)) ≡ set_of d + 2 ^ i
  joined_mask e f = mask_set finish i e f (omega (arith, finish_length m k d)) waits ∙ ap (λ (x : ℕ). x + 2 ^ i) (set_mask m k d fits)

  -- it holds jobs below k only, as before
  pub joined_fits : set_of d + 2 ^ i < 2 ^ k
  joined_fits = rw (joined_mask 0 0) at (mask_fits k (set finish i (range 0 0)) (omega (arith, length-set finish i (range 0 0), finish_length m k d)))

  joined_bit : (e f j : ℕ) → in_set (set_of d + 2 ^ i) j ≡ is_range (get_or (set finish i (range e f)) j empty)
  joined_bit e f j = ap (λ (x : ℕ). in_set x j) (sym (joined_mask e f)) ∙ ap (λ (x : ℕ). eqb x 1) (mask_bit (set finish i (range e f)) j) ∙ go (is_range (get_or (set finish i (range e f)) j empty))
    where
      go : (b : Bool) → eqb (ind b) 1 ≡ b
      go true = refl
      go false = refl

  -- ---- the words with a job more: its bit, and its finish range

  module _ (new e f : ℕ) (bits : new ≡ set_of d + 2 ^ i) (long : state_words m k ≤ length d) where
    abbrev with_set : List ℕ
    with_set = set (set d 0 (new % 4294967296)) 1 (new / 4294967296)

    abbrev with_earliest : List ℕ
    with_earliest = set with_set (earliest_at m + i) e

    abbrev out : List ℕ
    out = set with_earliest (latest_at m k + i) f

    set_length : length with_set ≡ length d
    set_length = simp length-set

    set_words_holds : (j : ℕ) → j < set_words → get_or out j 0 ≡ get_or with_set j 0
    set_words_holds j b = get_or-set_other with_earliest (latest_at m k + i) j f 0 (λ (z : j ≡ latest_at m k + i). omega (arith, z)) ∙ get_or-set_other with_set (earliest_at m + i) j e 0 (λ (z : j ≡ earliest_at m + i). omega (arith, z))

    -- the set has one job more
    pub added_set : set_of out ≡ set_of d + 2 ^ i
    unfolding set_of
    added_set =
        rw (
          set_words_holds 0 (omega arith),
          set_words_holds 1 (omega arith),
          get_or-set_other (set d 0 (new % 4294967296)) 1 0 (new / 4294967296) 0 (λ (z : 0 ≡ 1). omega (arith, z)),
          get_or-set_same d 0 (new % 4294967296) 0 (omega arith),
          get_or-set_same (set d 0 (new % 4294967296)) 1 (new / 4294967296) 0 (simp length-set (omega arith)),
        ) (omega (arith, bits))

    other_word : (j : ℕ) → set_words ≤ j → (j ≡ earliest_at m + i → ⊥) → (j ≡ latest_at m k + i → ⊥) → get_or out j 0 ≡ get_or d j 0
    other_word j b p q =
        get_or-set_other with_earliest (latest_at m k + i) j f 0 q ∙ get_or-set_other with_set (earliest_at m + i) j e 0 p
        ∙ get_or-set_other (set d 0 (new % 4294967296)) 1 j (new / 4294967296) 0 (λ (z : j ≡ 1). omega (arith, z)) ∙ get_or-set_other d 0 j (new % 4294967296) 0 (λ (z : j ≡ 0). omega (arith, z))

    -- the other finish times have their words
    pub added_others : OtherFinishesKept m k i d out
    added_others j b z = (
      other_word (earliest_at m + j) (omega arith) (λ (w : earliest_at m + j ≡ earliest_at m + i). z (omega (arith, w))) (λ (w : earliest_at m + j ≡ latest_at m k + i). omega (arith, w)),
      other_word (latest_at m k + j) (omega arith) (λ (w : latest_at m k + j ≡ earliest_at m + i). omega (arith, w)) (λ (w : latest_at m k + j ≡ latest_at m k + i). z (omega (arith, w))),
    )

    earliest_word : get_or out (earliest_at m + i) 0 ≡ e
    earliest_word =
        get_or-set_other with_earliest (latest_at m k + i) (earliest_at m + i) f 0 (λ (z : earliest_at m + i ≡ latest_at m k + i). omega (arith, z))
        ∙ get_or-set_same with_set (earliest_at m + i) e 0 (omega (arith, set_length))

    latest_word : get_or out (latest_at m k + i) 0 ≡ f
    latest_word = get_or-set_same with_earliest (latest_at m k + i) f 0 (omega (arith, set_length, length-set with_set (earliest_at m + i) e))

    added_range : (j : ℕ) → j < k → range_at m k out j ≡ get_or (set finish i (range e f)) j empty
    unfolding range_at
    added_range j b = go (ℕ_discrete j i)
      where
        bit : in_set (set_of out) j ≡ is_range (get_or (set finish i (range e f)) j empty)
        bit = ap (λ (x : ℕ). in_set x j) added_set ∙ joined_bit e f j

        go : Dec (j ≡ i) → range_at m k out j ≡ get_or (set finish i (range e f)) j empty
        go (yes z) =
            let same = get_or-set_same finish i (range e f) empty (omega (arith, finish_length m k d)) in
            rw (bit, z, same, earliest_word, latest_word) refl
        go (no z) =
            let other = get_or-set_other finish i j (range e f) empty z in
            same_range m k out d j (bit ∙ ap is_range other ∙ started_at m k d j b) (added_others j b z).0 (added_others j b z).1
            ∙ sym (other ∙ finish_at m k d j b)

    other_part : (b : ℕ) → set_words ≤ b → b + m ≤ earliest_at m → part b m out ≡ part b m d
    other_part b p q =
        part_set_before b m with_earliest (latest_at m k + i) f (omega arith) ∙ part_set_before b m with_set (earliest_at m + i) e (omega arith)
        ∙ part_set_after b m (set d 0 (new % 4294967296)) 1 (new / 4294967296) (omega arith) ∙ part_set_after b m d 0 (new % 4294967296) (omega arith)

    -- the state has the finish range of the job, and its availabilities as they were
    pub added_state : state_of m k out ≡ record { finish = set finish i (range e f); possibly_free = (state_of m k d).possibly_free; certainly_free = (state_of m k d).certainly_free }
    unfolding state_of
    added_state =
        same_state
        (tabulate_is (range_at m k out) k (set finish i (range e f)) empty (length-set finish i (range e f) ∙ finish_length m k d) added_range)
        (other_part possibly_at (omega arith) (omega arith)) (other_part (certainly_at m) (omega arith) (omega arith))

-- ---- both availabilities put back, once the job is added

-- sorted as they are in the state
pub parts_sorted : (m k : ℕ) (ws : List ℕ) (σ : State) (finish : List Range) → state_of m k ws ≡ record { finish = finish; possibly_free = σ.possibly_free; certainly_free = σ.certainly_free } → Ordered σ
    → Sorted (part possibly_at m ws) × Sorted (part (certainly_at m) m ws)
unfolding state_of
parts_sorted m k ws σ finish e o = (subst Sorted (sym (ap (λ (τ : State). τ.possibly_free) e)) o.0, subst Sorted (sym (ap (λ (τ : State). τ.certainly_free) e)) o.1)

-- the upper ones are not touched by the lower ones
pub upper_kept : (m k : ℕ) (ws ys : List ℕ) → state_words m k ≤ length ws → length ys ≡ m → part (certainly_at m) m (put_mid possibly_at m ws ys) ≡ part (certainly_at m) m ws
upper_kept m k ws ys long ly = part_after possibly_at m ws ys (omega arith) ly (certainly_at m) m (omega arith)

module _ (m k : ℕ) (ws ys zs : List ℕ) (long : state_words m k ≤ length ws) (ly : length ys ≡ m) (lz : length zs ≡ m) where
  abbrev lower : List ℕ
  lower = put_mid possibly_at m ws ys

  abbrev upper : List ℕ
  upper = put_mid (certainly_at m) m lower zs

  lower_long : state_words m k ≤ length lower
  lower_long = omega (arith, length_put possibly_at m ws ys (omega arith) ly)

  -- the set stays
  pub updated_set : set_of upper ≡ set_of ws
  updated_set = put_set m k (certainly_at m) lower zs (omega arith) (omega arith) lower_long lz ∙ put_set m k possibly_at ws ys (omega arith) (omega arith) long ly

  late_word : (j : ℕ) → earliest_at m ≤ j → get_or upper j 0 ≡ get_or ws j 0
  late_word j b = get_after (certainly_at m) m lower zs (omega (arith, lower_long)) lz j (omega arith) ∙ get_after possibly_at m ws ys (omega arith) ly j (omega arith)

  -- the finish times stay
  pub updated_others : (i : ℕ) (d : List ℕ) → OtherFinishesKept m k i d ws → OtherFinishesKept m k i d upper
  updated_others i d o j b z = (late_word (earliest_at m + j) (omega arith) ∙ (o j b z).0, late_word (latest_at m k + j) (omega arith) ∙ (o j b z).1)

  updated_state : state_of m k upper ≡ record { finish = (state_of m k ws).finish; possibly_free = ys; certainly_free = zs }
  unfolding state_of
  updated_state =
      let fits : certainly_at m + m ≤ length lower = omega (arith, lower_long) in
      same_state
      (put_finish m k (certainly_at m) lower zs (omega arith) (omega arith) lower_long lz ∙ put_finish m k possibly_at ws ys (omega arith) (omega arith) long ly)
      (part_before (certainly_at m) m lower zs fits lz possibly_at m (omega arith) ∙ part_same possibly_at m ws ys (omega arith) ly)
      (part_same (certainly_at m) m lower zs fits lz)

  -- with both availabilities updated, the words are those of the successor
  pub started_state : (σ : State) (i s e f : ℕ) → state_of m k ws ≡ record { finish = set σ.finish i (range e f); possibly_free = σ.possibly_free; certainly_free = σ.certainly_free }
      → ys ≡ availability s e (part possibly_at m ws) → zs ≡ availability s f (part (certainly_at m) m lower) → state_of m k upper ≡ with_start σ i s e f
  unfolding state_of
  started_state σ i s e f p q r =
      updated_state ∙ same_state (ap (λ (τ : State). τ.finish) p) (q ∙ ap (λ (τ : State). availability s e τ.possibly_free) p) (r ∙ ap (availability s f) (upper_kept m k ws ys long ly) ∙ ap (λ (τ : State). availability s f τ.certainly_free) p)
