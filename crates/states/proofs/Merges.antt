-- When two states can merge, and the words that a merge leaves. Assumes nothing.
use Prim.Native.Nat.{ℕ, ◌+◌, ◌^◌, ◌≤◌, ◌<◌, min, max}
use mathlib.Core.Path.{◌≡◌, refl, sym, ap, ◌∙◌}
use mathlib.Core.Bool.{Bool, true, false, ◌&&◌, cond}
use mathlib.Core.List.{List, zip_with}
use native.Mathlib.Omega.{arith}
use lib.Dec.{leb, eqb}
use lib.ListN.{length, get_or}
use lib.Seq.{get_or-take}
use borrow.Author.Tests.{eqb-true, eq-eqb, ne_eqb}
use borrow.Rule.Slice.PartMut.{put_mid}
use Rattle.model.specs.Folds.{every_two}
use Rattle.model.specs.States.{empty, range}
use Rattle.model.specs.Exploration.{hull, same_started, mergeable, merge, state_words}
use Rattle.model.proofs.Booleans.{and_left}
use Rattle.model.proofs.StartedSet.{mask_same}
use Rattle.words.proofs.Tabulate.{tabulate_ext}
use Rattle.words.proofs.Parts.{part_length, part_get, part_same, part_before, part_after, length_put}
use Rattle.words.specs.internal.Parts.{part}
use Rattle.states.specs.internal.Slots.{set_words, possibly_at, certainly_at, earliest_at, latest_at, set_of, in_set, range_at, state_of}
use Rattle.states.proofs.Contents.{finish_length, set_mask}
use Rattle.states.specs.internal.Writing.{Widened}
use Rattle.states.proofs.Pairs.{get_or_zip, zip_tabulate}
use Rattle.states.proofs.Frames.{same_state, same_set_words}

-- ---- which states can merge

module _ (m k : ℕ) (a b : List ℕ) (ha : set_of a < 2 ^ k) (hb : set_of b < 2 ^ k) where
  mergeable_words : mergeable (state_of m k a) (state_of m k b)
      ≡ (eqb (set_of a) (set_of b) && (every_two leb (part possibly_at m a) (part (certainly_at m) m b) && every_two leb (part possibly_at m b) (part (certainly_at m) m a)))
  unfolding mergeable state_of
  mergeable_words = ap (λ (x : Bool). x && (every_two leb (part possibly_at m a) (part (certainly_at m) m b) && every_two leb (part possibly_at m b) (part (certainly_at m) m a))) same
    where
      same : same_started (state_of m k a).finish (state_of m k b).finish ≡ eqb (set_of a) (set_of b)
      same = mask_same (state_of m k a).finish (state_of m k b).finish (finish_length m k a ∙ sym (finish_length m k b)) ∙ rw (set_mask m k a ha, set_mask m k b hb) refl

  -- states with different sets do not merge
  pub other_set_holds : (set_of a ≡ set_of b → ⊥) → mergeable (state_of m k a) (state_of m k b) ≡ false
  other_set_holds n = mergeable_words ∙ rw (ne_eqb (set_of a) (set_of b) n) refl

  -- with one set, they merge where the availabilities overlap
  pub one_set : set_of a ≡ set_of b → mergeable (state_of m k a) (state_of m k b) ≡ (every_two leb (part possibly_at m a) (part (certainly_at m) m b) && every_two leb (part possibly_at m b) (part (certainly_at m) m a))
  one_set e = mergeable_words ∙ rw (eq-eqb (set_of a) (set_of b) e) refl

  -- states that merge have one set
  pub mergeable_set : mergeable (state_of m k a) (state_of m k b) ≡ true → set_of a ≡ set_of b
  mergeable_set e = eqb-true (set_of a) (set_of b) (and_left _ _ (sym mergeable_words ∙ e))

-- ---- n lower ends and n upper ends, put back

-- the parts put back are the ranges, widened
pub widened : (a n : ℕ) (d s ys zs : List ℕ) → a + n + n ≤ length d → length ys ≡ n → length zs ≡ n
    → ys ≡ zip_with min (part a n d) (part a n s) → zs ≡ zip_with max (part (a + n) n (put_mid a n d ys)) (part (a + n) n s) → Widened a n d s (put_mid (a + n) n (put_mid a n d ys) zs)
widened a n d s ys zs h ly lz p q =
    let h₁ : a + n ≤ length d = omega arith in
    let h₂ : a + n + n ≤ length (put_mid a n d ys) = omega (arith, length_put a n d ys h₁ ly) in
    record {
      low = part_before (a + n) n (put_mid a n d ys) zs h₂ lz a n (omega arith) ∙ part_same a n d ys h₁ ly ∙ p;
      high = part_same (a + n) n (put_mid a n d ys) zs h₂ lz ∙ q ∙ ap (λ (z : List ℕ). zip_with max z (part (a + n) n s)) (part_after a n d ys h₁ ly (a + n) n (omega arith));
      before = λ b c g. part_before (a + n) n (put_mid a n d ys) zs h₂ lz b c (omega arith) ∙ part_before a n d ys h₁ ly b c g;
      after = λ b c g. part_after (a + n) n (put_mid a n d ys) zs h₂ lz b c g ∙ part_after a n d ys h₁ ly b c (omega arith);
    }

-- ---- a merged state

zip_word : (f : ℕ → ℕ → ℕ) (b n : ℕ) (w d s : List ℕ) → part b n w ≡ zip_with f (part b n d) (part b n s) → b + n ≤ length d → b + n ≤ length s
    → (j : ℕ) → j < n → get_or w (b + j) 0 ≡ f (get_or d (b + j) 0) (get_or s (b + j) 0)
zip_word f b n w d s e hd hs j g =
    let p = part_length b n d hd in
    let q = part_length b n s hs in
    sym (part_get b n w j g) ∙ ap (λ (z : List ℕ). get_or z j 0) e ∙ get_or_zip f (part b n d) (part b n s) j (omega (arith, p)) (p ∙ sym q)
    ∙ rw (part_get b n d j g, part_get b n s j g) refl

module _ (m k : ℕ) (d s d₁ d₂ : List ℕ) (hd : state_words m k ≤ length d) (hs : state_words m k ≤ length s) (e : set_of d ≡ set_of s)
    (x : Widened possibly_at m d s d₁) (y : Widened (earliest_at m) k d₁ s d₂) where
  set_word : (j : ℕ) → j < set_words → get_or d₂ j 0 ≡ get_or d j 0
  set_word j g =
      sym (get_or-take set_words d₂ j 0 g) ∙ ap (λ (z : List ℕ). get_or z j 0) (y.before 0 set_words (omega arith) ∙ x.before 0 set_words (omega arith)) ∙ get_or-take set_words d j 0 g

  -- a merge keeps the set
  pub merged_set : set_of d₂ ≡ set_of d
  merged_set = same_set_words d₂ d (set_word 0 (omega arith)) (set_word 1 (omega arith))

  earliest_word : (j : ℕ) → j < k → get_or d₂ (earliest_at m + j) 0 ≡ min (get_or d (earliest_at m + j) 0) (get_or s (earliest_at m + j) 0)
  earliest_word = zip_word min (earliest_at m) k d₂ d s (y.low ∙ ap (λ (z : List ℕ). zip_with min z (part (earliest_at m) k s)) (x.after (earliest_at m) k (omega arith))) (omega arith) (omega arith)

  latest_word : (j : ℕ) → j < k → get_or d₂ (latest_at m k + j) 0 ≡ max (get_or d (latest_at m k + j) 0) (get_or s (latest_at m k + j) 0)
  latest_word = zip_word max (latest_at m k) k d₂ d s (y.high ∙ ap (λ (z : List ℕ). zip_with max z (part (latest_at m k) k s)) (x.after (latest_at m k) k (omega arith))) (omega arith) (omega arith)

  merged_range : (j : ℕ) → j < k → range_at m k d₂ j ≡ hull (range_at m k d j) (range_at m k s j)
  unfolding range_at
  merged_range j b = rw (merged_set, earliest_word j b, latest_word j b, e) (go (in_set (set_of s) j) _ _ _ _)
    where
      go : (t : Bool) (a b c d : ℕ) → cond t (range (min a c) (max b d)) empty ≡ hull (cond t (range a b) empty) (cond t (range c d) empty)
      go true a b c d = refl
      go false a b c d = refl

  -- the words are those of the merged state
  pub merged_state : state_of m k d₂ ≡ merge (state_of m k d) (state_of m k s)
  unfolding state_of merge
  merged_state =
      same_state
      (
      tabulate_ext (range_at m k d₂) (λ j. hull (range_at m k d j) (range_at m k s j)) 0 k (λ j b. merged_range (0 + j) (omega arith))
      ∙ sym (zip_tabulate hull (range_at m k d) (range_at m k s) 0 k)
      )
      (y.before possibly_at m (omega arith) ∙ x.low) (y.before (certainly_at m) m (omega arith) ∙ x.high)
