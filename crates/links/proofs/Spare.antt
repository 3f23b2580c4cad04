-- The first job that is not in the set, and what its finish words say of the state: nothing. Assumes nothing.
use Prim.Native.Nat.{ℕ, zero, suc, ◌+◌, ◌-◌, ◌/◌, ◌%◌, ◌^◌, ◌≤◌, ◌<◌}
use mathlib.Core.Path.{◌≡◌, refl, sym, ap, ◌∙◌}
use mathlib.Core.Logic.{◌⊎◌, inl, inr, ⊎_elim}
use mathlib.Core.Bool.{Bool, true, false, true≢false}
use mathlib.Core.List.{List}
use native.Mathlib.Omega.{arith}
use lib.Count.{count_trailing_zeros, under}
use lib.Dec.{eqb, leb}
use lib.ListN.{get_or, length, set}
use lib.Pow.{pow_mono}
use lib.Seq.{get_or-set_same, get_or-set_other}
use borrow.Author.Tests.{eq-eqb, leb-true, leb-false}
use Rattle.model.specs.Limits.{most_jobs}
use Rattle.model.specs.States.{empty, is_range, level}
use Rattle.model.specs.Exploration.{state_words}
use Rattle.model.proofs.Booleans.{cases}
use Rattle.model.proofs.Folds.{count_all}
use Rattle.words.proofs.Tabulate.{tabulate_ext}
use Rattle.words.proofs.Parts.{part_set_before}
use Rattle.states.specs.internal.Slots.{possibly_at, certainly_at, earliest_at, latest_at, set_of, in_set, range_at, state_of}
use Rattle.states.proofs.Bits.{in_half}
use Rattle.states.proofs.Contents.{finish_length, started_at}
use Rattle.states.proofs.Frames.{same_state, same_set_words, same_range}
use Rattle.links.specs.internal.Spare.{spare_of, word_of, head_of, link_of, Kept}

-- ---- the lowest digit that is set in what is left of all

-- below it, every number is in the set
below_the_rest : (k set rest : ℕ) → set + rest + 1 ≡ 2 ^ k → (w : ℕ) → w < count_trailing_zeros k rest → in_set set w ≡ true
unfolding count_trailing_zeros
below_the_rest zero set rest e w h = absurd (omega arith)
below_the_rest (suc k) set rest e w h = go (rest % 2) refl (λ q. below_the_rest k (set / 2) (rest / 2) (omega arith)) w h
  where
    go : (d : ℕ) → rest % 2 ≡ d → (d ≡ 0 → (v : ℕ) → v < count_trailing_zeros k (rest / 2) → in_set (set / 2) v ≡ true)
        → (v : ℕ) → v < under d (count_trailing_zeros k (rest / 2)) → in_set set v ≡ true
    go zero q lower zero h = eq-eqb (set / 1 % 2) 1 (omega arith)
    go zero q lower (suc v) h = in_half set v ∙ lower refl v (omega arith)
    go (suc d) q lower v h = absurd (omega arith)

-- it is not itself in the set
at_the_rest : (k set rest : ℕ) → set + rest + 1 ≡ 2 ^ k → count_trailing_zeros k rest < k → in_set set (count_trailing_zeros k rest) ≡ false
unfolding count_trailing_zeros
at_the_rest zero set rest e h = absurd (omega arith)
at_the_rest (suc k) set rest e h = go (rest % 2) refl (λ q. at_the_rest k (set / 2) (rest / 2) (omega arith)) h
  where
    go : (d : ℕ) → rest % 2 ≡ d → (d ≡ 0 → count_trailing_zeros k (rest / 2) < k → in_set (set / 2) (count_trailing_zeros k (rest / 2)) ≡ false)
        → under d (count_trailing_zeros k (rest / 2)) < suc k → in_set set (under d (count_trailing_zeros k (rest / 2))) ≡ false
    go zero q lower h = in_half set (count_trailing_zeros k (rest / 2)) ∙ lower refl (omega arith)
    go (suc d) q lower h = ap (λ (x : ℕ). eqb x 1) {x = set / 1 % 2} {y = 0} (omega arith)

-- ---- the spare job

-- every job before it is in the set
pub spare_first : (set : ℕ) → set < 2 ^ 64 → (w : ℕ) → w < spare_of set → in_set set w ≡ true
unfolding spare_of
spare_first set h = below_the_rest 64 set (18446744073709551615 - set) (omega arith)

-- it has not started
pub spare_unstarted : (set : ℕ) → set < 2 ^ 64 → spare_of set < 64 → in_set set (spare_of set) ≡ false
unfolding spare_of
spare_unstarted set h = at_the_rest 64 set (18446744073709551615 - set) (omega arith)

-- a state in which not all jobs have started has a spare one
pub spare_exists : (m k : ℕ) (ws : List ℕ) → k ≤ most_jobs → set_of ws < 2 ^ k → level (state_of m k ws) < k → spare_of (set_of ws) < k
spare_exists m k ws h fits l = ⊎_elim (λ q. absurd (never (leb-true k spare q))) (λ q. leb-false k spare q) (cases (leb k spare))
  where
    spare : ℕ
    spare = spare_of (set_of ws)

    never : k ≤ spare_of (set_of ws) → ⊥
    never q =
        let fits₂ : set_of ws < 2 ^ 64 = omega (arith, fits, pow_mono h) in
        omega (
          arith,
          l,
          finish_length m k ws,
          count_all is_range (state_of m k ws).finish empty
              (λ i b. started_at m k ws i (omega (arith, b, finish_length m k ws)) ∙ spare_first (set_of ws) fits₂ i (omega (arith, q, b, finish_length m k ws))),
        )

-- its words, read: i is the spare job
module _ (m k : ℕ) (ws : List ℕ) (i : ℕ) (spare : i ≡ spare_of (set_of ws)) where
  -- the one that begins at a place
  spare_read : (at : ℕ → ℕ → ℕ) → get_or ws (at m k + i) 0 ≡ word_of at m k ws
  unfolding word_of
  spare_read at = rw spare refl

  pub head_read : get_or ws (earliest_at m + i) 0 ≡ head_of m k ws
  head_read = spare_read (λ m k. earliest_at m)

  pub link_read : get_or ws (latest_at m k + i) 0 ≡ link_of m k ws
  link_read = spare_read latest_at

-- ---- a finish word set, of a job that is not in the set

module _ (m k : ℕ) (ws : List ℕ) (p v : ℕ) (late : earliest_at m ≤ p)
    (unsaid : (j : ℕ) → j < k → in_set (set_of ws) j ≡ true → ((p ≡ earliest_at m + j → ⊥) × (p ≡ latest_at m k + j → ⊥))) where
  abbrev out : List ℕ
  out = set ws p v

  -- the set stays
  set_stays : set_of out ≡ set_of ws
  set_stays =
      same_set_words out ws (get_or-set_other ws p 0 v 0 (λ (z : 0 ≡ p). omega (arith, z, late))) (get_or-set_other ws p 1 v 0 (λ (z : 1 ≡ p). omega (arith, z, late)))

  range_stays : (j : ℕ) → j < k → (b : Bool) → in_set (set_of ws) j ≡ b → range_at m k out j ≡ range_at m k ws j
  unfolding range_at
  range_stays j h true e =
      let u = unsaid j h e in
      same_range m k out ws j (ap (λ (x : ℕ). in_set x j) set_stays) (get_or-set_other ws p (earliest_at m + j) v 0 (λ z. u.0 (sym z)))
      (get_or-set_other ws p (latest_at m k + j) v 0 (λ z. u.1 (sym z)))
  range_stays j h false e = rw (set_stays, e)

  -- the state stays
  state_stays : state_of m k out ≡ state_of m k ws
  unfolding state_of
  state_stays =
      same_state (tabulate_ext (range_at m k out) (range_at m k ws) 0 k (λ i b. range_stays (0 + i) (omega (arith, b)) (in_set (set_of ws) (0 + i)) refl))
      (part_set_before possibly_at m ws p v (omega (arith, late))) (part_set_before (certainly_at m) m ws p v (omega (arith, late)))

  word_kept : Kept m k ws out
  word_kept = record { set = set_stays; state = state_stays }

-- ---- a spare word written: i is the spare job

module _ (m k : ℕ) (ws : List ℕ) (i v : ℕ) (h : k ≤ most_jobs) (long : state_words m k ≤ length ws) (fits : set_of ws < 2 ^ 64) (spare : i ≡ spare_of (set_of ws))
    (inside : spare_of (set_of ws) < k) where
  other : (j : ℕ) → in_set (set_of ws) j ≡ true → i ≡ j → ⊥
  other j e z =
      true≢false (sym e ∙ ap (in_set (set_of ws)) (sym z ∙ spare) ∙ spare_unstarted (set_of ws) fits (omega (arith, inside, h)))

  -- a spare word says nothing of the state
  pub spare_kept : (p : ℕ) → (p ≡ earliest_at m) ⊎ (p ≡ latest_at m k) → Kept m k ws (set ws (p + i) v)
  spare_kept p (inl e) =
      word_kept m k ws (p + i) v (omega (arith, e))
      (λ j b q. (λ z. other j q (omega (arith, z, e)), λ z. omega (arith, z, e, spare, inside)))
  spare_kept p (inr e) =
      word_kept m k ws (p + i) v (omega (arith, e))
      (λ j b q. (λ z. omega (arith, z, b, e), λ z. other j q (omega (arith, z, e))))

  module _ (at : ℕ → ℕ → ℕ) (which : (at m k ≡ earliest_at m) ⊎ (at m k ≡ latest_at m k)) where
    -- it is read as written
    pub spare_written : at m k + k ≤ state_words m k → word_of at m k (set ws (at m k + i) v) ≡ v
    unfolding word_of
    spare_written h₂ =
        rw ((spare_kept (at m k) which).set, sym spare) (get_or-set_same ws (at m k + i) v 0 (omega (arith, long, spare, inside, h₂)))

    -- the other one stays
    pub spare_other : (at₂ : ℕ → ℕ → ℕ) → (at₂ m k ≡ at m k → ⊥) → word_of at₂ m k (set ws (at m k + i) v) ≡ word_of at₂ m k ws
    unfolding word_of
    spare_other at₂ ne =
        rw (spare_kept (at m k) which).set (get_or-set_other ws (at m k + i) (at₂ m k + spare_of (set_of ws)) v 0 (λ z. ne (omega (arith, z, spare))))

    -- the same at a place that is that of the word, however it was reckoned
    pub kept_at : (p : ℕ) → p ≡ at m k + i → Kept m k ws (set ws p v)
    kept_at p e = rw e (spare_kept (at m k) which)

    pub written_at : (p : ℕ) → p ≡ at m k + i → at m k + k ≤ state_words m k → word_of at m k (set ws p v) ≡ v
    written_at p e h₂ = rw e (spare_written h₂)

    pub other_at : (p : ℕ) → p ≡ at m k + i → (at₂ : ℕ → ℕ → ℕ) → (at₂ m k ≡ at m k → ⊥) → word_of at₂ m k (set ws p v) ≡ word_of at₂ m k ws
    other_at p e = rw e spare_other
