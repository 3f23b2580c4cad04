-- The observed ranges after a store of one of them. Assumes nothing.
use Prim.Native.Nat.{ℕ, ◌+◌, ◌≤◌, ◌<◌}
use mathlib.Core.Path.{◌≡◌, sym, ap, ◌∙◌}
use mathlib.Core.List.{List}
use native.Mathlib.Nat.{zero-add}
use native.Mathlib.Decide.{ℕ_discrete}
use native.Mathlib.Omega.{arith}
use lib.ListN.{get_or, set, length-set}
use lib.Seq.{get_or-set_same, get_or-set_other}
use Rattle.model.specs.Limits.{most_jobs}
use Rattle.model.specs.States.{empty}
use Rattle.words.specs.Tabulate.{tabulate}
use Rattle.words.proofs.Tabulate.{length_tabulate, get_or_tabulate, tabulate_is}
use Rattle.ranges.specs.internal.Ranges.{range_in}
use Rattle.steps.specs.internal.Observed.{observed_at, observed_of, Observed}

-- the range of job i is what its two words say
pub observed_at_holds : (k : ℕ) (ws : List ℕ) (i : ℕ) → i < k → get_or (observed_of k ws) i empty ≡ observed_at ws i
unfolding observed_of
observed_at_holds k ws i h = get_or_tabulate (observed_at ws) 0 k i empty h ∙ ap (observed_at ws) (zero-add i)

module _ (k : ℕ) (ws : List ℕ) (i e f : ℕ) (inside : i < k) (few : k ≤ most_jobs) (seen : Observed k ws) where
  -- the words with both ends of job i's range stored
  abbrev pub new : List ℕ
  new = set (set ws i e) (most_jobs + i) f

  first_half : (j : ℕ) → j < most_jobs → get_or new j 0 ≡ get_or (set ws i e) j 0
  first_half j h = get_or-set_other (set ws i e) (most_jobs + i) j f 0 (λ w. omega arith)

  other : (j : ℕ) → (j ≡ i → ⊥) → j < most_jobs → (get_or new j 0 ≡ get_or ws j 0) × (get_or new (most_jobs + j) 0 ≡ get_or ws (most_jobs + j) 0)
  other j d h = (
    first_half j h ∙ get_or-set_other ws i j e 0 d,
    get_or-set_other (set ws i e) (most_jobs + i) (most_jobs + j) f 0 (λ w. d (omega arith)) ∙ get_or-set_other ws i (most_jobs + j) e 0 (λ w. omega arith),
  )

  -- a store changes the range of its job only
  pub observed_set : observed_of k new ≡ set (observed_of k ws) i (range_in e f)
  unfolding observed_of
  observed_set =
      tabulate_is (observed_at new) k (set (tabulate (observed_at ws) 0 k) i (range_in e f)) empty
      (length-set (tabulate (observed_at ws) 0 k) i (range_in e f) ∙ length_tabulate (observed_at ws) 0 k) (λ j g. go j g (ℕ_discrete j i))
    where
      go : (j : ℕ) → j < k → Dec (j ≡ i) → observed_at new j ≡ get_or (set (tabulate (observed_at ws) 0 k) i (range_in e f)) j empty
      go j g (yes z) =
          rw (
            z,
            first_half i (omega arith),
            get_or-set_same ws i e 0 (omega (arith, seen.long)),
            get_or-set_same (set ws i e) (most_jobs + i) f 0 (omega (arith, seen.long, length-set ws i e)),
            get_or-set_same (tabulate (observed_at ws) 0 k) i (range_in e f) empty (omega (arith, length_tabulate (observed_at ws) 0 k)),
          )
      go j g (no z) =
          rw ((other j z (omega arith)).0, (other j z (omega arith)).1, get_or-set_other (tabulate (observed_at ws) 0 k) i j (range_in e f) empty z)
          (sym (get_or_tabulate (observed_at ws) 0 k j empty g ∙ ap (observed_at ws) (zero-add j)))

  -- and keeps the words from job k on
  pub observed_kept : Observed k new
  observed_kept =
      record {
        long = length-set (set ws i e) (most_jobs + i) f ∙ length-set ws i e ∙ seen.long;
        beyond = λ j g h. ((other j (λ w. omega arith) h).0 ∙ (seen.beyond j g h).0, (other j (λ w. omega arith) h).1 ∙ (seen.beyond j g h).1);
      }
