-- The words of a run as a history. Assumes nothing.
use Prim.Native.Nat.{ℕ, ◌+◌, ◌≤◌, ◌<◌}
use mathlib.Core.Path.{◌≡◌, refl, sym, ap, ap₂, ◌∙◌}
use mathlib.Core.Bool.{Bool, true, false, cond, true≢false}
use mathlib.Core.List.{List}
use native.Mathlib.Nat.{zero-add}
use native.Mathlib.Decide.{ℕ_discrete}
use native.Mathlib.Omega.{arith}
use lib.Dec.{eqb}
use lib.ListN.{get_or, length, set, replicate, length-set, length-replicate, get_or-replicate}
use lib.Seq.{get_or-set_same, get_or-set_other, ext_get_or}
use borrow.Author.Tests.{eq-eqb, ne_eqb, eqb-true, eqb-false}
use Rattle.model.proofs.History.{Entry, unstarted, ran, entry, has_started, Rested}
use Rattle.model.proofs.Whole.{start_in, finish_in}
use Rattle.words.proofs.Tabulate.{length_tabulate, get_or_tabulate}
use Rattle.dispatch.specs.internal.Turns.{entry_in, history_of}

-- ---- an entry

module _ (a f : ℕ) where
  pub fresh_zero : has_started (entry_in a f) ≡ false → f ≡ 0
  fresh_zero e = go (eqb f 0) refl e
    where
      go : (b : Bool) → eqb f 0 ≡ b → has_started (cond b unstarted (ran a f)) ≡ false → f ≡ 0
      go true q e = eqb-true f 0 q
      go false q e = absurd (true≢false e)

  pub zero_fresh : f ≡ 0 → entry_in a f ≡ unstarted
  zero_fresh e = rw (eq-eqb f 0 e) refl

  pub entry_ran : (f ≡ 0 → ⊥) → entry_in a f ≡ ran a f
  entry_ran n = rw (ne_eqb f 0 n) refl

  pub rested_by : (v r : ℕ) → Rested v r (entry_in a f) → (f ≡ 0 → ⊥) × (f + r ≤ v)
  rested_by v r x = go (eqb f 0) refl x
    where
      go : (b : Bool) → eqb f 0 ≡ b → Rested v r (cond b unstarted (ran a f)) → (f ≡ 0 → ⊥) × (f + r ≤ v)
      go true q x = absurd x
      go false q x = (eqb-false f 0 q, x)

pub ran_same : (a f b g : ℕ) → ran a f ≡ ran b g → (a ≡ b) × (f ≡ g)
ran_same a f b g e = (ap start_in e, ap finish_in e)

-- ---- a history

module _ (starts finishes : List ℕ) (k : ℕ) where
  pub length_history : length (history_of starts finishes k) ≡ k
  unfolding history_of
  length_history = length_tabulate (λ i. entry_in (get_or starts i 0) (get_or finishes i 0)) 0 k

  pub entry_of : (i : ℕ) → i < k → entry (history_of starts finishes k) i ≡ entry_in (get_or starts i 0) (get_or finishes i 0)
  unfolding history_of
  entry_of i h = get_or_tabulate (λ i. entry_in (get_or starts i 0) (get_or finishes i 0)) 0 k i unstarted h ∙ ap (λ j. entry_in (get_or starts j 0) (get_or finishes j 0)) (zero-add i)

-- none has started
pub history_none : (starts finishes : List ℕ) (k : ℕ) → ((i : ℕ) → i < k → get_or finishes i 0 ≡ 0) → history_of starts finishes k ≡ replicate k unstarted
history_none starts finishes k z =
    ext_get_or unstarted (history_of starts finishes k) (replicate k unstarted) (length_history starts finishes k ∙ sym (length-replicate k unstarted))
    (λ i b. let h : i < k = omega (arith, length_history starts finishes k) in
    entry_of starts finishes k i h ∙ zero_fresh (get_or starts i 0) (get_or finishes i 0) (z i h) ∙ sym (get_or-replicate k i unstarted unstarted h))

-- a job starts
module _ (starts finishes : List ℕ) (k i a f : ℕ) (inside : i < k) (in_starts : i < length starts) (in_finishes : i < length finishes) (takes_time : f ≡ 0 → ⊥) where
  abbrev h : List Entry
  h = history_of starts finishes k

  abbrev new : List Entry
  new = history_of (set starts i a) (set finishes i f) k

  same_entry : (j : ℕ) → j < k → Dec (j ≡ i) → entry new j ≡ entry (set h i (ran a f)) j
  same_entry j l (yes d) =
      rw d
      (entry_of (set starts i a) (set finishes i f) k i inside ∙ ap₂ entry_in (get_or-set_same starts i a 0 in_starts) (get_or-set_same finishes i f 0 in_finishes)
      ∙ entry_ran a f takes_time ∙ sym (get_or-set_same h i (ran a f) unstarted (omega (arith, length_history starts finishes k, inside))))
  same_entry j l (no d) =
      entry_of (set starts i a) (set finishes i f) k j l ∙ ap₂ entry_in (get_or-set_other starts i j a 0 d) (get_or-set_other finishes i j f 0 d)
      ∙ sym (get_or-set_other h i j (ran a f) unstarted d ∙ entry_of starts finishes k j l)

  pub history_set : history_of (set starts i a) (set finishes i f) k ≡ set (history_of starts finishes k) i (ran a f)
  history_set =
      ext_get_or unstarted new (set h i (ran a f)) (length_history (set starts i a) (set finishes i f) k ∙ sym (length-set h i (ran a f) ∙ length_history starts finishes k))
      (λ j l. same_entry j (omega (arith, length_history (set starts i a) (set finishes i f) k)) (ℕ_discrete j i))
