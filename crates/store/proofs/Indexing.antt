-- What the index of a level is for, and the range of buckets. Assumes nothing.
use Prim.Native.Nat.{ℕ, suc, ◌+◌, ◌*◌, ◌/◌, ◌^◌, ◌≤◌, ◌<◌}
use mathlib.Core.Path.{◌≡◌, refl, sym, ap, ◌∙◌, subst}
use mathlib.Core.Bool.{Bool, true, false, cond}
use mathlib.Core.List.{List}
use native.Mathlib.Nat.{mod-lt, mul-le-mul_right}
use native.Mathlib.Omega.{arith}
use lib.Dec.{ltb}
use lib.ListN.{get_or}
use borrow.Author.Tests.{ltb-true, ltb-false, lt-ltb, le-ltb, le-leb, lt-leb}
use Rattle.std.specs.Prelude.{Option, Some, None}
use Rattle.model.specs.Exploration.{mergeable, state_words}
use Rattle.states.specs.internal.Slots.{set_of, state_of, slot_of}
use Rattle.links.specs.internal.Spare.{head_of}
use Rattle.states.proofs.Merges.{mergeable_set}
use Rattle.store.specs.internal.Half.{SetsFit, NoneMerges, NextOfSet, FoundOfSet}
use Rattle.store.specs.internal.Chains.{FirstFrom, leads, Chains, LastBefore}
use Rattle.store.specs.internal.Index.{bucket_of, bucket_at, slot_head, head_room, head_at, Fits}
use Rattle.store.specs.declared.Index.{Index}
use Rattle.store.proofs.Storing.{slot_fits}
use Rattle.store.proofs.Chains.{head_past, head_elsewhere, head_first, next_last}

-- a fraction of the buckets is one of them
scaled : (buckets y : ℕ) → y < 4294967296 → 0 < buckets → y * buckets / 4294967296 < buckets
scaled buckets y l h = omega (arith, mul-le-mul_right {m = y} {n = 4294967295} buckets (omega (arith, l)), h)

-- every set has a bucket
pub bucket_inside : (buckets x : ℕ) → 0 < buckets → bucket_of buckets x < buckets
unfolding bucket_of
bucket_inside buckets x h = scaled buckets _ (mod-lt _ (omega arith)) h

-- ---- where a head stands

module _ (m k : ℕ) (index : Index) (ws heads : List ℕ) (used b : ℕ) where
  pub head_in_heads : index.buckets ≤ head_room → head_at m k index ws heads used b ≡ get_or heads b 0
  head_in_heads h = ap (λ (t : Bool). cond t (get_or heads b 0) (slot_head m k ws used b)) (le-leb index.buckets head_room h)

  in_slot : head_room < index.buckets → head_at m k index ws heads used b ≡ slot_head m k ws used b
  in_slot h = ap (λ (t : Bool). cond t (get_or heads b 0) (slot_head m k ws used b)) (lt-leb index.buckets head_room h)

  pub head_in_state : head_room < index.buckets → b < used → head_at m k index ws heads used b ≡ head_of m k (slot_of m k ws b)
  head_in_state h g =
      in_slot h ∙ ap (λ (t : Bool). cond t (head_of m k (slot_of m k ws b)) (get_or ws (b * state_words m k) 0)) (lt-ltb b used g)

  pub head_in_free : head_room < index.buckets → used ≤ b → head_at m k index ws heads used b ≡ get_or ws (b * state_words m k) 0
  head_in_free h g =
      in_slot h ∙ ap (λ (t : Bool). cond t (head_of m k (slot_of m k ws b)) (get_or ws (b * state_words m k) 0)) (le-ltb b used g)

-- the slot of a bucket whose head stands in one lies in the half
pub slot_of_bucket : (m k words : ℕ) (index : Index) (b : ℕ) → Fits m k words index → head_room < index.buckets → b < index.buckets
    → b * state_words m k + state_words m k ≤ words
slot_of_bucket m k words index b fits h l =
    omega (arith, slot_fits b index.linked (state_words m k) (omega (arith, l, fits.in_slots h)), fits.inside)

-- ---- the first state of a bucket, by its head

module _ {c : ℕ} {β η link : ℕ → ℕ} (chains : Chains c β η link) (b r : ℕ) (e : r ≡ η b) where
  pub past : c ≤ r → FirstFrom c β b 0 c
  past h = head_past chains b (omega (arith, e, h))

  pub elsewhere : (β r ≡ b → ⊥) → FirstFrom c β b 0 c
  elsewhere d = head_elsewhere chains b (λ q. d (ap β e ∙ q))

  pub at_head : r < c → β r ≡ b → FirstFrom c β b 0 r
  at_head h q = subst (λ (z : ℕ). FirstFrom c β b 0 z) (sym e) (head_first chains b (omega (arith, e, h)) (ap β (sym e) ∙ q))

-- ---- along a chain

-- r is where the link of state j, one of bucket b, leads to
module _ {c : ℕ} {β η link : ℕ → ℕ} (chains : Chains c β η link) (b j r : ℕ) (e : r ≡ leads c j (link j)) (h : j < c) (q : β j ≡ b) where
  pub next_one : FirstFrom c β b (suc j) r
  next_one = subst (λ (z : ℕ). FirstFrom c β z (suc j) r) q (subst (λ (z : ℕ). FirstFrom c β (β j) (suc j) z) (sym e) (chains.onward j h))

  pub last_one : LastBefore c β b r (Some j)
  last_one = subst (λ (z : ℕ). LastBefore c β b z (Some j)) (sym e) (next_last chains j h q)

-- the state that a last one stands before is of its bucket
pub last_is_one : (c : ℕ) (β : ℕ → ℕ) (b j : ℕ) (last : Option ℕ) → LastBefore c β b j last → j < c → β j ≡ b
last_is_one c β b j (Some i) l h = l.2.is_one h
last_is_one c β b j None l h = l.is_one h

-- ---- what it is for: a state of another set cannot merge, so neither can one of another bucket

module _ (m k : ℕ) (half new : List ℕ) (n : ℕ) (fit : SetsFit m k half n) (inside : set_of new < 2 ^ k) where
  other_set_holds : (j : ℕ) → j < n → (set_of (slot_of m k half j) ≡ set_of new → ⊥) → mergeable (state_of m k (slot_of m k half j)) (state_of m k new) ≡ false
  other_set_holds j h d = go (mergeable (state_of m k (slot_of m k half j)) (state_of m k new)) refl
    where
      go : (c : Bool) → mergeable (state_of m k (slot_of m k half j)) (state_of m k new) ≡ c → c ≡ false
      go true e = absurd (d (mergeable_set m k (slot_of m k half j) new (fit j h) inside e))
      go false e = refl

  -- no state up to the next of its bucket merges with the new one, where none does so far
  pub none_merges : (buckets from r : ℕ) → FirstFrom n (bucket_at buckets m k half) (bucket_of buckets (set_of new)) from r → NoneMerges m k half new from → NoneMerges m k half new r
  none_merges buckets from r first none j h = go (ltb j from) refl
    where
      go : (c : Bool) → ltb j from ≡ c → mergeable (state_of m k (slot_of m k half j)) (state_of m k new) ≡ false
      go true e = none j (ltb-true j from e)
      go false e = other_set_holds j (omega (arith, h, first.inside)) (λ q. first.none_between j (ltb-false j from e) h (ap (bucket_of buckets) q))

  none_of_set : (from r : ℕ) → r ≤ n → ((j : ℕ) → j < r → from ≤ j → set_of (slot_of m k half j) ≡ set_of new → ⊥) → NoneMerges m k half new from
      → NoneMerges m k half new r
  none_of_set from r l between none j h = go (ltb j from) refl
    where
      go : (c : Bool) → ltb j from ≡ c → mergeable (state_of m k (slot_of m k half j)) (state_of m k new) ≡ false
      go true e = none j (ltb-true j from e)
      go false e = other_set_holds j (omega (arith, h, l)) (between j h (ltb-false j from e))

  -- and none up to the next of its set, where none does so far
  pub none_merges_on : (from r : ℕ) → NextOfSet m k half n from (set_of new) r → NoneMerges m k half new from → NoneMerges m k half new r
  none_merges_on from r next = none_of_set from r (omega (arith, next.inside)) next.none_between

  -- and none at all where no other one has it
  pub none_merges_more : (from : ℕ) → FoundOfSet m k half n from (set_of new) None → NoneMerges m k half new from → NoneMerges m k half new n
  none_merges_more from none = none_of_set from n (omega arith) none
