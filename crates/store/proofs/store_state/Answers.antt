use Prim.Native.Nat.{ℕ, ◌+◌, ◌≤◌, ◌<◌}
use mathlib.Core.Path.{refl, sym, ◌∙◌, subst}
use mathlib.Core.Bool.{true≢false}
use mathlib.Core.List.{List}
use native.Mathlib.Nat.{lt_of_not-le}
use native.Mathlib.Omega.{arith}
use Rattle.model.specs.Exploration.{state_words}
use Rattle.store.specs.internal.Half.{NoneMerges, FirstMerging, KeptAt, Put}
use Rattle.store.specs.internal.Index.{used_of, Indexed}
use Rattle.store.proofs.Storing.{slot_fits, one_set, merged_result, added_result, full_result, slots_kept}
use Rattle.store.proofs.Linking.{merged_linked, unlinked_same}
use Rattle.store.proofs.store_state.Goals as goal
use Rattle.store.proofs.store_state.Goals.{then-n-index, else-n-index, In-Some, In_default, In-Some-find_merging, In_default-find_merging, Joined-n-index}

-- the linked state found is the first of the linked ones that merges
first : (c : In-Some) → FirstMerging c.args.m c.args.k c.args.half.now c.used_of-used.result c.args.new.now c.in-Some.j
first c = rw c.in-Some.is at c.follow_links-found.ensures.merging

inside : (c : In-Some) → c.in-Some.j < used_of c.args.index c.args.n
inside c = omega (arith, (first c).inside, c.used_of-used.ensures)

-- so it is the first of all
first_of_all : (c : In-Some) → FirstMerging c.args.m c.args.k c.args.half.now c.args.n c.args.new.now c.in-Some.j
first_of_all c = record { inside = omega (arith, inside c); none_before = (first c).none_before; merges = (first c).merges }

-- no linked state merges
none_linked : (c : In_default) → NoneMerges c.args.m c.args.k c.args.half.now c.args.new.now c.used_of-used.result
none_linked c = rw c.in_default.is at c.follow_links-found.ensures.merging

-- a state that merges stands behind the linked ones
behind : (c : In-Some-find_merging) → NoneMerges c.args.m c.args.k c.args.half.now c.args.new.now c.used_of-used.result → c.args.index.linked ≤ c.in-Some-find_merging.j
behind c none =
    let f = c.in-Some-find_merging in
    let l : c.used_of-used.result < f.j + 1 = lt_of_not-le (λ h. true≢false (sym f.ensures.merges ∙ none f.j (omega (arith, h)))) in
    omega (arith, l, c.used_of-used.ensures, f.ensures.inside)

pub merge_linked-requires : goal.merge_linked-requires
merge_linked-requires c = let g = (goal.at.merge_linked-requires c).In-Some in (
  c.requires.m_le_most_cores.0,
  c.requires.m_le_most_cores.1,
  omega (arith, c.requires.m_le_most_cores.2, slot_fits c.in-Some.j c.args.cap (state_words c.args.m c.args.k) (omega (arith, c.requires.m_le_most_cores.3, inside g))),
  c.requires.m_le_most_cores.4,
  one_set c.args.m c.args.k c.args.half.now c.args.new.now c.args.n c.in-Some.j c.requires.m_le_most_cores.5 c.requires.m_le_most_cores.6 (first_of_all g),
  c.requires.fits.2 (omega (arith, inside g)),
)

pub returns-in-Some : goal.returns-in-Some
returns-in-Some c = let g = (goal.at.returns-in-Some c).In-Some in
    let x = c.merge_linked in
    let o = merged_result c.args.m c.args.k c.args.half.now c.args.new.now c.args.n c.args.cap c.requires.m_le_most_cores.2 c.requires.m_le_most_cores.3 c.in-Some.j x.new.half (first_of_all g) x.ensures.merged_at.0 x.ensures.merged_at.1 in
    record {
      half_after = o.0;
      sound_at = o.1;
      indexed_at = merged_linked c.args.m c.args.k c.args.index c.args.half.now c.args.heads.now c.requires.fits.0 c.args.n c.in-Some.j x.new.half c.requires.fits.1 x.ensures.merged_at.1 (inside g) x.ensures.merged_at.0.set x.ensures.spare_kept;
    }

pub merge_at-requires : goal.merge_at-requires
merge_at-requires c = let f = c.in-Some-find_merging in (
  c.requires.m_le_most_cores.0,
  c.requires.m_le_most_cores.1,
  omega (arith, c.requires.m_le_most_cores.2, slot_fits f.j c.args.cap (state_words c.args.m c.args.k) (omega (arith, c.requires.m_le_most_cores.3, f.ensures.inside))),
  c.requires.m_le_most_cores.4,
  one_set c.args.m c.args.k c.args.half.now c.args.new.now c.args.n f.j c.requires.m_le_most_cores.5 c.requires.m_le_most_cores.6 f.ensures,
)

pub returns-in-Some-find_merging : goal.returns-in-Some-find_merging
returns-in-Some-find_merging c = let f = c.in-Some-find_merging in
    let x = c.merge_at in
    let w = goal.at.returns-in-Some-find_merging c in
    let o = merged_result c.args.m c.args.k c.args.half.now c.args.new.now c.args.n c.args.cap c.requires.m_le_most_cores.2 c.requires.m_le_most_cores.3 f.j x.new.half f.ensures x.ensures.0 x.ensures.1 in
    record {
      half_after = o.0;
      sound_at = o.1;
      indexed_at = unlinked_same c.args.m c.args.k c.args.index c.args.half.now c.args.heads.now c.requires.fits.0 c.args.n f.j x.new.half c.requires.fits.1 x.ensures.1 c.args.n (behind w.In-Some-find_merging (none_linked w.In_default)) refl;
    }

pub returns-then-cap-n : goal.returns-then-cap-n
returns-then-cap-n c = let o = full_result c.args.m c.args.k c.args.half.now c.args.new.now c.args.n c.args.cap c.requires.m_le_most_cores.2 c.requires.m_le_most_cores.3 c.in_default-find_merging.ensures c.if-cap-n.true in
    record { half_after = o.0; sound_at = o.1; indexed_at = tt }

-- what the new state stored last leaves of the half and the heads
abbrev Added : Joined-n-index → List ℕ → List ℕ → Type 0
Added c half heads =
    Put c.args.m c.args.k c.args.new.now half c.args.n
    × ((j : ℕ) → j < c.args.n → KeptAt c.args.m c.args.k c.args.half.now half j)
    × Indexed c.args.m c.args.k c.args.index half heads (c.args.n + 1)

added : (c : Joined-n-index) → Added c c.if-n-index.half c.if-n-index.heads
added c =
    elim c.if-n-index.branch [
      | then-n-index w ↦
          let x = w.append_linked in
          subst (λ (z : List ℕ). Added c z c.if-n-index.heads) (sym w.half-is) (
          subst (λ (z : List ℕ). Added c x.new.half z) (sym w.heads-is) (x.ensures.put.0, x.ensures.put.1, x.ensures.indexed)
          )
      | else-n-index w ↦
          let x = w.put_at in
          subst (λ (z : List ℕ). Added c z c.if-n-index.heads) (sym w.half-is) (
          subst (λ (z : List ℕ). Added c x.new.half z) (sym w.heads-is) (
            x.ensures.0,
            slots_kept c.args.m c.args.k c.args.half.now c.args.new.now c.args.n c.args.cap c.requires.m_le_most_cores.2 c.requires.m_le_most_cores.3 x.new.half x.ensures.1,
            unlinked_same c.args.m c.args.k c.args.index c.args.half.now c.args.heads.now c.requires.fits.0 c.args.n c.args.n x.new.half c.requires.fits.1 x.ensures.1 (c.args.n + 1) w.if-n-index.false (omega (arith, w.if-n-index.false)),
          )
          )
    ]

pub returns : goal.returns
returns c =
    let x = added c in
    let o = added_result c.args.m c.args.k c.args.half.now c.args.new.now c.args.n c.args.cap c.requires.m_le_most_cores.2 c.requires.m_le_most_cores.3 c.in_default-find_merging.ensures c.if-n-index.half c.if-cap-n.false x.0 x.1 in
    record { half_after = o.0; sound_at = o.1; indexed_at = x.2 }
