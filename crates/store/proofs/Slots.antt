-- A slot of a half as a part that is lent and comes back, once or several times in a row, and the heads that stand in slots. Assumes nothing.
use Prim.Native.Nat.{ℕ, ◌+◌, ◌*◌, ◌-◌, ◌≤◌, ◌<◌}
use mathlib.Core.Path.{◌≡◌, refl, sym, ap, ◌∙◌, subst}
use mathlib.Core.Bool.{Bool, true, false, cond}
use mathlib.Core.List.{List}
use native.Mathlib.Nat.{add-zero}
use native.Mathlib.Numerals.{lt_of_le_of_ne}
use native.Mathlib.Decide.{ℕ_discrete}
use native.Mathlib.Omega.{arith}
use lib.Dec.{ltb}
use lib.ListN.{length, take, drop, get_or, set}
use lib.Seq.{get_or-set_same, get_or-set_other}
use borrow.Author.Tests.{ltb-true, ltb-false, lt-ltb, le-ltb, le-leb, lt-leb}
use borrow.Rule.Slice.PartMut.{put_mid}
use Rattle.model.specs.Exploration.{merge, state_words}
use Rattle.words.proofs.Parts.{part_length, part_get, part_set_before, part_set_after, length_put}
use Rattle.states.specs.internal.Slots.{set_of, state_of, slot_of}
use Rattle.links.specs.internal.Spare.{spare_of, link_of, head_of, Kept}
use Rattle.store.specs.internal.Half.{OthersKept, KeptAt, MergedAt}
use Rattle.store.specs.internal.Index.{head_at, slot_head, head_room, Fits}
use Rattle.store.specs.declared.Index.{Index}
use Rattle.store.proofs.Storing.{slot_fits, slot_same, others_kept}

-- ---- slot j lent: w is the number of words of a state

-- what is lent
abbrev pub lent : ℕ → ℕ → List ℕ → List ℕ
lent j w ws = take (j * w + w - j * w) (drop (j * w) ws)

-- what the half is once that comes back as ys
abbrev pub back : ℕ → ℕ → List ℕ → List ℕ → List ℕ
back j w ws ys = put_mid (j * w) (j * w + w - j * w) ws ys

module _ (m k j w : ℕ) (e : w ≡ state_words m k) (half : List ℕ) (h : j * state_words m k + state_words m k ≤ length half) where
  pub lent_slot : lent j w half ≡ slot_of m k half j
  lent_slot =
      let p : j * state_words m k + state_words m k - j * state_words m k ≡ state_words m k = omega arith in
      rw (e, p) refl

  pub lent_length : length (lent j w half) ≡ state_words m k
  lent_length = ap length lent_slot ∙ part_length (j * state_words m k) (state_words m k) half h

  -- it has spare words
  pub lent_spare : (x : ℕ) → set_of (slot_of m k half j) ≡ x → spare_of x < k → spare_of (set_of (lent j w half)) < k
  lent_spare x p q = subst (λ (z : ℕ). spare_of z < k) (sym (ap set_of lent_slot ∙ p)) q

  module _ (ys : List ℕ) (l : length ys ≡ length (lent j w half)) where
    is_put : back j w half ys ≡ put_mid (j * state_words m k) (state_words m k) half ys
    is_put =
        let p : j * state_words m k + state_words m k - j * state_words m k ≡ state_words m k = omega arith in
        rw (e, p) refl

    pub back_slot : slot_of m k (back j w half ys) j ≡ ys
    back_slot = ap (λ (ws : List ℕ). slot_of m k ws j) is_put ∙ slot_same m k half ys j h (l ∙ lent_length)

    pub back_others : OthersKept m k j half (back j w half ys)
    back_others = subst (OthersKept m k j half) (sym is_put) (others_kept m k half ys j h (l ∙ lent_length))

    pub back_length : length (back j w half ys) ≡ length half
    back_length = ap length is_put ∙ length_put (j * state_words m k) (state_words m k) half ys h (l ∙ lent_length)

    pub back_fits : j * state_words m k + state_words m k ≤ length (back j w half ys)
    back_fits = omega (arith, back_length, h)

    -- a merge into what was lent
    pub back_merged : (new : List ℕ) → state_of m k ys ≡ merge (state_of m k (lent j w half)) (state_of m k new) → set_of ys ≡ set_of (lent j w half)
        → MergedAt m k half new (back j w half ys) j
    back_merged new p q =
        record {
          state = ap (state_of m k) back_slot ∙ p ∙ ap (λ (ws : List ℕ). merge (state_of m k ws) (state_of m k new)) lent_slot;
          set = ap set_of back_slot ∙ q ∙ ap set_of lent_slot;
        }

    -- nothing said of the state by what was written
    pub back_kept : Kept m k (lent j w half) ys → KeptAt m k half (back j w half ys) j
    back_kept p = record { set = ap set_of back_slot ∙ p.set ∙ ap set_of lent_slot; state = ap (state_of m k) back_slot ∙ p.state ∙ ap (state_of m k) lent_slot }

-- ---- one write after the other to one slot

pub others_on : (m k j : ℕ) (us vs ws : List ℕ) → length vs ≡ length us → OthersKept m k j us vs → OthersKept m k j vs ws → OthersKept m k j us ws
others_on m k j us vs ws l p q i ne g = q i ne (omega (arith, l, g)) ∙ p i ne g

-- a state stays with both of its spare words written
pub record Spare (m k j : ℕ) (half out : List ℕ) (link head : ℕ) : Type 0 where
  pub kept : KeptAt m k half out j
  pub others : OthersKept m k j half out
  pub its_link : link_of m k (slot_of m k out j) ≡ link
  pub its_head : head_of m k (slot_of m k out j) ≡ head

module _ (m k j w : ℕ) (e : w ≡ state_words m k) (half : List ℕ) (h : j * state_words m k + state_words m k ≤ length half) (ys : List ℕ)
    (l : length ys ≡ length (lent j w half)) (zs : List ℕ) (l₂ : length zs ≡ length (lent j w (back j w half ys))) where
  pub spare_written : (link head : ℕ) → Kept m k (lent j w half) ys → link_of m k ys ≡ link → Kept m k (lent j w (back j w half ys)) zs
      → link_of m k zs ≡ link_of m k (lent j w (back j w half ys)) → head_of m k zs ≡ head → Spare m k j half (back j w (back j w half ys) zs) link head
  spare_written link head p q p₂ q₂ r₂ =
      let g = back_fits m k j w e half h ys l in
      let x = back_kept m k j w e half h ys l p in
      let y = back_kept m k j w e (back j w half ys) g zs l₂ p₂ in
      let s = back_slot m k j w e (back j w half ys) g zs l₂ in
      let t = lent_slot m k j w e (back j w half ys) g ∙ back_slot m k j w e half h ys l in
      record {
        kept = record { set = y.set ∙ x.set; state = y.state ∙ x.state };
        others =
            others_on m k j half (back j w half ys) (back j w (back j w half ys) zs) (back_length m k j w e half h ys l) (back_others m k j w e half h ys l)
            (back_others m k j w e (back j w half ys) g zs l₂);
        its_link = ap (link_of m k) s ∙ q₂ ∙ ap (link_of m k) t ∙ q;
        its_head = ap (head_of m k) s ∙ r₂;
      }

-- ---- heads in slots

-- the first word of slot j
pub first_word : (m k : ℕ) (ws : List ℕ) (j : ℕ) → get_or (slot_of m k ws j) 0 0 ≡ get_or ws (j * state_words m k) 0
first_word m k ws j =
    part_get (j * state_words m k) (state_words m k) ws 0 (omega arith) ∙ ap (λ (z : ℕ). get_or ws z 0) (add-zero (j * state_words m k))

-- written, the other slots stay
first_others : (m k : ℕ) (ws : List ℕ) (j v : ℕ) → OthersKept m k j ws (set ws (j * state_words m k) v)
first_others m k ws j v i ne g = go (state_words m k) (omega arith) (ltb i j) refl
  where
    go : (w : ℕ) → 0 < w → (t : Bool) → ltb i j ≡ t → take w (drop (i * w) (set ws (j * w) v)) ≡ take w (drop (i * w) ws)
    go w h true e = part_set_before (i * w) w ws (j * w) v (slot_fits i j w (ltb-true i j e))
    go w h false e =
        let b : j * w + w ≤ i * w = slot_fits j i w (lt_of_le_of_ne (ltb-false i j e) (λ z. ne (sym z))) in
        part_set_after (i * w) w ws (j * w) v (omega (arith, b, h))

-- a slot that has its words has the same state
module _ (m k : ℕ) (ws vs : List ℕ) (j : ℕ) (e : slot_of m k vs j ≡ slot_of m k ws j) where
  same_kept : KeptAt m k ws vs j × (link_of m k (slot_of m k vs j) ≡ link_of m k (slot_of m k ws j))
  same_kept = (record { set = ap set_of e; state = ap (state_of m k) e }, ap (link_of m k) e)

  same_head : (used : ℕ) → slot_head m k vs used j ≡ slot_head m k ws used j
  same_head used =
      let p : get_or vs (j * state_words m k) 0 ≡ get_or ws (j * state_words m k) 0 = sym (first_word m k vs j) ∙ ap (λ (z : List ℕ). get_or z 0 0) e ∙ first_word m k ws j in
      ap (λ (x : ℕ). cond (ltb j used) x (get_or vs (j * state_words m k) 0)) (ap (head_of m k) e) ∙ ap (cond (ltb j used) (head_of m k (slot_of m k ws j))) p

-- what writing a head leaves
abbrev pub Written : ℕ → ℕ → Index → List ℕ → List ℕ → List ℕ → List ℕ → ℕ → ℕ → ℕ → Type 0
Written m k index ws hs vs gs used b head =
    ((head_at m k index vs gs used b ≡ head) × ((c : ℕ) → c < index.buckets → (c ≡ b → ⊥) → head_at m k index vs gs used c ≡ head_at m k index ws hs used c))
    × ((j : ℕ) → j < used → KeptAt m k ws vs j × (link_of m k (slot_of m k vs j) ≡ link_of m k (slot_of m k ws j)))

module _ (m k : ℕ) (index : Index) (ws hs : List ℕ) (used b head : ℕ) where
  -- in a place of its own
  pub written_apart : index.buckets ≤ head_room → b < length hs → Written m k index ws hs ws (set hs b head) used b head
  written_apart few inside =
      rw (le-leb index.buckets head_room few) (
        (get_or-set_same hs b head 0 inside, λ c g ne. get_or-set_other hs b c head 0 ne),
        λ j g. same_kept m k ws ws j refl,
      )

  module _ (fits : Fits m k (length ws) index) (few : used ≤ index.linked) (many : head_room < index.buckets) (inside : b < index.buckets) (vs : List ℕ)
      (others : OthersKept m k b ws vs) where
    there : (j : ℕ) → j < index.linked → j * state_words m k + state_words m k ≤ length ws
    there j g = omega (arith, slot_fits j index.linked (state_words m k) g, fits.inside)

    other_heads : slot_head m k vs used b ≡ head → (head_at m k index vs hs used b ≡ head)
        × ((c : ℕ) → c < index.buckets → (c ≡ b → ⊥) → head_at m k index vs hs used c ≡ head_at m k index ws hs used c)
    other_heads e =
        rw (lt-leb index.buckets head_room many)
        (e, λ c g ne. same_head m k ws vs c (others c ne (there c (omega (arith, g, fits.in_slots many)))) used)

    -- in the spare words of a state
    pub written_linked : b < used → KeptAt m k ws vs b → link_of m k (slot_of m k vs b) ≡ link_of m k (slot_of m k ws b) → head_of m k (slot_of m k vs b) ≡ head
        → Written m k index ws hs vs hs used b head
    written_linked below kept link e =
        (other_heads (ap (λ (t : Bool). cond t (head_of m k (slot_of m k vs b)) (get_or vs (b * state_words m k) 0)) (lt-ltb b used below) ∙ e), λ j g. go j g (ℕ_discrete j b))
      where
        go : (j : ℕ) → j < used → Dec (j ≡ b) → KeptAt m k ws vs j × (link_of m k (slot_of m k vs j) ≡ link_of m k (slot_of m k ws j))
        go j g (yes z) =
            subst (λ (i : ℕ). KeptAt m k ws vs i × (link_of m k (slot_of m k vs i) ≡ link_of m k (slot_of m k ws i))) (sym z) (kept, link)
        go j g (no z) = same_kept m k ws vs j (others j z (there j (omega (arith, g, few))))

    -- in a free slot
    written_first : used ≤ b → get_or vs (b * state_words m k) 0 ≡ head → Written m k index ws hs vs hs used b head
    written_first above e = (
      other_heads (ap (λ (t : Bool). cond t (head_of m k (slot_of m k vs b)) (get_or vs (b * state_words m k) 0)) (le-ltb b used above) ∙ e),
      λ j g. same_kept m k ws vs j (others j (λ (z : j ≡ b). omega (arith, z, g, above)) (there j (omega (arith, g, few)))),
    )

  pub written_free : (w : ℕ) → w ≡ state_words m k → Fits m k (length ws) index → used ≤ index.linked → head_room < index.buckets → b < index.buckets → used ≤ b
      → Written m k index ws hs (set ws (b * w) head) hs used b head
  written_free w e fits few many inside above =
      rw e
      (written_first fits few many inside (set ws (b * state_words m k) head) (first_others m k ws b head) above
      (get_or-set_same ws (b * state_words m k) head 0
      (omega (arith, slot_fits b index.linked (state_words m k) (omega (arith, inside, fits.in_slots many)), fits.inside))))
