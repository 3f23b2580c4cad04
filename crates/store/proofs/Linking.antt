-- How the index of a level is kept while a state is stored. Assumes nothing.
use Prim.Native.Nat.{ℕ, ◌+◌, ◌*◌, ◌≤◌, ◌<◌}
use mathlib.Core.Path.{◌≡◌, refl, sym, ap, ◌∙◌, subst}
use mathlib.Core.Bool.{Bool, true, false, cond}
use mathlib.Core.List.{List}
use native.Mathlib.Numerals.{lt_of_le_of_ne}
use native.Mathlib.Decide.{ℕ_discrete}
use native.Mathlib.Omega.{arith}
use lib.Dec.{leb, ltb}
use lib.ListN.{get_or, length}
use borrow.Author.Count.{below_more}
use borrow.Author.Tests.{ltb-true, ltb-false, lt-ltb, le-ltb, leb-false}
use Rattle.std.specs.Prelude.{Some, None}
use Rattle.model.specs.Exploration.{state_words}
use Rattle.states.specs.internal.Slots.{set_of, state_of, slot_of}
use Rattle.links.specs.internal.Spare.{spare_of, link_of, head_of}
use Rattle.store.specs.internal.Half.{OthersKept, KeptAt, Put}
use Rattle.store.specs.internal.Chains.{LastBefore}
use Rattle.store.specs.internal.Index.{bucket_of, bucket_at, link_at, slot_head, head_room, head_at, Fits, Spared, used_of, Linked, Indexed, SpareKept}
use Rattle.store.specs.declared.Index.{Index}
use Rattle.store.proofs.Storing.{slot_fits}
use Rattle.store.proofs.Slots.{first_word}
use Rattle.store.proofs.Indexing.{bucket_inside}
use Rattle.store.proofs.Chains.{chains_same, chains_first, chains_last}

-- the new state was put in a free slot, to be linked
pub record PutLinked (m k : ℕ) (index : Index) (half heads : List ℕ) (n : ℕ) (new mid : List ℕ) : Type 0 where
  pub free : n < index.linked
  pub indexed : Indexed m k index half heads n
  pub spare : spare_of (set_of new) < k
  pub put : Put m k new mid n
  pub others : OthersKept m k n half mid
  pub ends : link_of m k (slot_of m k mid n) ≡ 0
  pub moved : head_of m k (slot_of m k mid n) ≡ get_or half (n * state_words m k) 0

module _ (m k : ℕ) (index : Index) where
  abbrev W : ℕ
  W = state_words m k

  -- ---- heads

  head_in : (ws : List ℕ) (used b : ℕ) → b < used → slot_head m k ws used b ≡ head_of m k (slot_of m k ws b)
  head_in ws used b h = ap (λ (t : Bool). cond t (head_of m k (slot_of m k ws b)) (get_or ws (b * W) 0)) (lt-ltb b used h)

  head_past : (ws : List ℕ) (used b : ℕ) → used ≤ b → slot_head m k ws used b ≡ get_or (slot_of m k ws b) 0 0
  head_past ws used b h =
      ap (λ (t : Bool). cond t (head_of m k (slot_of m k ws b)) (get_or ws (b * W) 0)) (le-ltb b used h) ∙ sym (first_word m k ws b)

  -- heads that are not in slots stay
  head_same : (ws vs heads : List ℕ) (used used' b : ℕ) → (head_room < index.buckets → slot_head m k vs used' b ≡ slot_head m k ws used b)
      → head_at m k index vs heads used' b ≡ head_at m k index ws heads used b
  head_same ws vs heads used used' b e = go (leb index.buckets head_room) refl
    where
      go : (t : Bool) → leb index.buckets head_room ≡ t → cond t (get_or heads b 0) (slot_head m k vs used' b) ≡ cond t (get_or heads b 0) (slot_head m k ws used b)
      go true q = refl
      go false q = e (leb-false index.buckets head_room q)

  -- a head in a slot that keeps its words, or its spare ones
  slot_head_same : (ws vs : List ℕ) (used b : ℕ) → (b < used → head_of m k (slot_of m k vs b) ≡ head_of m k (slot_of m k ws b))
      → (used ≤ b → slot_of m k vs b ≡ slot_of m k ws b) → slot_head m k vs used b ≡ slot_head m k ws used b
  slot_head_same ws vs used b e f = go (ltb b used) refl
    where
      go : (t : Bool) → ltb b used ≡ t → slot_head m k vs used b ≡ slot_head m k ws used b
      go true q = let h = ltb-true b used q in head_in vs used b h ∙ e h ∙ sym (head_in ws used b h)
      go false q =
          let h = ltb-false b used q in
          head_past vs used b h ∙ ap (λ (z : List ℕ). get_or z 0 0) (f h) ∙ sym (head_past ws used b h)

  module _ (half heads : List ℕ) (fits : Fits m k (length half) index) where
    -- the linked slots lie inside
    inside : (i : ℕ) → i < index.linked → i * W + W ≤ length half
    inside i h = omega (arith, slot_fits i index.linked W h, fits.inside)

    -- every linked state has a bucket
    bucketed : (x i : ℕ) → i < index.linked → bucket_of index.buckets x < index.buckets
    bucketed x i h = bucket_inside index.buckets x (fits.some (omega (arith, h)))

    -- ---- a merge

    module _ (n j : ℕ) (out : List ℕ) (indexed : Indexed m k index half heads n) (others : OthersKept m k j half out) where
      -- with a linked state
      pub merged_linked : j < used_of index n → set_of (slot_of m k out j) ≡ set_of (slot_of m k half j) → SpareKept m k half out j → Indexed m k index out heads n
      merged_linked h same spare =
          record {
            long = indexed.long;
            spared = λ i l. rw (sets i l) (indexed.spared i l);
            linked = chains_same indexed.linked (bucket_at index.buckets m k out) (head_at m k index out heads (used_of index n)) (link_at m k out)
                (λ i l. ap (bucket_of index.buckets) (sets i l))
                (λ i l. head_same half out heads (used_of index n) (used_of index n) (bucket_at index.buckets m k half i)
                (λ g. head (bucket_at index.buckets m k half i) (omega (arith, bucketed (set_of (slot_of m k half i)) i (omega (arith, l)), fits.in_slots g))))
                (λ i l. link i l (ℕ_discrete i j));
          }
        where
          slot : (i : ℕ) → i < index.linked → (i ≡ j → ⊥) → slot_of m k out i ≡ slot_of m k half i
          slot i l d = others i d (inside i l)

          sets : (i : ℕ) → i < used_of index n → set_of (slot_of m k out i) ≡ set_of (slot_of m k half i)
          sets i l = go (ℕ_discrete i j)
            where
              go : Dec (i ≡ j) → set_of (slot_of m k out i) ≡ set_of (slot_of m k half i)
              go (yes z) = rw z same
              go (no d) = ap set_of (slot i (omega (arith, l)) d)

          link : (i : ℕ) → i < used_of index n → Dec (i ≡ j) → link_at m k out i ≡ link_at m k half i
          link i l (yes z) = rw z spare.link
          link i l (no d) = ap (link_of m k) (slot i (omega (arith, l)) d)

          head : (b : ℕ) → b < index.linked → slot_head m k out (used_of index n) b ≡ slot_head m k half (used_of index n) b
          head b l = slot_head_same half out (used_of index n) b (λ g. go (ℕ_discrete b j)) (λ g. slot b l (λ z. omega (arith, z, g, h)))
            where
              go : Dec (b ≡ j) → head_of m k (slot_of m k out b) ≡ head_of m k (slot_of m k half b)
              go (yes z) = rw z spare.head
              go (no d) = ap (head_of m k) (slot b l d)

      -- what is done behind the linked slots leaves the index
      pub unlinked_same : (n' : ℕ) → index.linked ≤ j → used_of index n' ≡ used_of index n → Indexed m k index out heads n'
      unlinked_same n' h e =
          record {
            long = indexed.long;
            spared = rw e (λ i l. rw (slot i (omega (arith, l))) (indexed.spared i l));
            linked = rw e (chains_same indexed.linked (bucket_at index.buckets m k out) (head_at m k index out heads (used_of index n)) (link_at m k out)
                (λ i l. ap (λ (z : List ℕ). bucket_of index.buckets (set_of z)) (slot i (omega (arith, l))))
                (λ i l. head_same half out heads (used_of index n) (used_of index n) (bucket_at index.buckets m k half i)
                (λ g. head (bucket_at index.buckets m k half i) (omega (arith, bucketed (set_of (slot_of m k half i)) i (omega (arith, l)), fits.in_slots g))))
                (λ i l. ap (link_of m k) (slot i (omega (arith, l)))));
          }
        where
          slot : (i : ℕ) → i < index.linked → slot_of m k out i ≡ slot_of m k half i
          slot i l = others i (λ z. omega (arith, z, l, h)) (inside i l)

          head : (b : ℕ) → b < index.linked → slot_head m k out (used_of index n) b ≡ slot_head m k half (used_of index n) b
          head b l = slot_head_same half out (used_of index n) b (λ g. ap (head_of m k) (slot b l)) (λ g. slot b l)

    -- ---- a linked state more

    module _ (n : ℕ) (new mid : List ℕ) (start : PutLinked m k index half heads n new mid) where
      abbrev lt : n < index.linked
      lt = start.free

      abbrev β : List ℕ → ℕ → ℕ
      β ws = bucket_at index.buckets m k ws

      all_used : used_of index n ≡ n
      all_used = omega (arith, lt)

      all_used_more : used_of index (n + 1) ≡ n + 1
      all_used_more = omega (arith, lt)

      chains : Linked m k index half heads n
      chains = subst (λ (z : ℕ). Linked m k index half heads z) all_used start.indexed.linked

      slot : (i : ℕ) → i < index.linked → (i ≡ n → ⊥) → slot_of m k mid i ≡ slot_of m k half i
      slot i l d = start.others i d (inside i l)

      before : (i : ℕ) → i < n → slot_of m k mid i ≡ slot_of m k half i
      before i l = slot i (omega (arith, l, lt)) (λ z. omega (arith, z, l))

      put_kept : (i : ℕ) → i < n → KeptAt m k half mid i
      put_kept i l = record { set = ap set_of (before i l); state = ap (state_of m k) (before i l) }

      pub put_spared : Spared m k mid (n + 1)
      put_spared = below_more (λ (i : ℕ). spare_of (set_of (slot_of m k mid i)) < k) n
          (λ i l. rw (before i l) (start.indexed.spared i (rw all_used l)))
          (rw start.put.set start.spare)

      -- the heads stay: that of the slot taken moved into its spare words
      slot_heads : (b : ℕ) → b < index.linked → slot_head m k mid (n + 1) b ≡ slot_head m k half n b
      slot_heads b l = go (ltb b n) refl
        where
          at : Dec (b ≡ n) → n ≤ b → slot_head m k mid (n + 1) b ≡ slot_head m k half n b
          at (yes z) g =
              rw z (head_in mid (n + 1) n (omega arith) ∙ start.moved ∙ sym (first_word m k half n) ∙ sym (head_past half n n (omega arith)))
          at (no d) g =
              head_past mid (n + 1) b (omega (arith, lt_of_le_of_ne g (λ z. d (sym z)))) ∙ ap (λ (z : List ℕ). get_or z 0 0) (slot b l d)
              ∙ sym (head_past half n b g)

          go : (t : Bool) → ltb b n ≡ t → slot_head m k mid (n + 1) b ≡ slot_head m k half n b
          go true q =
              let h = ltb-true b n q in
              head_in mid (n + 1) b (omega (arith, h)) ∙ ap (head_of m k) (before b h) ∙ sym (head_in half n b h)
          go false q = at (ℕ_discrete b n) (ltb-false b n q)

      put_heads : (b : ℕ) → b < index.buckets → head_at m k index mid heads (n + 1) b ≡ head_at m k index half heads n b
      put_heads b l = head_same half mid heads n (n + 1) b (λ g. slot_heads b (omega (arith, l, fits.in_slots g)))

      module _ (out heads' : List ℕ) (b : ℕ) (own : b ≡ bucket_of index.buckets (set_of new)) (kept : (i : ℕ) → i < n + 1 → KeptAt m k mid out i) where
        more_put : Put m k new out n
        more_put =
            let e = kept n (omega arith) in
            record { state = e.state ∙ start.put.state; set = e.set ∙ start.put.set }

        more_kept : (i : ℕ) → i < n → KeptAt m k half out i
        more_kept i l =
            let e = kept i (omega (arith, l)) in
            record { set = e.set ∙ (put_kept i l).set; state = e.state ∙ (put_kept i l).state }

        spared : Spared m k out (n + 1)
        spared i l = rw (kept i l).set (put_spared i l)

        -- what is to be shown: the state is stored, those before it say what they said, and all are linked
        abbrev Appended : Type 0
        Appended = (Put m k new out n × ((i : ℕ) → i < n → KeptAt m k half out i)) × Indexed m k index out heads' (n + 1)

        more : length heads' ≡ head_room → Linked m k index out heads' (n + 1) → Appended
        more long c = (
          (more_put, more_kept),
          record {
            long = long;
            spared = subst (λ (z : ℕ). Spared m k out z) (sym all_used_more) spared;
            linked = subst (λ (z : ℕ). Linked m k index out heads' z) (sym all_used_more) c;
          },
        )

        same : (i : ℕ) → i < n → β out i ≡ β half i
        same i l = ap (bucket_of index.buckets) (more_kept i l).set

        own_there : β out n ≡ b
        own_there = ap (bucket_of index.buckets) more_put.set ∙ sym own

        range : (i : ℕ) → i < n → β half i < index.buckets
        range i l = bucketed (set_of (slot_of m k half i)) i (omega (arith, l, lt))

        -- the first of its bucket
        pub head_written : LastBefore n (β half) b n None → length heads' ≡ head_room
            → head_at m k index out heads' (n + 1) b ≡ n
            → ((x : ℕ) → x < index.buckets → (x ≡ b → ⊥) → head_at m k index out heads' (n + 1) x ≡ head_at m k index mid heads (n + 1) x)
            → ((i : ℕ) → i < n + 1 → link_at m k out i ≡ link_at m k mid i) → Appended
        head_written none long head rest links =
            more long (chains_first chains (β out) (head_at m k index out heads' (n + 1)) (link_at m k out) b same own_there
            (omega (arith, links n (omega arith), start.ends))
            (λ i l d. rest (β half i) (range i l) d ∙ put_heads (β half i) (range i l))
            (λ i l d. links i (omega (arith, l)) ∙ ap (link_of m k) (before i l))
            none head)

      -- one behind the last of its bucket
      module _ (out : List ℕ) (last b : ℕ) (long : length mid ≡ length half) (own : b ≡ bucket_of index.buckets (set_of new)) (earlier : last < n) (at_last : KeptAt m k mid out last)
          (but_last : OthersKept m k last mid out) where
        out_slot : (i : ℕ) → i < index.linked → (i ≡ last → ⊥) → slot_of m k out i ≡ slot_of m k mid i
        out_slot i l d = but_last i d (omega (arith, inside i l, long))

        pub link_kept : (i : ℕ) → i < n + 1 → KeptAt m k mid out i
        link_kept i l = go (ℕ_discrete i last)
          where
            go : Dec (i ≡ last) → KeptAt m k mid out i
            go (yes z) = rw z at_last
            go (no d) =
                let e = out_slot i (omega (arith, l, lt)) d in
                record { set = ap set_of e; state = ap (state_of m k) e }

        pub link_written : LastBefore n (β half) b n (Some last) → link_at m k out last ≡ n → head_of m k (slot_of m k out last) ≡ head_of m k (slot_of m k mid last)
            → Appended out heads b own link_kept
        link_written before_it to-new head =
            more out heads b own link_kept start.indexed.long
            (chains_last chains (β out) (head_at m k index out heads (n + 1)) (link_at m k out) b (same out heads b own link_kept) (own_there out heads b own link_kept)
            (omega (arith, new_link, start.ends))
            (λ i l d. out_head (β half i) (range out heads b own link_kept i l))
            (λ i l d. other_link i l (λ z. d (ap (β half) z ∙ before_it.1)))
            last earlier before_it.1 before_it.2
            (out_head b (subst (λ (z : ℕ). z < index.buckets) (sym own) (bucketed (set_of new) n lt)))
            to-new other_link)
          where
            new_link : link_at m k out n ≡ link_at m k mid n
            new_link = ap (link_of m k) (out_slot n lt (λ z. omega (arith, z, earlier)))

            other_link : (i : ℕ) → i < n → (i ≡ last → ⊥) → link_at m k out i ≡ link_at m k half i
            other_link i l d = ap (link_of m k) (out_slot i (omega (arith, l, lt)) d ∙ before i l)

            out_slot_head : (x : ℕ) → x < index.linked → slot_head m k out (n + 1) x ≡ slot_head m k mid (n + 1) x
            out_slot_head x l = slot_head_same mid out (n + 1) x (λ g. go (ℕ_discrete x last)) (λ g. out_slot x l (λ z. omega (arith, z, g, earlier)))
              where
                go : Dec (x ≡ last) → head_of m k (slot_of m k out x) ≡ head_of m k (slot_of m k mid x)
                go (yes z) = rw z head
                go (no d) = ap (head_of m k) (out_slot x l d)

            out_head : (x : ℕ) → x < index.buckets → head_at m k index out heads (n + 1) x ≡ head_at m k index half heads n x
            out_head x l =
                head_same mid out heads (n + 1) (n + 1) x (λ g. out_slot_head x (omega (arith, l, fits.in_slots g))) ∙ put_heads x l
