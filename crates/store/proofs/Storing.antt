-- Where the model stores a state, and the states that a half then holds. Assumes nothing.
use Prim.Native.Nat.{ℕ, zero, suc, ◌+◌, ◌*◌, ◌^◌, ◌≤◌, ◌<◌}
use mathlib.Core.Path.{◌≡◌, refl, sym, ap, ◌∙◌}
use mathlib.Core.Logic.{◌⊎◌, inl, inr, ⊎_elim}
use mathlib.Core.Bool.{Bool, true, false}
use mathlib.Core.List.{List, [], ◌∷◌, ◌++◌}
use native.Mathlib.Nat.{zero-add, suc-mul, mul-le-mul_right, le_of_suc-le-suc, not-suc-le-zero}
use native.Mathlib.Numerals.{add-one, lt_of_le_of_ne}
use native.Mathlib.Decide.{ℕ_discrete}
use native.Mathlib.Omega.{arith}
use lib.Dec.{ltb}
use lib.ListN.{length, get_or, set, length-set, length-append}
use lib.Seq.{get_or-set_same, get_or-set_other}
use borrow.Author.Count.{below_more}
use borrow.Author.Tests.{ltb-true, ltb-false, lt-ltb, le-ltb}
use borrow.Rule.Slice.PartMut.{put_mid}
use Rattle.model.specs.Jobs.{Job}
use Rattle.model.specs.Limits.{latest_time}
use Rattle.model.specs.States.{Range, State}
use Rattle.model.specs.Exploration.{mergeable, merge, stored, going, limited, state_words}
use Rattle.model.proofs.Bounds.{merge_bounded}
use Rattle.words.proofs.Tabulate.{length_tabulate, get_or_tabulate, tabulate_ext, tabulate_is, tabulate_snoc}
use Rattle.words.proofs.Parts.{part_same, part_before, part_after}
use Rattle.states.specs.internal.Slots.{set_of, state_of, slot_of, states_of, Sound, AllSound}
use Rattle.states.proofs.Merges.{mergeable_set}
use Rattle.store.specs.internal.Half.{level_of, SoundAt, SetsFit, NoneMerges, FirstMerging, OthersKept, KeptAt, Put, MergedAt}
use Rattle.std.specs.Prelude.{Option, Some, None}

-- ---- where the model stores a state

stored_merged : (σ : State) (l : List State) (j : ℕ) (d : State) → j < length l → ((i : ℕ) → i < j → mergeable (get_or l i d) σ ≡ false)
    → mergeable (get_or l j d) σ ≡ true → stored σ l ≡ set l j (merge (get_or l j d) σ)
unfolding stored
stored_merged σ [] j d h n e = absurd (not-suc-le-zero h)
stored_merged σ (τ ∷ τs) zero d h n e = rw e
stored_merged σ (τ ∷ τs) (suc j) d h n e =
    rw (n 0 (omega arith)) (ap (λ (l : List State). τ ∷ l) (stored_merged σ τs j d (le_of_suc-le-suc h) (λ i b. n (suc i) (omega arith)) e))

stored_last : (σ : State) (l : List State) (d : State) → ((i : ℕ) → i < length l → mergeable (get_or l i d) σ ≡ false) → stored σ l ≡ l ++ (σ ∷ [])
unfolding stored
stored_last σ [] d n = refl
stored_last σ (τ ∷ τs) d n = rw (n 0 (omega arith)) (ap (λ (l : List State). τ ∷ l) (stored_last σ τs d (λ i b. n (suc i) (omega arith))))

-- ---- slots

-- slot j of n lies within
pub slot_fits : (j n w : ℕ) → j < n → j * w + w ≤ n * w
slot_fits j n w h = omega (arith, suc-mul j w, mul-le-mul_right w h)

apart : (i j w : ℕ) → (i ≡ j → ⊥) → (i * w + w ≤ j * w) ⊎ (j * w + w ≤ i * w)
apart i j w ne = go (ltb i j) refl
  where
    go : (b : Bool) → ltb i j ≡ b → (i * w + w ≤ j * w) ⊎ (j * w + w ≤ i * w)
    go true e = inl (slot_fits i j w (ltb-true i j e))
    go false e = inr (slot_fits j i w (lt_of_le_of_ne (ltb-false i j e) (λ z. ne (sym z))))

module _ (m k : ℕ) (half ys : List ℕ) (j : ℕ) (h : j * state_words m k + state_words m k ≤ length half) (l : length ys ≡ state_words m k) where
  abbrev W : ℕ
  W = state_words m k

  -- the slot has the words put there
  pub slot_same : slot_of m k (put_mid (j * W) W half ys) j ≡ ys
  slot_same = part_same (j * W) W half ys h l

  -- the other slots stay
  pub others_kept : OthersKept m k j half (put_mid (j * W) W half ys)
  others_kept i ne g = ⊎_elim (part_before (j * W) W half ys h l (i * W) W) (part_after (j * W) W half ys h l (i * W) W) (apart i j W ne)

-- ---- the states of a half

module _ (m k : ℕ) (ws : List ℕ) (n : ℕ) where
  states_length : length (states_of m k ws n) ≡ n
  unfolding states_of
  states_length = length_tabulate (λ (j : ℕ). state_of m k (slot_of m k ws j)) 0 n

  state_at : (j : ℕ) (d : State) → j < n → get_or (states_of m k ws n) j d ≡ state_of m k (slot_of m k ws j)
  unfolding states_of
  state_at j d h = get_or_tabulate (λ (i : ℕ). state_of m k (slot_of m k ws i)) 0 n j d h ∙ ap (λ (i : ℕ). state_of m k (slot_of m k ws i)) (zero-add j)

  module _ (vs : List ℕ) (τ : State) where
    -- one state in the place of another
    states_set : (j : ℕ) → j < n → state_of m k (slot_of m k vs j) ≡ τ → ((i : ℕ) → i < n → (i ≡ j → ⊥) → KeptAt m k ws vs i)
        → states_of m k vs n ≡ set (states_of m k ws n) j τ
    unfolding states_of
    states_set j h e g = tabulate_is (λ (i : ℕ). state_of m k (slot_of m k vs i)) n (set (states_of m k ws n) j τ) τ (length-set (states_of m k ws n) j τ ∙ states_length) (λ i b. go i b (ℕ_discrete i j))
      where
        go : (i : ℕ) → i < n → Dec (i ≡ j) → state_of m k (slot_of m k vs i) ≡ get_or (set (states_of m k ws n) j τ) i τ
        go i b (yes p) = rw (p, e) (sym (get_or-set_same (states_of m k ws n) j τ τ (omega (arith, states_length))))
        go i b (no p) = (g i b p).state ∙ sym (get_or-set_other (states_of m k ws n) j i τ τ p ∙ state_at i τ b)

    -- one state more
    states_more : state_of m k (slot_of m k vs n) ≡ τ → ((i : ℕ) → i < n → KeptAt m k ws vs i) → states_of m k vs (n + 1) ≡ states_of m k ws n ++ (τ ∷ [])
    unfolding states_of
    states_more e g =
        let f : ℕ → State = λ i. state_of m k (slot_of m k vs i) in
        rw (
          add-one n,
          tabulate_snoc f 0 n,
          zero-add n,
          e,
          tabulate_ext f (λ (i : ℕ). state_of m k (slot_of m k ws i)) 0 n (λ i b. (g (0 + i) (omega arith)).state),
        ) refl

-- ---- what storing leaves

module _ (m k : ℕ) (half new : List ℕ) (n cap : ℕ) (room : cap * state_words m k ≤ length half) (most : n ≤ cap) where
  abbrev state : State
  state = state_of m k new

  abbrev states : List State
  states = states_of m k half n

  abbrev Result : Option ℕ → List ℕ → Type 0
  Result r out =
      ((seen : List Range) (c : ℕ) → level_of m k state seen c r out ≡ limited cap state (stored state states) seen c)
      × ((js : List Job) → AllSound js m k half n → Sound js m k new → SoundAt js m k cap r out)

  -- a state added behind leaves those before it, and a merge all but one
  kept : (i j : ℕ) (out : List ℕ) → OthersKept m k j half out → i < n → (i ≡ j → ⊥) → KeptAt m k half out i
  kept i j out o b ne =
      let e = o i ne (omega (arith, slot_fits i cap (state_words m k) (omega arith))) in
      record { set = ap set_of e; state = ap (state_of m k) e }

  pub slots_kept : (out : List ℕ) → OthersKept m k n half out → (i : ℕ) → i < n → KeptAt m k half out i
  slots_kept out o i g = kept i n out o g (λ (z : i ≡ n). omega (arith, z, g))

  -- what is kept is sound
  sound_kept : (js : List Job) (i : ℕ) (out : List ℕ) → KeptAt m k half out i → Sound js m k (slot_of m k half i) → Sound js m k (slot_of m k out i)
  sound_kept js i out same s = record { set_fits = rw same.set s.set_fits; bounded = rw same.state s.bounded }

  in_room : (out : List ℕ) (count : ℕ) → states_of m k out count ≡ stored state states → count ≤ cap → (seen : List Range) (c : ℕ) → going (states_of m k out count) seen c ≡ limited cap state (stored state states) seen c
  unfolding limited
  in_room out count e h seen c =
      let l : length (stored state states) ≤ cap = omega (arith, ap length e, states_length m k out count) in
      rw (le-ltb cap (length (stored state states)) l, e) refl

  -- what a merge leaves is the level that the definition stores
  pub merged_result : (j : ℕ) (out : List ℕ) → FirstMerging m k half n new j → MergedAt m k half new out j → OthersKept m k j half out
      → Result (Some n) out
  merged_result j out f p o = (in_room out n level most, λ js a s. (most, λ i b. sound js a s i b (ℕ_discrete i j)))
    where
      h : j < n
      h = f.inside

      level : states_of m k out n ≡ stored state states
      level =
          states_set m k half n out (merge (state_of m k (slot_of m k half j)) state) j h p.state (λ i b ne. kept i j out o b ne)
          ∙ ap (λ (τ : State). set states j (merge τ state)) (sym (state_at m k half n j state h))
          ∙ sym (stored_merged state states j state (omega (arith, states_length m k half n))
          (λ i b. ap (λ (τ : State). mergeable τ state) (state_at m k half n i state (omega arith)) ∙ f.none_before i b)
          (ap (λ (τ : State). mergeable τ state) (state_at m k half n j state h) ∙ f.merges))

      sound : (js : List Job) → AllSound js m k half n → Sound js m k new → (i : ℕ) → i < n → Dec (i ≡ j) → Sound js m k (slot_of m k out i)
      sound js a s i b (yes z) =
          rw z (record { set_fits = rw p.set (a j h).set_fits; bounded = rw p.state (merge_bounded js latest_time (state_of m k (slot_of m k half j)) state (a j h).bounded s.bounded) })
      sound js a s i b (no z) = sound_kept js i out (kept i j out o b z) (a i b)

  module _ (none : NoneMerges m k half new n) where
    last : stored state states ≡ states ++ (state ∷ [])
    last = stored_last state states state (λ i b. let b₁ : i < n = omega (arith, b, states_length m k half n) in ap (λ (τ : State). mergeable τ state) (state_at m k half n i state b₁) ∙ none i b₁)

    -- so is what adding the state leaves
    pub added_result : (out : List ℕ) → n < cap → Put m k new out n → ((i : ℕ) → i < n → KeptAt m k half out i) → Result (Some (n + 1)) out
    added_result out b p same =
        (in_room out (n + 1) level (omega arith), λ js a s. (omega arith, below_more (λ (i : ℕ). Sound js m k (slot_of m k out i)) n (λ i g. sound_kept js i out (same i g) (a i g)) (sound js s)))
      where
        level : states_of m k out (n + 1) ≡ stored state states
        level = states_more m k half n out state p.state same ∙ sym last

        sound : (js : List Job) → Sound js m k new → Sound js m k (slot_of m k out n)
        sound js s = record { set_fits = rw p.set s.set_fits; bounded = rw p.state s.bounded }

    -- and with no room, the level is full
    pub full_result : cap ≤ n → Result None half
    unfolding limited
    full_result b = (λ seen c. rw (lt-ltb cap (length (stored state states)) (omega (arith, ap length last, length-append states (state ∷ []), states_length m k half n))) refl, λ js a s. tt)

-- the new state and the first that merges with it have one set
pub one_set : (m k : ℕ) (half new : List ℕ) (n j : ℕ) → SetsFit m k half n → set_of new < 2 ^ k → FirstMerging m k half n new j → set_of (slot_of m k half j) ≡ set_of new
one_set m k half new n j a s f = mergeable_set m k (slot_of m k half j) new (a j f.inside) s f.merges
