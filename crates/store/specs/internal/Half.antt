-- What a half of the table holds before and after a state is stored in it. Assumes nothing.
use Rattle.std.specs.Prelude.{ℕ, ◌+◌, ◌*◌, ◌^◌, ◌≤◌, ◌<◌, ◌≡◌, true, false, List, length, Option, Some, None}
use Rattle.model.specs.Jobs.{Job}
use Rattle.model.specs.States.{Range, State, level}
use Rattle.model.specs.Exploration.{mergeable, merge, Exploration, going, full, state_words}
use Rattle.states.specs.internal.Slots.{set_of, state_of, slot_of, states_of, AllSound}
use Rattle.links.specs.internal.Spare.{Kept}

-- the level that the half holds once σ is stored, or that it has no room for it
abbrev pub level_of : ℕ → ℕ → State → List Range → ℕ → Option ℕ → List ℕ → Exploration
level_of m k σ seen c (Some n) ws = going (states_of m k ws n) seen c
level_of m k σ seen c None ws = full (level σ)

-- the states of the level are sound, and not too many
abbrev pub SoundAt : List Job → ℕ → ℕ → ℕ → Option ℕ → List ℕ → Type 0
SoundAt js m k cap (Some n) ws = (n ≤ cap) × AllSound js m k ws n
SoundAt js m k cap None ws = Unit {0}

-- no job from k on is in the set of one of the first n states
abbrev pub SetsFit : ℕ → ℕ → List ℕ → ℕ → Type 0
SetsFit m k ws n = (j : ℕ) → j < n → set_of (slot_of m k ws j) < 2 ^ k

-- none of the first n states can merge with the new one
abbrev pub NoneMerges : ℕ → ℕ → List ℕ → List ℕ → ℕ → Type 0
NoneMerges m k half new n = (j : ℕ) → j < n → mergeable (state_of m k (slot_of m k half j)) (state_of m k new) ≡ false

-- j is the first of n states that can merge with the new one
pub record FirstMerging (m k : ℕ) (half : List ℕ) (n : ℕ) (new : List ℕ) (j : ℕ) : Type 0 where
  pub inside : j < n
  pub none_before : NoneMerges m k half new j
  pub merges : mergeable (state_of m k (slot_of m k half j)) (state_of m k new) ≡ true

abbrev pub FoundMerging : ℕ → ℕ → List ℕ → ℕ → List ℕ → Option ℕ → Type 0
FoundMerging m k half n new (Some j) = FirstMerging m k half n new j
FoundMerging m k half n new None = NoneMerges m k half new n

-- every slot but j has its words
abbrev pub OthersKept : ℕ → ℕ → ℕ → List ℕ → List ℕ → Type 0
OthersKept m k j ws vs = (i : ℕ) → (i ≡ j → ⊥) → i * state_words m k + state_words m k ≤ length ws → slot_of m k vs i ≡ slot_of m k ws i

-- the state in the slot, and its set, are as they were
abbrev pub KeptAt : ℕ → ℕ → List ℕ → List ℕ → ℕ → Type 0
KeptAt m k ws vs i = Kept m k (slot_of m k ws i) (slot_of m k vs i)

-- slot j has the new state
pub record Put (m k : ℕ) (new out : List ℕ) (j : ℕ) : Type 0 where
  pub state : state_of m k (slot_of m k out j) ≡ state_of m k new
  pub set : set_of (slot_of m k out j) ≡ set_of new

-- slot j has what the new state makes of the one that was there
pub record MergedAt (m k : ℕ) (half new out : List ℕ) (j : ℕ) : Type 0 where
  pub state : state_of m k (slot_of m k out j) ≡ merge (state_of m k (slot_of m k half j)) (state_of m k new)
  pub set : set_of (slot_of m k out j) ≡ set_of (slot_of m k half j)

-- r is the first of n states, from one of them on, that has the set
pub record NextOfSet (m k : ℕ) (ws : List ℕ) (n from set r : ℕ) : Type 0 where
  pub not_before : from ≤ r
  pub inside : r < n
  pub none_between : (j : ℕ) → j < r → from ≤ j → set_of (slot_of m k ws j) ≡ set → ⊥
  pub has_set : set_of (slot_of m k ws r) ≡ set

abbrev pub FoundOfSet : ℕ → ℕ → List ℕ → ℕ → ℕ → ℕ → Option ℕ → Type 0
FoundOfSet m k ws n from set (Some r) = NextOfSet m k ws n from set r
FoundOfSet m k ws n from set None = (j : ℕ) → j < n → from ≤ j → set_of (slot_of m k ws j) ≡ set → ⊥
