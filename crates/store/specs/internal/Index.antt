-- The index of a level, by which stored states are found: those of one bucket are linked, by words of the states and of the half. Assumes nothing.
use Rattle.std.specs.Prelude.{ℕ, ◌+◌, ◌*◌, ◌/◌, ◌%◌, ◌^◌, ◌≤◌, ◌<◌, min, ◌≡◌, cond, List, leb, ltb, get_or, length, Option, Some, None}
use Rattle.model.specs.Exploration.{state_words}
use Rattle.states.specs.internal.Slots.{set_of, slot_of}
use Rattle.links.specs.internal.Spare.{spare_of, link_of, head_of}
use Rattle.store.specs.internal.Half.{FoundMerging}
use Rattle.store.specs.internal.Chains.{Chains, LastBefore}
use Rattle.store.specs.declared.Index.{Index}
use Rattle.store.specs.declared.Search.{Search}

-- ---- what it is made of

-- a set's bucket, of so many
unfoldable pub bucket_of : ℕ → ℕ → ℕ
bucket_of buckets set = (set % 2 ^ 32 * 1640531527 + set / 2 ^ 32 * 668265263) % 2 ^ 32 * buckets / 2 ^ 32

abbrev pub bucket_at : ℕ → ℕ → ℕ → List ℕ → ℕ → ℕ
bucket_at buckets m k ws j = bucket_of buckets (set_of (slot_of m k ws j))

abbrev pub link_at : ℕ → ℕ → List ℕ → ℕ → ℕ
link_at m k ws j = link_of m k (slot_of m k ws j)

-- The head of bucket b in slot b of the half, where `used` slots have states: a slot that has none is free, and one that has has spare words.
abbrev pub slot_head : ℕ → ℕ → List ℕ → ℕ → ℕ → ℕ
slot_head m k ws used b = cond (ltb b used) (head_of m k (slot_of m k ws b)) (get_or ws (b * state_words m k) 0)

-- So many heads have a place of their own. Where there are more buckets, heads stand in the slots.
abbrev pub head_room : ℕ
head_room = 2048

abbrev pub head_at : ℕ → ℕ → Index → List ℕ → List ℕ → ℕ → ℕ → ℕ
head_at m k index ws heads used b = cond (leb index.buckets head_room) (get_or heads b 0) (slot_head m k ws used b)

-- A link or a head is a word of 32 bits: this is the last slot that it can name.
abbrev pub last_slot : ℕ
last_slot = 4294967295

-- ---- what holds of it

-- the linked slots lie in a half of so many words and can be named, and heads have room
pub record Fits (m k words : ℕ) (index : Index) : Type 0 where
  pub inside : index.linked * state_words m k ≤ words
  pub named : index.linked ≤ last_slot
  pub few : index.buckets ≤ last_slot
  pub some : 0 < index.linked → 0 < index.buckets
  pub in_slots : head_room < index.buckets → index.buckets ≤ index.linked

-- so many states have spare words
abbrev pub Spared : ℕ → ℕ → List ℕ → ℕ → Type 0
Spared m k ws used = (j : ℕ) → j < used → spare_of (set_of (slot_of m k ws j)) < k

-- of n states, those that are linked
abbrev pub used_of : Index → ℕ → ℕ
used_of index n = min n index.linked

-- so many states are linked, bucket by bucket
abbrev pub Linked : ℕ → ℕ → Index → List ℕ → List ℕ → ℕ → Type 0
Linked m k index ws heads used = Chains used (bucket_at index.buckets m k ws) (head_at m k index ws heads used) (link_at m k ws)

-- the index of a level of n states
pub record Indexed (m k : ℕ) (index : Index) (ws heads : List ℕ) (n : ℕ) : Type 0 where
  pub long : length heads ≡ head_room
  pub spared : Spared m k ws (used_of index n)
  pub linked : Linked m k index ws heads (used_of index n)

abbrev pub IndexedAt : ℕ → ℕ → Index → Option ℕ → List ℕ → List ℕ → Type 0
IndexedAt m k index (Some n) ws heads = Indexed m k index ws heads n
IndexedAt m k index None ws heads = Unit {0}

-- ---- what a search along the links of a bucket finds

-- the bucket is that of the new state; the linked state found is the first that can merge with it, or there is none and the last of the bucket is known
pub record Searched (m k : ℕ) (index : Index) (half : List ℕ) (used : ℕ) (new : List ℕ) (r : Search) : Type 0 where
  pub bucket : r.bucket ≡ bucket_of index.buckets (set_of new)
  pub merging : FoundMerging m k half used new r.merging
  pub last : r.merging ≡ None → LastBefore used (bucket_at index.buckets m k half) r.bucket used r.last

-- the spare words of slot j are as they were
pub record SpareKept (m k : ℕ) (ws vs : List ℕ) (j : ℕ) : Type 0 where
  pub link : link_of m k (slot_of m k vs j) ≡ link_of m k (slot_of m k ws j)
  pub head : head_of m k (slot_of m k vs j) ≡ head_of m k (slot_of m k ws j)
