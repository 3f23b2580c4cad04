-- The spare words of a state: the finish times of the first job that has not started. Assumes nothing.
use Rattle.std.specs.Prelude.{ℕ, ◌+◌, ◌-◌, ◌≡◌, List, get_or}
use Rattle.std.specs.Int.Count.{count_trailing_zeros}
use Rattle.states.specs.internal.Slots.{earliest_at, latest_at, set_of, state_of}

-- the first job that is not in the set
unfoldable pub spare_of : ℕ → ℕ
spare_of set = count_trailing_zeros 64 (18446744073709551615 - set)

-- a word in place of one of its finish times
unfoldable pub word_of : (ℕ → ℕ → ℕ) → ℕ → ℕ → List ℕ → ℕ
unfolding spare_of
word_of at m k ws = get_or ws (at m k + spare_of (set_of ws)) 0

-- a head, in place of the earliest
abbrev pub head_of : ℕ → ℕ → List ℕ → ℕ
head_of = word_of (λ m k. earliest_at m)

-- a link, in place of the latest
abbrev pub link_of : ℕ → ℕ → List ℕ → ℕ
link_of = word_of latest_at

-- the words say the same of the state
pub record Kept (m k : ℕ) (ws vs : List ℕ) : Type 0 where
  pub set : set_of vs ≡ set_of ws
  pub state : state_of m k vs ≡ state_of m k ws
