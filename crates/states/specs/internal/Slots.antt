-- A state in words: the set of started jobs as bits, then the availabilities and the finish ranges, lower ends before upper ones. Assumes nothing.
use Rattle.std.specs.Prelude.{ℕ, ◌+◌, ◌*◌, ◌/◌, ◌%◌, ◌^◌, ◌<◌, Bool, cond, List, eqb, get_or, take, drop}
use Rattle.model.specs.Limits.{latest_time}
use Rattle.model.specs.Jobs.{Job}
use Rattle.model.specs.States.{Range, empty, range, State}
use Rattle.model.specs.Exploration.{state_words}
use Rattle.model.specs.internal.Bounds.{Bounded}
use Rattle.words.specs.Tabulate.{tabulate}

-- ---- where things stand, with m cores and k jobs

-- the words of the set, the low one first
abbrev pub set_words : ℕ
set_words = 2

abbrev pub possibly_at : ℕ
possibly_at = set_words

abbrev pub certainly_at : ℕ → ℕ
certainly_at m = set_words + m

abbrev pub earliest_at : ℕ → ℕ
earliest_at m = set_words + 2 * m

abbrev pub latest_at : ℕ → ℕ → ℕ
latest_at m k = set_words + 2 * m + k

-- ---- what the words say

-- the set: bit i says whether job i has started
unfoldable pub set_of : List ℕ → ℕ
set_of ws = get_or ws 0 0 + 4294967296 * get_or ws 1 0

abbrev pub in_set : ℕ → ℕ → Bool
in_set set i = eqb (set / 2 ^ i % 2) 1

unfoldable pub range_at : ℕ → ℕ → List ℕ → ℕ → Range
unfolding set_of
range_at m k ws i = cond (in_set (set_of ws) i) (range (get_or ws (earliest_at m + i) 0) (get_or ws (latest_at m k + i) 0)) empty

unfoldable pub state_of : ℕ → ℕ → List ℕ → State
unfolding tabulate range_at
state_of m k ws =
    record {
      finish = tabulate (range_at m k ws) 0 k;
      possibly_free = take m (drop possibly_at ws);
      certainly_free = take m (drop (certainly_at m) ws);
    }

-- ---- many states, one after the other

-- the words of slot j
abbrev pub slot_of : ℕ → ℕ → List ℕ → ℕ → List ℕ
slot_of m k ws j = take (state_words m k) (drop (j * state_words m k) ws)

-- the states in the first n slots
unfoldable pub states_of : ℕ → ℕ → List ℕ → ℕ → List State
unfolding tabulate state_of
states_of m k ws n = tabulate (λ (j : ℕ). state_of m k (slot_of m k ws j)) 0 n

-- the words of a state in use: no job from k on is in the set, and every time is bounded
pub record Sound (js : List Job) (m k : ℕ) (ws : List ℕ) : Type 0 where
  pub set_fits : set_of ws < 2 ^ k
  pub bounded : Bounded js latest_time (state_of m k ws)

abbrev pub AllSound : List Job → ℕ → ℕ → List ℕ → ℕ → Type 0
AllSound js m k ws n = (j : ℕ) → j < n → Sound js m k (slot_of m k ws j)
