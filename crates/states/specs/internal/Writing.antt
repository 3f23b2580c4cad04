-- What writing a state leaves: a job started, a state restored, and ranges widened. Assumes nothing.
use Rattle.std.specs.Prelude.{ℕ, ◌+◌, ◌≤◌, ◌<◌, min, max, ◌≡◌, get_or, set, take, drop}
use mathlib.Core.List.{List, zip_with}
use Rattle.model.specs.States.{State, range}
use Rattle.model.specs.Edges.{availability}
use Rattle.states.specs.internal.Slots.{earliest_at, latest_at, set_of, state_of}
use Rattle.states.specs.declared.starting.JobStart.{JobStart}

-- the state once job i has started, at s at the earliest, to finish from e to f
abbrev pub with_start : State → ℕ → ℕ → ℕ → ℕ → State
with_start σ i s e f =
    record {
      finish = set σ.finish i (range e f);
      possibly_free = availability s e σ.possibly_free;
      certainly_free = availability s f σ.certainly_free;
    }

abbrev pub after_start : State → JobStart → State
after_start σ x = with_start σ x.job x.start x.earliest x.latest

-- the finish times of every job but i have their words
abbrev pub OtherFinishesKept : ℕ → ℕ → ℕ → List ℕ → List ℕ → Type 0
OtherFinishesKept m k i ws vs =
    (j : ℕ) → j < k → (j ≡ i → ⊥)
    → (get_or vs (earliest_at m + j) 0 ≡ get_or ws (earliest_at m + j) 0) × (get_or vs (latest_at m k + j) 0 ≡ get_or ws (latest_at m k + j) 0)

-- the words say the same of the state, with the same front
pub record Restored (m k : ℕ) (ws vs : List ℕ) : Type 0 where
  pub state : state_of m k vs ≡ state_of m k ws
  pub set : set_of vs ≡ set_of ws
  pub front : take (earliest_at m) vs ≡ take (earliest_at m) ws

-- from word a on d and s have n ranges, n lower ends before n upper ones: out has each as the smallest that contains both, and d's words around them
pub record Widened (a n : ℕ) (d s out : List ℕ) : Type 0 where
  pub low : take n (drop a out) ≡ zip_with min (take n (drop a d)) (take n (drop a s))
  pub high : take n (drop (a + n) out) ≡ zip_with max (take n (drop (a + n) d)) (take n (drop (a + n) s))
  pub before : (b c : ℕ) → b + c ≤ a → take c (drop b out) ≡ take c (drop b d)
  pub after : (b c : ℕ) → a + n + n ≤ b → take c (drop b out) ≡ take c (drop b d)
