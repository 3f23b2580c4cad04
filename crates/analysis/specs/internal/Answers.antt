-- The two halves of the table, and the answer that an outcome gives with the words of the observed ranges. Assumes nothing.
use Rattle.std.specs.Prelude.{ℕ, ◌+◌, ◌*◌, ◌≤◌, ◌<◌, ◌⊎◌, List, Result, Ok, Err}
use Rattle.model.specs.Exploration.{Verdict, accepted, refused, late, state_words}
use Rattle.states.specs.internal.Slots.{slot_of}
use Rattle.steps.specs.internal.Observed.{observed_of}
use Rattle.steps.specs.internal.Progress.{Linkable}
use Rattle.steps.specs.declared.shape.Shape.{Shape}
use Rattle.steps.specs.declared.stop.Stop.{Stop}
use Rattle.steps.specs.declared.stop.Stop.TheVariants.{Full, Late}

-- the words of a half
abbrev pub half_words : Shape → ℕ
half_words shape = shape.capacity * state_words shape.cores shape.jobs

-- a half of so many words that is read, and one that is written: both lie in the table, apart from each other
pub record Halves (words size from to : ℕ) : Type 0 where
  pub source : from + size ≤ words
  pub target : to + size ≤ words
  pub apart : (from + size ≤ to) ⊎ (to + size ≤ from)

-- so many states of a half have successors that can be linked, where these are
abbrev pub AllLinkable : Shape → List ℕ → ℕ → Type 0
AllLinkable shape half n = (j : ℕ) → j < n → Linkable shape (slot_of shape.cores shape.jobs half j)

abbrev pub verdict_in : ℕ → Result ℕ Stop → List ℕ → Verdict
verdict_in k (Ok c) seen = accepted (observed_of k seen) c
verdict_in k (Err (Full l)) seen = refused 13 l
verdict_in k (Err (Late i e f)) seen = late i e f
