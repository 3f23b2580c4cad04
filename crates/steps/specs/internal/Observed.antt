-- The observed finish ranges in words: the earliest of every job, then the latest. Assumes nothing.
use Rattle.std.specs.Prelude.{ℕ, ◌+◌, ◌*◌, ◌≤◌, ◌<◌, ◌≡◌, List, get_or, length}
use Rattle.model.specs.Limits.{most_jobs}
use Rattle.model.specs.States.{Range}
use Rattle.words.specs.Tabulate.{tabulate}
use Rattle.ranges.specs.internal.Ranges.{range_in}

abbrev pub observed_words : ℕ
observed_words = 2 * most_jobs

abbrev pub observed_at : List ℕ → ℕ → Range
observed_at ws i = range_in (get_or ws i 0) (get_or ws (most_jobs + i) 0)

-- the ranges of k jobs
unfoldable pub observed_of : ℕ → List ℕ → List Range
unfolding tabulate
observed_of k ws = tabulate (observed_at ws) 0 k

-- the words are there, and are 0 from job k on
pub record Observed (k : ℕ) (ws : List ℕ) : Type 0 where
  pub long : length ws ≡ observed_words
  pub beyond : (i : ℕ) → k ≤ i → i < most_jobs → (get_or ws i 0 ≡ 0) × (get_or ws (most_jobs + i) 0 ≡ 0)
