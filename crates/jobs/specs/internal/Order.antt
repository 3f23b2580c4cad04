-- The order of priority by one number. Assumes nothing.
use Rattle.std.specs.Prelude.{ℕ, ◌+◌, ◌*◌, List}
use Rattle.model.specs.Limits.{most_jobs}
use Rattle.model.specs.Jobs.{Job, job}

-- where job i stands: its priority counts first, then its number
abbrev pub precedence : List Job → ℕ → ℕ
precedence js i = (job js i).priority * most_jobs + i

-- a priority is a word, so that every such number is below this
abbrev pub places : ℕ
places = 4294967296 * most_jobs
