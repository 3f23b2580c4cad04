-- The result of the analysis, from the rows of the jobs. Assumes nothing.
use Rattle.std.specs.Prelude.{ℕ, List}
use Rattle.model.specs.Exploration.{analysis, capacity}
use Rattle.jobs.specs.internal.JobRow.{jobs_of_rows}
use Rattle.checking.specs.Checking.{result_of}
use Rattle.checking.specs.declared.Checked.{Checked}

-- the result that the analysis of the jobs of k rows on m cores gives, with a table of so many words
abbrev pub analysed_of : List ℕ → ℕ → ℕ → ℕ → Checked
analysed_of rows k m words = result_of (jobs_of_rows rows k) (analysis (jobs_of_rows rows k) m (capacity words m k))
