-- The table of a phrase's job rows. Assumes nothing.
use Rattle.std.specs.Prelude.{ℕ, ◌*◌, List, ◌++◌, length, drop}
use Rattle.format.specs.Phrase.{Phrase}
use Rattle.format.specs.Jobs.{jobs_of}
use Rattle.jobs.specs.internal.JobRow.{row_words, job_rows}

-- the rows of the jobs, in the place of the first words of a table; the words after them stay
abbrev pub job_table : Phrase → List ℕ → List ℕ
job_table x t = job_rows (jobs_of x) (length (jobs_of x)) ++ drop (length (jobs_of x) * row_words) t
