-- The rest of a job's last wait. Assumes nothing.
use Rattle.std.specs.Prelude.{ℕ, cond, List}
use Rattle.model.specs.Jobs.{Job, job, nearest}
use Rattle.format.specs.Phrase.{is_some}

-- the rest of job i's wait for the last of its predecessors, where that is the nearest earlier job of its bell; 0 where there is none
unfoldable pub last_rest : List Job → ℕ → ℕ
unfolding nearest
last_rest js i = cond (is_some (nearest js (job js i).bell i)) (job js i).rest 0
