-- The three parts that it writes are the row.
use Prim.Native.Nat.{ℕ}
use mathlib.Core.Path.{ap, ◌∙◌}
use mathlib.Core.List.{List}
use Rattle.model.specs.Jobs.{job, predecessors}
use Rattle.words.specs.internal.Placed.{placed}
use Rattle.jobs.specs.internal.JobRow.{predecessor_count_at, rest_at}
use Rattle.jobset.specs.internal.Making.{jobs_held, predecessor_words, origin_words}
use Rattle.jobset.proofs.Held.{few_predecessors, row_made}
use Rattle.jobset.proofs.write_job.Goals as goal

pub returns : goal.returns
returns c = let t = c.args.phrase.now in
    let js = jobs_held t in
    let i = c.args.i in
    c.write_origin.ensures
    ∙ ap (λ (r : List ℕ). placed r rest_at (origin_words (job js i)))
    (c.write_predecessors.ensures ∙ ap (λ (r : List ℕ). placed r predecessor_count_at (predecessor_words (predecessors js i))) c.write_demand.ensures)
    ∙ row_made js i c.args.row.now (few_predecessors t c.requires.0 i c.requires.1) c.requires.2
