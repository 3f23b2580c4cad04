use mathlib.Core.Path.{◌∙◌}
use lib.Dec.{eqb}
use lib.ListN.{get_or}
use borrow.Author.Tests.{tests}
use Rattle.std.proofs.Common.{arith, rules}
use Rattle.std.proofs.lemmas.Iterator.{YieldsList-from_range}
use Rattle.std.proofs.lemmas.Iterator.Search.{any_from_yields_List}
use Rattle.model.specs.Jobs.{predecessors}
use Rattle.jobs.specs.internal.JobRow.{jobs_of_rows}
use Rattle.jobs.proofs.Jobs.{member_by_place}
use Rattle.jobs.proofs.is_predecessor.Goals as goal

pub returns : goal.returns
returns c = let l = predecessors (jobs_of_rows c.args.rows.now c.args.k) c.args.i in
    let n = c.predecessor_count.result in
    any_from_yields_List (λ j. eqb c.args.w (get_or l j 0)) _ _ _ c.any.ensures.ran (YieldsList-from_range 0 n n (cc) (omega arith)) (λ x b q k. search (rules, tests))
    ∙ member_by_place c.args.w l 0 n (omega arith)
