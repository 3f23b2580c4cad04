use mathlib.Core.Path.{sym, ap, ◌∙◌}
use native.Mathlib.Omega.{arith}
use lib.ListN.{take, drop}
use Rattle.fields.proofs.ListedJobs.{listed_at, sized, listed_is}
use Rattle.fields.proofs.notes.listed_jobs.Goals as goal

pub slice_bounds-result-count : goal.slice_bounds-result-count
slice_bounds-result-count c = omega (arith, (sized c.args.part.now c.requires).0, c.byte.ensures.0)

pub slice_bounds-result-start : goal.slice_bounds-result-start
slice_bounds-result-start c = omega (arith, (sized c.args.part.now c.requires).0, c.byte.ensures.0)

pub returns : goal.returns
returns c = let p = c.args.part.now in
    ap (λ n. take n (drop listed_at p)) (omega (arith, sized p c.requires, c.byte.ensures.0)) ∙ sym (listed_is p c.requires)
