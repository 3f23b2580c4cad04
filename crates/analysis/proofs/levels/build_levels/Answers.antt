-- `build_levels`: before each level, what is stored is the definition's level before it.
use mathlib.Core.Path.{◌∙◌}
use native.Mathlib.Omega.{arith}
use Rattle.std.proofs.lemmas.Result.{err_from_is_err_and}
use Rattle.analysis.proofs.LevelsBuilt.{levels_end, levels_go_on, levels_stop, level_linkable}
use Rattle.analysis.proofs.levels.build_levels.Goals as goal

pub build_level-requires-clause-heads_len : goal.build_level-requires-clause-heads_len
build_level-requires-clause-heads_len c =
    let index = c.index_of in
    let i = c.loop-depth.invariant in
    (i.1, index.ensures.0 c.args.m c.args.k, level_linkable i.0 index.result c.loop-depth-test.true index.ensures.1)

pub returns-in_err-n : goal.returns-in_err-n
returns-in_err-n c =
    let y = c.build_level in
    let stop = err_from_is_err_and c.from_residual.result c.from_residual.ensures.1 in
    let o = levels_stop c.loop-depth.invariant.0 c.loop-depth-test.true y.auto.table y.ensures.leaves y.ensures.table_after c.in_err-n.was in
    rw (stop.1, stop.2) (record { seen_after = o.0; observed = o.1.0; table_unchanged = o.1.1 })

pub loop-depth-preserved : goal.loop-depth-preserved
loop-depth-preserved c =
    let y = c.build_level in
    let i = c.loop-depth.invariant in
    (levels_go_on i.0 c.loop-depth-test.true y.auto.table y.ensures.leaves y.ensures.table_after c.in_ok-n.was, y.auto.heads ∙ i.1)

pub returns-clause-seen_after : goal.returns-clause-seen_after
returns-clause-seen_after c = (levels_end c.loop-depth.invariant.0 (omega (arith, c.loop-depth-test.false))).0
