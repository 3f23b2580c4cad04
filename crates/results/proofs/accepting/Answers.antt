-- `accepting` meets its contract.
use mathlib.Core.Path.{sym, subst}
use Rattle.results.specs.internal.Finishes.{Released}
use Rattle.results.proofs.Results.{earliest_released, latest_released, accepted_result}
use Rattle.results.proofs.accepting.Goals as goal

pub responses-best-requires : goal.responses-best-requires
responses-best-requires c = let a = c.args in
    let h = c.requires in
    (h.rows_of, h.few, subst (Released a.rows.now a.k) (sym c.finish_times-earliest.ensures) (earliest_released a.rows.now a.k a.seen.now h))

pub responses-worst-requires : goal.responses-worst-requires
responses-worst-requires c = let a = c.args in
    let h = c.requires in
    (h.rows_of, h.few, subst (Released a.rows.now a.k) (sym c.finish_times-latest.ensures) (latest_released a.rows.now a.k a.seen.now h))

pub returns : goal.returns
returns c = accepted_result c.args.rows.now c.args.k c.args.seen.now c.requires c.args.states _ _ _ _ c.finish_times-earliest.ensures
    c.finish_times-latest.ensures c.responses-best.ensures c.responses-worst.ensures
