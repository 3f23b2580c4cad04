use Prim.Native.Nat.{◌≤◌, ◌<◌}
use mathlib.Core.Path.{◌≡◌, sym, ◌∙◌}
use native.Mathlib.Omega.{arith}
use lib.ListN.{length}
use Rattle.model.specs.Jobs.{predecessors}
use Rattle.jobs.specs.internal.JobRow.{jobs_of_rows}
use Rattle.jobs.specs.internal.Rests.{last_rest}
use Rattle.jobs.proofs.Jobs.{length_jobs}
use Rattle.jobs.proofs.Rests.{last_rest_at_most, has_last}
use Rattle.playing.specs.Playing.{scenario_in}
use Rattle.dispatch.proofs.Waking.{looked_next, wake_waits, wake_unrested, wake_rested}
use Rattle.dispatch.proofs.wakes.wake.Goals as goal
use Rattle.dispatch.proofs.wakes.wake.Goals.{After-loop-l, Else-rest-eq0}

-- all were looked at
through : (d : After-loop-l) → length (predecessors (jobs_of_rows d.args.rows.now d.args.k) d.args.j) ≤ d.loop-l.l
through d = omega (arith, d.loop-l.invariant.0)

-- the bell rests after the last of them
rests : (c : Else-rest-eq0) → last_rest (jobs_of_rows c.args.rows.now c.args.k) c.args.j ≡ 0 → ⊥
rests c e = c.if-rest-eq0.false (c.last_rest-rest.ensures ∙ e)

pub returns-then-finish-eq0 : goal.returns-then-finish-eq0
returns-then-finish-eq0 c = let i = c.loop-l in
    wake_waits (jobs_of_rows c.args.rows.now c.args.k) (scenario_in c.args.playing.now) c.args.finishes.now c.args.j i.l i.from i.invariant.1 c.predecessor-w.result
    (omega (arith, i.invariant.0)) c.predecessor-w.ensures.0 c.if-finish-eq0.true

pub loop-l-preserved : goal.loop-l-preserved
loop-l-preserved c = let i = c.loop-l in (
  i.invariant.0,
  rw c.max-from.ensures (looked_next c.args.finishes.now (predecessors (jobs_of_rows c.args.rows.now c.args.k) c.args.j) ((scenario_in c.args.playing.now).release c.args.j) i.l i.from i.invariant.1
      c.predecessor-w.result (omega (arith, i.invariant.0)) c.predecessor-w.ensures.0 c.if-finish-eq0.false),
)

pub returns-then-rest-eq0 : goal.returns-then-rest-eq0
returns-then-rest-eq0 c = let i = c.loop-l in
    wake_unrested (jobs_of_rows c.args.rows.now c.args.k) (scenario_in c.args.playing.now) c.args.finishes.now c.args.j i.l i.from i.invariant.1 (through (goal.at.returns-then-rest-eq0 c).After-loop-l) (sym c.last_rest-rest.ensures ∙ c.if-rest-eq0.true)

pub overflow_sub-count : goal.overflow_sub-count
overflow_sub-count c = omega (arith, c.loop-l.invariant.0, has_last (jobs_of_rows c.args.rows.now c.args.k) c.args.j (rests c))

pub predecessor-last-requires : goal.predecessor-last-requires
predecessor-last-requires c = let known = c.requires in
    (known.0, omega (arith, c.loop-l.invariant.0, has_last (jobs_of_rows c.args.rows.now c.args.k) c.args.j (rests c)), known.1.rows_of)

pub overflow_add-finishes : goal.overflow_add-finishes
overflow_add-finishes c = let inside : c.args.j < length (jobs_of_rows c.args.rows.now c.args.k) = omega (arith, c.requires.0, length_jobs c.args.rows.now c.args.k) in
    omega (
      arith,
      c.requires.1.finishes_small c.predecessor-last.result (omega (arith, c.predecessor-last.ensures.1, c.requires.0)),
      c.last_rest-rest.ensures,
      last_rest_at_most (jobs_of_rows c.args.rows.now c.args.k) c.args.j,
      c.requires.1.rests c.args.j inside,
    )

pub returns : goal.returns
returns c = let i = c.loop-l in
    c.max.ensures
    ∙ wake_rested (jobs_of_rows c.args.rows.now c.args.k) (scenario_in c.args.playing.now) c.args.finishes.now c.args.j i.l i.from i.invariant.1 (through (goal.at.returns c).After-loop-l) _ c.predecessor-last.result c.last_rest-rest.result
    i.invariant.0 c.predecessor-last.ensures.0 c.last_rest-rest.ensures c.if-rest-eq0.false
