use Prim.Native.Nat.{ℕ, ◌-◌, ◌<◌}
use mathlib.Core.Path.{◌≡◌, sym, ap, ◌∙◌}
use native.Mathlib.Omega.{arith}
use lib.ListN.{get_or, length}
use Rattle.model.specs.Limits.{latest_time, longest_rest}
use Rattle.model.specs.Jobs.{predecessors}
use Rattle.model.specs.States.{finish_of}
use Rattle.jobs.specs.internal.JobRow.{jobs_of_rows}
use Rattle.jobs.specs.internal.Rests.{last_rest}
use Rattle.jobs.proofs.Jobs.{length_jobs}
use Rattle.jobs.proofs.Rests.{last_rest_at_most, has_last, none_rests, last_rests}
use Rattle.states.specs.internal.Slots.{state_of}
use Rattle.edges.specs.internal.Edges.{rested_after}
use Rattle.edges.proofs.rested.Goals as goal

pub returns-then-rest-eq0 : goal.returns-then-rest-eq0
unfolding rested_after
returns-then-rest-eq0 g c =
    let js = jobs_of_rows c.args.rows.now c.args.k in
    let finish = λ (w : ℕ). g.E.End.of (finish_of (state_of c.args.m c.args.k c.args.s.now) w) in
    sym (none_rests js c.args.i finish (sym c.last_rest-rest.ensures ∙ c.if-rest-eq0.true))

pub overflow_sub-last : goal.overflow_sub-last
overflow_sub-last g c =
    let js = jobs_of_rows c.args.rows.now c.args.k in
    let rests : last_rest js c.args.i ≡ 0 → ⊥ = λ e. c.if-rest-eq0.false (c.last_rest-rest.ensures ∙ e) in
    omega (arith, c.predecessor_count-last.ensures.0, has_last js c.args.i rests)

pub predecessor_finish-requires : goal.predecessor_finish-requires
predecessor_finish-requires g c =
    let js = jobs_of_rows c.args.rows.now c.args.k in
    let rests : last_rest js c.args.i ≡ 0 → ⊥ = λ e. c.if-rest-eq0.false (c.last_rest-rest.ensures ∙ e) in
    (c.requires.0, omega (arith, c.predecessor_count-last.ensures.0, has_last js c.args.i rests), c.requires.1)

pub overflow_add-result : goal.overflow_add-result
overflow_add-result g c =
    let js = jobs_of_rows c.args.rows.now c.args.k in
    let given = c.requires.1 in
    let inside : c.args.i < length js = omega (arith, c.requires.0, length_jobs c.args.rows.now c.args.k) in
    omega (
      arith,
      c.predecessor_finish.ensures,
      c.last_rest-rest.ensures,
      g.met.E.ReadyEnd.rested_up_to js latest_time longest_rest given.setting.rests (state_of c.args.m c.args.k c.args.s.now) given.bounded c.args.i inside,
      last_rest_at_most js c.args.i,
      given.setting.rests c.args.i inside,
    )

pub returns : goal.returns
unfolding rested_after
returns g c =
    let js = jobs_of_rows c.args.rows.now c.args.k in
    let finish = λ (w : ℕ). g.E.End.of (finish_of (state_of c.args.m c.args.k c.args.s.now) w) in
    let rests : last_rest js c.args.i ≡ 0 → ⊥ = λ e. c.if-rest-eq0.false (c.last_rest-rest.ensures ∙ e) in
    let waits = predecessors js c.args.i in
    let last : c.predecessor_finish.result ≡ finish (get_or waits (length waits - 1) 0) =
    c.predecessor_finish.ensures ∙ ap (λ (x : ℕ). finish (get_or waits x 0)) (omega (arith, c.predecessor_count-last.ensures.0)) in
    omega (arith, last, c.last_rest-rest.ensures, last_rests js c.args.i finish rests)
