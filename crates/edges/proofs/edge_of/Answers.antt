-- What it computes are the earliest and the latest start of the definition, so its comparison is that of the paper.
use Prim.Native.Nat.{ℕ, suc, ◌+◌, ◌<◌, ◌≤◌, min}
use mathlib.Core.Path.{◌≡◌, sym, ap, ap₂, ◌∙◌}
use mathlib.Core.Bool.{false}
use mathlib.Core.List.{List}
use native.Mathlib.Omega.{arith}
use lib.IntN.{pos, nat_abs}
use lib.ListN.{length}
use lib.Signed.{lt_z}
use mir.Syntax.{w64}
use mir.Val.{to_z, of_z}
use mir.ValLaws.{to_z_pos, to_z-of_z}
use Rattle.model.specs.Limits.{latest_time, longest_execution, longest_rest}
use Rattle.model.specs.Folds.{Limit}
use Rattle.model.specs.Jobs.{Job, job}
use Rattle.model.specs.States.{State}
use Rattle.model.specs.Edges.{earliest_start, higher_priority_bound, latest_start}
use Rattle.model.specs.Eligibility.{last_before, latest_start_z}
use Rattle.model.proofs.Bounds.{earliest_start_up_to, bound_up_to, latest_start_up_to}
use Rattle.jobs.specs.internal.JobRow.{jobs_of_rows, word, most_execution_at}
use Rattle.jobs.proofs.Jobs.{length_jobs, field_of}
use Rattle.states.specs.internal.Slots.{state_of}
use Rattle.edges.specs.internal.Edges.{latest_start_time, no_limit, limit_word}
use Rattle.edges.proofs.Edges.{higher_listed, last_in_word, same_edge, no_edge_found, a_time, edge_found}
use Rattle.edges.proofs.edge_of.Goals as goal
use Rattle.edges.proofs.edge_of.Goals.{After-latest_start-latest}

-- ---- what is computed before the comparison

module _ (c : After-latest_start-latest) where
  abbrev js : List Job
  js = jobs_of_rows c.args.rows.now c.args.k

  abbrev σ : State
  σ = state_of c.args.m c.args.k c.args.s.now

  every_job : c.args.k ≡ length js
  every_job = sym (length_jobs c.args.rows.now c.args.k)

  early : earliest_start js σ c.args.i ≤ latest_start_time
  early =
      let g = c.requires.i_lt_k.1 in
      earliest_start_up_to js latest_time longest_rest g.setting.timed g.setting.rests σ g.bounded c.args.i (omega (arith, c.requires.i_lt_k.0, every_job))

  -- the bound over the listed jobs is the higher-priority bound, as far as it is not past the work-conserving one
  higher_is : min (suc c.args.bound) c.higher_priority_bound-higher.result ≡ min (suc c.args.bound) (limit_word (higher_priority_bound js σ c.args.i))
  higher_is =
      let p = c.requires.i_value.2 in
      ap (min (suc c.args.bound)) (c.higher_priority_bound-higher.ensures p.holders) ∙ p.enough c.args.i
      ∙ ap (λ (l : Limit). min (suc c.args.bound) (limit_word l)) (higher_listed js σ c.args.k every_job c.args.i)

  latest_is : c.latest_start-latest.result ≡ latest_start_z js σ c.args.i
  unfolding latest_start_z
  latest_is =
      let g = c.requires.i_lt_k.1 in
      let bound_is = c.requires.i_value.1 in
      let timely : c.args.bound < no_limit = omega (arith, bound_is, bound_up_to js latest_time longest_rest g.setting.timed g.setting.rests σ g.bounded) in
      c.latest_start-latest.ensures
      ∙ last_in_word c.args.bound c.higher_priority_bound-higher.result (higher_priority_bound js σ c.args.i) timely higher_is
      ∙ ap (λ (x : ℕ). last_before x (higher_priority_bound js σ c.args.i)) bound_is

  read_back : to_z w64 (of_z w64 c.latest_start-latest.result) ≡ c.latest_start-latest.result
  read_back = to_z-of_z w64 c.latest_start-latest.result (record { sfits = c.latest_start-latest.type_inv })

  -- what is compared
  test_is : lt_z (to_z w64 (of_z w64 c.latest_start-latest.result)) (to_z w64 c.earliest_start-earliest.result) ≡ lt_z c.latest_start-latest.result (pos (earliest_start js σ c.args.i))
  test_is =
      ap₂ lt_z read_back
      (to_z_pos w64 c.earliest_start-earliest.result (omega (arith, early, c.earliest_start-earliest.ensures)) ∙ ap pos c.earliest_start-earliest.ensures)

  -- ---- what is computed after it, where the job is eligible

  module _ (ok : lt_z (to_z w64 (of_z w64 c.latest_start-latest.result)) (to_z w64 c.earliest_start-earliest.result) ≡ false) where
    passed : lt_z c.latest_start-latest.result (pos (earliest_start js σ c.args.i)) ≡ false
    passed = sym test_is ∙ ok

    -- the latest start is a time
    latest_time_holds : to_z w64 (of_z w64 c.latest_start-latest.result) ≡ pos (latest_start js σ c.args.i)
    latest_time_holds = read_back ∙ a_time js σ c.args.i c.latest_start-latest.result latest_is passed

  last_moment_holds : latest_start js σ c.args.i ≤ latest_start_time
  last_moment_holds =
      let g = c.requires.i_lt_k.1 in
      latest_start_up_to js latest_time longest_rest g.setting.timed g.setting.rests σ g.bounded c.args.i

  inside : c.args.i < length js
  inside = omega (arith, c.requires.i_lt_k.0, every_job)

  -- no execution takes long
  short : (job js c.args.i).most_execution ≤ longest_execution
  short =
      let h = c.requires.i_lt_k in
      let most : (job js c.args.i).most_execution ≡ word c.args.rows.now c.args.i most_execution_at =
      field_of c.args.rows.now c.args.k c.args.i most_execution_at h.0 (omega arith) in
      omega (arith, most, (h.1.setting.executions c.args.i h.0).1)

pub returns-then-latest-earliest : goal.returns-then-latest-earliest
returns-then-latest-earliest c =
    let o = (goal.at.returns-then-latest-earliest c).After-latest_start-latest in
    let none = no_edge_found (js o) (σ o) c.args.i c.latest_start-latest.result (latest_is o) (sym (test_is o) ∙ c.if-latest-earliest.true) in
    record { one = none; two = none ∙ same_edge (js o) (σ o) c.args.i c.requires.i_value.0 }

pub overflow_add-e : goal.overflow_add-e
overflow_add-e c =
    let o = (goal.at.overflow_add-e c).After-latest_start-latest in
    omega (arith, early o, short o, c.earliest_start-earliest.ensures, c.least_execution.ensures, c.requires.i_lt_k.1.setting.timed.executions c.args.i (inside o))

pub overflow_add-f : goal.overflow_add-f
overflow_add-f c =
    let o = (goal.at.overflow_add-f c).After-latest_start-latest in
    rw (latest_time_holds o c.if-latest-earliest.false) (omega (arith, last_moment_holds o, short o, c.most_execution.ensures))

pub returns : goal.returns
returns c =
    let o = (goal.at.returns c).After-latest_start-latest in
    let no = c.if-latest-earliest.false in
    let found = edge_found (js o) (σ o) c.args.i c.latest_start-latest.result (latest_is o) (passed o no) c.earliest_start-earliest.result
    (c.earliest_start-earliest.result + c.least_execution.result)
    (nat_abs (to_z w64 (of_z w64 c.latest_start-latest.result)) + c.most_execution.result)
    c.earliest_start-earliest.ensures
    (omega (arith, c.least_execution.ensures))
    (rw (latest_time_holds o no) (omega (arith, c.most_execution.ensures))) in
    record { one = found; two = found ∙ same_edge (js o) (σ o) c.args.i c.requires.i_value.0 }
