-- `try_state`: a job that is no candidate leaves the exploration as it is, and so does every job once it has stopped. The loop's
-- invariant: the candidates before `job` are tried, and the state in hand is restored.
use Prim.Native.Nat.{ℕ, ◌+◌, ◌^◌, ◌<◌}
use mathlib.Core.Path.{◌≡◌, sym, ap, ◌∙◌, subst}
use mathlib.Core.Bool.{true}
use native.Mathlib.Omega.{arith}
use lib.ListN.{get_or, take}
use lib.Seq.{length-take-le, take_at}
use Rattle.std.specs.Prelude.{Some}
use Rattle.std.proofs.lemmas.Result.{err_from_is_err_and}
use Rattle.model.specs.Limits.{latest_time}
use Rattle.model.specs.States.{State, level}
use Rattle.model.specs.Edges.{candidate}
use Rattle.model.specs.internal.Bounds.{Bounded}
use Rattle.states.specs.declared.starting.JobStart.{JobStart}
use Rattle.states.specs.internal.Slots.{earliest_at}
use Rattle.edges.specs.internal.Edges.{Readable}
use Rattle.edges.proofs.Listing.{listed_candidate}
use Rattle.steps.specs.internal.Progress.{jobs_in, state_in, going_in, FrontOf, Follows}
use Rattle.steps.proofs.Following.{edge_follows, most_positive, takes_time, edge_tried, Tried, tried_more, tried_all, tried_enough}
use Rattle.steps.proofs.explore.try_state.Goals as goal
use Rattle.steps.proofs.explore.try_state.Goals.{After-copy_front, After-edge_of-edge, After-follow, In-loop-job}

-- the front of the state
front_of : (c : After-copy_front) → FrontOf c.args.shape c.args.cur.now c.copy_front.new.dst
front_of c =
    let a = c.args in
    let p = c.requires in
    let e = c.copy_front.ensures in
    let l = length-take-le (earliest_at a.shape.cores) a.cur.now (omega (arith, p.jobs_in_bounds.0)) in
    (omega (arith, c.copy_front.auto.dst, p.setting.0.few_cores), ap (take (earliest_at a.shape.cores)) e ∙ take_at (take (earliest_at a.shape.cores) a.cur.now) _ (earliest_at a.shape.cores) l)

-- a listed job is a candidate
asked : (c : In-loop-job) → let i = get_or (take c.list_candidates-listed.result c.list_candidates-listed.new.list) c.loop-job.job-index 0 in
    (i < c.args.shape.jobs) × (candidate (jobs_in c.args.shape c.args.rows.now) (state_in c.args.shape c.args.cur.now) i ≡ true)
asked c =
    let a = c.args in
    let js = jobs_in a.shape a.rows.now in
    let l = c.list_candidates-listed in
    listed_candidate js (state_in a.shape a.cur.now) a.shape.jobs (take l.result l.new.list) (l.ensures.1 js c.requires.setting.2) c.loop-job.job-index c.loop-job-test.true

-- the state in hand is that of the entry, in words that can be read
again : (c : In-loop-job) → Readable c.args.rows.now c.args.shape.jobs c.loop-job.cur c.args.shape.cores
again c =
    let r = c.loop-job.invariant in
    let p = c.requires.jobs_in_bounds in
    let js = jobs_in c.args.shape c.args.rows.now in
    record { setting = c.requires.setting.0; words = omega (arith, p.0, r.2); bounded = subst (Bounded js latest_time) (sym r.1.state) p.1.bounded }

-- the job of an edge, and its moments
edge_is : (c : After-edge_of-edge) (x : JobStart) → c.edge_of-edge.result ≡ Some x → (x.job < c.args.shape.jobs) × Follows (jobs_in c.args.shape c.args.rows.now) (state_in c.args.shape c.args.cur.now) x
edge_is c x e =
    let a = c.args in
    let js = jobs_in a.shape a.rows.now in
    let σ = state_in a.shape a.cur.now in
    let same = rw c.loop-job.invariant.1.state at c.edge_of-edge.ensures.two in
    let f = edge_follows js σ _ x (sym same ∙ e) in
    let j = asked (goal.at.After-edge_of-edge c).In-loop-job in
    (omega (arith, f.0, j.0), f.1)

-- one candidate more is tried
more : (c : After-follow)
    → Tried (jobs_in c.args.shape c.args.rows.now) c.args.shape (state_in c.args.shape c.args.cur.now) (take c.list_candidates-listed.result c.list_candidates-listed.new.list)
    (λ x. going_in c.args.shape c.args.half.now c.args.n c.args.seen.now x) (c.loop-job.job-index + 1) c.follow.result c.follow.new.half c.observe_edge.new.seen c.follow.new.heads
more c =
    let a = c.args in
    let i = c.loop-job in
    let js = jobs_in a.shape a.rows.now in
    let σ = state_in a.shape a.cur.now in
    let w = c.observe_edge in
    let list = take c.list_candidates-listed.result c.list_candidates-listed.new.list in
    let same = rw i.invariant.1.state at c.edge_of-edge.ensures.two in
    let follows = rw i.invariant.1.state at c.follow.ensures.half_after in
    tried_more js a.shape σ list (λ x. going_in a.shape a.half.now a.n a.seen.now x) i.job-index c.loop-job-test.true i.invariant.0
    (edge_tried js a.shape σ (get_or list i.job-index 0) c.edge_of-edge.result same i.stored i.half i.seen
    c.follow.new.half w.new.seen c.follow.new.heads c.follow.result w.ensures.0 w.ensures.1 follows c.follow.ensures.half_at)

pub edge_of-edge-requires-clause-i_lt_k : goal.edge_of-edge-requires-clause-i_lt_k
edge_of-edge-requires-clause-i_lt_k c =
    let in_loop = (goal.at.edge_of-edge-requires-clause-i_lt_k c).In-loop-job in
    ((asked in_loop).0, again in_loop, c.requires.setting.1, c.requires.setting.2)

pub edge_of-edge-requires-clause-i_value : goal.edge_of-edge-requires-clause-i_value
edge_of-edge-requires-clause-i_value c =
    let j = asked (goal.at.edge_of-edge-requires-clause-i_value c).In-loop-job in
    rw c.loop-job.invariant.1.state (j.1, c.survey-shared.ensures.bound_value, c.survey-shared.ensures.holders_in_bounds.1)

pub observe_edge-requires : goal.observe_edge-requires
observe_edge-requires c =
    let a = c.args in (
      c.requires.setting.0.jobs,
      c.loop-job.invariant.0.observed,
      λ j e.
          let f = edge_is (goal.at.observe_edge-requires c).After-edge_of-edge j e in
          (f.0, takes_time (jobs_in a.shape a.rows.now) (state_in a.shape a.cur.now) j f.1 (most_positive a.rows.now a.shape.jobs a.shape.cores c.requires.setting.0 j.job f.0)),
    )

pub follow-requires : goal.follow-requires
follow-requires c =
    let a = c.args in
    let i = c.loop-job.invariant in
    let js = jobs_in a.shape a.rows.now in
    let f = front_of (goal.at.follow-requires c).After-copy_front in
    let readable = again (goal.at.follow-requires c).In-loop-job in (
      record {
        setting = c.requires.setting.0;
        words = readable.words;
        sound = record { set_fits = subst (λ (z : ℕ). z < 2 ^ a.shape.jobs) (sym i.1.set) c.requires.jobs_in_bounds.1.set_fits; bounded = readable.bounded };
        linkable = λ h. subst (λ (τ : State). level τ + 1 < a.shape.jobs) (sym i.1.state) (c.requires.jobs_in_bounds.4 h);
        target = i.0.sound;
      },
      (f.0, f.1 ∙ sym i.1.front),
      λ j e. let g = edge_is (goal.at.follow-requires c).After-edge_of-edge j e in (g.0, subst (λ (τ : State). Follows js τ j) (sym i.1.state) g.1),
    )

pub returns-in_err-stored : goal.returns-in_err-stored
returns-in_err-stored c =
    let a = c.args in
    let js = jobs_in a.shape a.rows.now in
    let l = c.list_candidates-listed in
    let stop = err_from_is_err_and c.from_residual.result c.from_residual.ensures.1 in
    let tried = rw c.in_err-stored.was at (more (goal.at.returns-in_err-stored c).After-follow) in
    rw (stop.1, stop.2)
    (tried_enough js a.shape (state_in a.shape a.cur.now) (take l.result l.new.list) (λ y. going_in a.shape a.half.now a.n a.seen.now y) (l.ensures.1 js c.requires.setting.2) (c.loop-job.job-index + 1) tried)

pub loop-job-preserved : goal.loop-job-preserved
loop-job-preserved c =
    let r = c.loop-job.invariant.1 in
    let q = c.follow.ensures.restored in
    let tried = rw c.in_ok-stored.was at (more (goal.at.loop-job-preserved c).After-follow) in
    (tried, record { state = q.state ∙ r.state; set = q.set ∙ r.set; front = q.front ∙ r.front }, c.follow.auto.cur ∙ c.loop-job.invariant.2)

pub returns : goal.returns
returns c =
    let a = c.args in
    let js = jobs_in a.shape a.rows.now in
    let l = c.list_candidates-listed in
    tried_all js a.shape (state_in a.shape a.cur.now) (take l.result l.new.list) (λ y. going_in a.shape a.half.now a.n a.seen.now y) (l.ensures.1 js c.requires.setting.2) c.loop-job.job-index
    c.loop-job-test.false c.loop-job.invariant.0
