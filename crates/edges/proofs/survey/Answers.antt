use Prim.Native.Nat.{ℕ, suc, ◌+◌, ◌*◌, ◌<◌, ◌≤◌, min, max}
use mathlib.Core.Path.{◌≡◌, refl, sym, ap, ◌∙◌, subst}
use mathlib.Core.Bool.{Bool, true, false, cond}
use mathlib.Core.List.{List}
use native.Mathlib.Omega.{arith}
use lib.Dec.{leb, eqb}
use lib.ListN.{get_or, length, take, length-set}
use lib.Seq.{take_all}
use borrow.Author.Tests.{leb-false}
use Rattle.model.specs.Limits.{latest_time, longest_rest}
use Rattle.model.specs.Folds.{all}
use Rattle.model.specs.Jobs.{job}
use Rattle.model.specs.Edges.{candidate, certainly_ready}
use Rattle.model.proofs.Booleans.{ind_le}
use Rattle.model.proofs.Bounds.{certainly_ready_up_to}
use Rattle.jobs.specs.internal.JobRow.{jobs_of_rows}
use Rattle.jobs.proofs.Jobs.{length_jobs}
use Rattle.states.specs.internal.Slots.{certainly_at, state_of}
use Rattle.edges.specs.internal.Edges.{latest_start_time, candidates, no_limit, limit_word, smallest_in, moments, holder_word, Holding}
use Rattle.edges.proofs.Listing.{few_listed, listed_candidate}
use Rattle.edges.proofs.Folds.{smallest_with}
use Rattle.edges.proofs.Edges.{first_certainly, bound_is}
use Rattle.edges.proofs.Holders.{holding_none, holding_less, holding_next}
use Rattle.edges.proofs.survey.Goals as goal
use Rattle.edges.proofs.survey.Goals.{In-loop-listed}

-- the job at the place is one of the k
below : (c : In-loop-listed) → get_or c.args.list.now c.loop-listed.listed-index 0 < c.args.k
below c =
    (listed_candidate (jobs_of_rows c.args.rows.now c.args.k) (state_of c.args.m c.args.k c.args.s.now) c.args.k
    c.args.list.now c.requires.0.listed c.loop-listed.listed-index (omega arith)).0

-- it is certainly ready at a moment
early : (c : In-loop-listed) → certainly_ready (jobs_of_rows c.args.rows.now c.args.k) (state_of c.args.m c.args.k c.args.s.now) (get_or c.args.list.now c.loop-listed.listed-index 0) ≤ latest_start_time
early c =
    let js = jobs_of_rows c.args.rows.now c.args.k in
    let given = c.requires.0.readable in
    certainly_ready_up_to js latest_time longest_rest given.setting.timed given.setting.rests (state_of c.args.m c.args.k c.args.s.now) given.bounded _
    (omega (arith, below c, length_jobs c.args.rows.now c.args.k))

-- there is room for a word more
room : (c : In-loop-listed) → c.loop-listed.n < length c.args.holders.now
room c =
    let p = candidate (jobs_of_rows c.args.rows.now c.args.k) (state_of c.args.m c.args.k c.args.s.now) in
    omega (arith, c.requires.1, ap length c.requires.0.listed, few_listed p c.args.k, c.loop-listed.invariant.0)

not_past : (b : Bool) (x y : ℕ) → cond b x (max x y) ≤ max x y
not_past true x y = omega arith
not_past false x y = omega arith

pub loop-listed-init : goal.loop-listed-init
loop-listed-init c = let a = c.args in
    (omega arith, refl, refl, holding_none (jobs_of_rows a.rows.now a.k) (state_of a.m a.k a.s.now) a.k _)

pub ready-ready-requires : goal.ready-ready-requires
ready-ready-requires c = (below (goal.at.ready-ready-requires c).In-loop-listed, c.requires.0.readable)

pub precedence-requires : goal.precedence-requires
precedence-requires c = (below (goal.at.precedence-requires c).In-loop-listed, c.requires.0.readable.setting.jobs, c.requires.0.readable.setting.rows_of)

pub overflow_add-holders : goal.overflow_add-holders
overflow_add-holders c = omega (arith, c.precedence.ensures.1, c.ready-ready.ensures, early (goal.at.overflow_add-holders c).In-loop-listed)

pub offset_bounds-holders-n : goal.offset_bounds-holders-n
offset_bounds-holders-n c = omega (arith, room (goal.at.offset_bounds-holders-n c).In-loop-listed, c.loop-listed.invariant.1)

pub bounds-holders-n : goal.bounds-holders-n
bounds-holders-n c = omega (arith, room (goal.at.bounds-holders-n c).In-loop-listed, c.loop-listed.invariant.1)

pub latest_release-requires : goal.latest_release-requires
latest_release-requires c = (below (goal.at.latest_release-requires c).In-loop-listed, c.requires.0.readable.setting.rows_of)

pub loop-listed-preserved : goal.loop-listed-preserved
loop-listed-preserved c = let a = c.args in
    let given = c.requires.0.readable in
    let i = c.loop-listed in
    let js = jobs_of_rows a.rows.now a.k in
    let σ = state_of a.m a.k a.s.now in
    let list = a.list.now in
    let j = get_or list i.listed-index 0 in
    let r = c.ready-ready in
    let f = c.min-first in
    let p = c.precedence in
    let b = leb c.latest_release.result c.max.result in
    let free = get_or a.s.now (certainly_at a.m) 0 in
    let h : i.listed-index < length list = omega arith in
    let less : suc (max free f.result) ≤ suc (max free i.first) = omega (arith, f.ensures) in
    let later : b ≡ false → suc (max free f.result) ≤ (job js j).latest_release =
    λ e. omega (arith, leb-false c.latest_release.result c.max.result e, c.latest_release.ensures, c.max.ensures) in
    let word : p.result * moments + r.result ≡ holder_word js σ j = omega (arith, p.ensures.0, r.ensures) in (
      omega (arith, ind_le b, i.invariant.0),
      simp length-set i.invariant.1,
      f.ensures ∙ ap (min i.first) r.ensures ∙ smallest_with all (certainly_ready js σ) list i.listed-index i.first h i.invariant.2 refl (omega (arith, early (goal.at.loop-listed-preserved c).In-loop-listed)),
      holding_next js given.setting.timed given.setting.rests σ given.bounded a.k (sym (length_jobs a.rows.now a.k)) (suc (max free i.first))
          (suc (max free f.result)) list i.listed-index h (below (goal.at.loop-listed-preserved c).In-loop-listed) less i.holders i.n (p.result * moments + r.result) (omega (arith, room (goal.at.loop-listed-preserved c).In-loop-listed, i.invariant.1)) word b later i.invariant.3,
    )

pub returns : goal.returns
returns c = let a = c.args in
    let given = c.requires.0.readable in
    let i = c.loop-listed in
    let js = jobs_of_rows a.rows.now a.k in
    let σ = state_of a.m a.k a.s.now in
    let free = get_or a.s.now (certainly_at a.m) 0 in
    let whole : take i.listed-index a.list.now ≡ candidates js σ a.k = take_all i.listed-index a.list.now (omega arith) ∙ c.requires.0.listed in
    let ready : i.first ≡ limit_word (smallest_in all (certainly_ready js σ) (candidates js σ a.k)) =
    i.invariant.2 ∙ ap (λ (l : List ℕ). limit_word (smallest_in all (certainly_ready js σ) l)) whole in
    let bound = c.bound_of.ensures ∙ bound_is js σ a.k (sym (length_jobs a.rows.now a.k)) given.setting.timed given.setting.rests given.bounded free i.first
    (sym (first_certainly a.m a.k a.s.now given.setting.cores)) ready in
    let nearer : suc c.bound_of.result ≤ suc (max free i.first) = omega (arith, c.bound_of.ensures, not_past (eqb i.first no_limit) free i.first) in record {
      bound_value = bound;
      holders_in_bounds = (
        omega (arith, i.invariant.0, i.invariant.1, c.requires.1, ap length c.requires.0.listed, few_listed (candidate js σ) a.k),
        subst (λ (l : List ℕ). Holding js σ a.k (suc c.bound_of.result) l (take i.n i.holders)) whole
            (holding_less js σ a.k (suc (max free i.first)) (suc c.bound_of.result) (take i.listed-index a.list.now) (take i.n i.holders) nearer i.invariant.3),
      );
    }
