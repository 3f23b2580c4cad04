use Prim.Native.Nat.{ℕ, ◌/◌, ◌<◌, min}
use mathlib.Core.Path.{◌≡◌, sym, ap, ◌∙◌}
use mathlib.Core.Bool.{Bool}
use mathlib.Core.List.{List}
use native.Mathlib.Omega.{arith}
use lib.Dec.{ltb}
use lib.ListN.{get_or, length, take}
use lib.Seq.{take_all}
use borrow.Author.Tests.{lt-ltb, le-ltb}
use Rattle.model.specs.Jobs.{before}
use Rattle.model.specs.Edges.{certainly_ready, certainly_ready_beside}
use Rattle.jobs.specs.internal.JobRow.{jobs_of_rows}
use Rattle.jobs.specs.internal.Order.{precedence}
use Rattle.states.specs.internal.Slots.{state_of}
use Rattle.edges.specs.internal.Edges.{limit_word, bound_over, moments}
use Rattle.edges.proofs.Folds.{smallest_with, smallest_without}
use Rattle.edges.proofs.Holders.{as_many, place_in, ready_in, job_in, job_inside, before_in}
use Rattle.edges.proofs.higher_priority_bound.Goals as goal
use Rattle.edges.proofs.higher_priority_bound.Goals.{then-place-own, else-place-own}

pub certainly_ready_for-requires : goal.certainly_ready_for-requires
certainly_ready_for-requires c = let p = c.requires in
    let js = jobs_of_rows c.args.rows.now c.args.k in
    let σ = state_of c.args.m c.args.k c.args.s.now in
    let ws = c.args.holders.now in
    let t = c.loop-holder.holder-index in
    let h : t < length ws = omega arith in
    let few = p.1.setting.jobs in
    let j = job_in js σ c.args.k few ws p.4 t h in
    let place = place_in js σ c.args.k few ws p.4 t h in (
      p.0,
      omega (arith, j, job_inside js σ c.args.k few ws p.4 t h),
      p.1,
      p.2,
      p.3,
      ready_in js σ c.args.k few ws p.4 t h ∙ ap (certainly_ready js σ) (sym j),
      λ e. omega (arith, place, ap (precedence js) (e ∙ j), c.precedence-own.ensures.0),
    )

pub loop-holder-preserved : goal.loop-holder-preserved
loop-holder-preserved c = let p = c.requires in
    let i = c.loop-holder in
    let js = jobs_of_rows c.args.rows.now c.args.k in
    let σ = state_of c.args.m c.args.k c.args.s.now in
    let ws = c.args.holders.now in
    let few = p.1.setting.jobs in
    let own = c.precedence-own in
    let q : ℕ → Bool = λ j. before js j c.args.i in
    let f = certainly_ready_beside js σ c.args.i in
    let b : i.holder-index < length ws = omega arith in
    λ h.
    let l = h.jobs in
    let room : i.holder-index < length l = omega (arith, as_many js σ c.args.k few ws h) in
    let j = job_in js σ c.args.k few ws h i.holder-index b in
    let first : q (get_or l i.holder-index 0) ≡ ltb (get_or ws i.holder-index 0 / moments) own.result =
    before_in js σ c.args.k few ws h i.holder-index b c.args.i p.0 ∙ ap (ltb (get_or ws i.holder-index 0 / moments)) (sym own.ensures.0) in
    elim c.if-place-own.branch [
      | then-place-own w ↦ w.first-is ∙ w.min-first.ensures ∙ ap (min i.first) (w.certainly_ready_for.ensures ∙ ap f j)
          ∙ smallest_with q f l i.holder-index i.first room (i.invariant h) (first ∙ lt-ltb _ _ w.if-place-own.true) (omega (arith, w.certainly_ready_for.ensures, ap f j))
      | else-place-own w ↦ w.first-is ∙ smallest_without q f l i.holder-index i.first room (i.invariant h) (first ∙ le-ltb _ _ w.if-place-own.false)
    ]

pub returns : goal.returns
returns c h = let js = jobs_of_rows c.args.rows.now c.args.k in
    let σ = state_of c.args.m c.args.k c.args.s.now in
    let t = c.loop-holder.holder-index in
    let e : take t h.jobs ≡ h.jobs = take_all t h.jobs (omega (arith, as_many js σ c.args.k c.requires.1.setting.jobs c.args.holders.now h)) in
    c.loop-holder.invariant h ∙ ap (λ (l : List ℕ). limit_word (bound_over js σ c.args.i l)) e
