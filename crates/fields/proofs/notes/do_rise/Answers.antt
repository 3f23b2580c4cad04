-- The rest of the jobs, from `low` on, gives the answer.
use mathlib.Core.Path.{◌≡◌, sym, ap, subst, ◌∙◌}
use Prim.Native.Nat.{ℕ, ◌+◌}
use mathlib.Core.List.{List}
use native.Mathlib.Omega.{arith}
use lib.ListN.{drop, get_or}
use Rattle.format.specs.Rules.{rises}
use Rattle.format.proofs.Rising.{low_one, high_one, next_one, last_one}
use Rattle.fields.specs.internal.Numbers.{AreNumbers}
use Rattle.fields.proofs.notes.do_rise.Goals as goal
use Rattle.fields.proofs.notes.do_rise.Goals.{After-into-job}
use Rattle.fields.proofs.notes.do_rise.Given.{Over}

-- the number of the job at the place
read : (g : Over) (c : After-into-job g) (numbers : List ℕ) → AreNumbers g.T.Into.converts c.args.jobs.now numbers
    → c.into-job.result ≡ get_or numbers c.loop-listed.listed-index 0
read g c numbers x =
    let e = subst (λ v. g.T.Into.converts v c.into-job.result) c.listed-item.is c.into-job.ensures in
    x.each c.loop-listed.listed-index c.into-job.result c.listed-item.result c.loop-listed-test.true e

pub returns-then-job-low : goal.returns-then-job-low
returns-then-job-low g c = λ numbers x.
    let v = c.loop-listed in
    let job = read g (goal.at.returns-then-job-low g c).After-into-job numbers x in
    sym (low_one numbers v.listed-index (omega (arith, x.many)) c.args.own v.low (omega (arith, job))) ∙ v.invariant numbers x

pub returns-then-own-job : goal.returns-then-own-job
returns-then-own-job g c = λ numbers x.
    let v = c.loop-listed in
    let job = read g (goal.at.returns-then-own-job g c).After-into-job numbers x in
    sym (high_one numbers v.listed-index (omega (arith, x.many)) c.args.own v.low (omega (arith, job)) (omega (arith, job)))
    ∙ v.invariant numbers x

pub loop-listed-preserved : goal.loop-listed-preserved
loop-listed-preserved g c = λ numbers x.
    let v = c.loop-listed in
    let job = read g (goal.at.loop-listed-preserved g c).After-into-job numbers x in
    ap (λ n. rises c.args.own n (drop (v.listed-index + 1) numbers)) (omega (arith, job))
    ∙ sym (next_one numbers v.listed-index (omega (arith, x.many)) c.args.own v.low (omega (arith, job)) (omega (arith, job)))
    ∙ v.invariant numbers x

pub returns : goal.returns
returns g c = λ numbers x.
    let v = c.loop-listed in
    sym (last_one numbers v.listed-index c.args.own v.low (omega (arith, x.many))) ∙ v.invariant numbers x
