-- The nearest below n is the nearest below the job's own number.
use Prim.Native.Nat.{◌-◌, ◌<◌}
use mathlib.Core.Path.{◌≡◌, sym, ap, ◌∙◌}
use native.Mathlib.Omega.{arith}
use lib.ListN.{length}
use Rattle.model.specs.Jobs.{job, nearest}
use Rattle.jobset.specs.internal.Making.{jobs_held, found_of}
use Rattle.jobset.proofs.Held.{few_jobs, struck_word_holds, nearest_here, nearest_on, nearest_none}
use Rattle.jobset.proofs.nearest_job.Goals as goal

pub note_word-struck-requires : goal.note_word-struck-requires
note_word-struck-requires c = (omega (arith, c.requires.1, few_jobs c.args.phrase.now c.requires.0), omega arith)

pub overflow_cast-result : goal.overflow_cast-result
overflow_cast-result c = omega (arith, c.requires.1, few_jobs c.args.phrase.now c.requires.0)

pub returns-then-struck-bell : goal.returns-then-struck-bell
returns-then-struck-bell c = let t = c.args.phrase.now in
    let v = c.loop-n in
    let there : v.n - 1 < length (jobs_held t) = omega (arith, c.requires.1) in
    let here : (job (jobs_held t) (v.n - 1)).bell ≡ c.args.bell = sym (struck_word_holds t c.requires.0 (v.n - 1) there) ∙ sym c.note_word-struck.ensures ∙ c.if-struck-bell.true in
    ap found_of (sym (nearest_here (jobs_held t) c.args.bell v.n (omega arith) here) ∙ v.invariant)

pub loop-n-preserved : goal.loop-n-preserved
loop-n-preserved c = let t = c.args.phrase.now in
    let v = c.loop-n in
    let there : v.n - 1 < length (jobs_held t) = omega (arith, c.requires.1) in
    let other : (job (jobs_held t) (v.n - 1)).bell ≡ c.args.bell → ⊥ = λ e. c.if-struck-bell.false (c.note_word-struck.ensures ∙ struck_word_holds t c.requires.0 (v.n - 1) there ∙ e) in
    sym (nearest_on (jobs_held t) c.args.bell v.n (omega arith) other) ∙ v.invariant

pub returns : goal.returns
returns c = let js = jobs_held c.args.phrase.now in
    let v = c.loop-n in
    let e : 0 ≡ v.n = omega arith in
    ap found_of (sym (nearest_none js c.args.bell) ∙ ap (nearest js c.args.bell) e ∙ v.invariant)
