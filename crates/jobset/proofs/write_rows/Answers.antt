-- The rows of the first i jobs begin the table.
use Prim.Native.Nat.{ℕ, ◌*◌, ◌<◌}
use mathlib.Core.Path.{◌≡◌, ap, ◌∙◌}
use mathlib.Core.List.{List, ◌++◌}
use native.Mathlib.Omega.{arith}
use lib.ListN.{length, drop}
use Rattle.words.specs.internal.Placed.{placed}
use Rattle.jobs.specs.internal.JobRow.{row_words, job_row, job_rows}
use Rattle.jobset.specs.internal.Making.{jobs_held}
use Rattle.jobset.proofs.Held.{few_jobs, note_count_holds, few_predecessors, rows_none, rows_more}
use Rattle.jobset.proofs.write_rows.Goals as goal

pub loop-i-init : goal.loop-i-init
loop-i-init c = let t = c.args.phrase.now in
    (note_count_holds t c.requires.0, rows_none (jobs_held t) c.args.rows.now)

pub loop-i-preserved : goal.loop-i-preserved
loop-i-preserved c = let t = c.args.phrase.now in
    let js = jobs_held t in
    let v = c.loop-i in
    let here : v.i < length js = omega (arith, v.invariant.0) in (
      v.invariant.0,
      c.put_job.ensures
          ∙ ap (λ (r : List ℕ). placed r (v.i * row_words) (job_row js v.i)) v.invariant.1
          ∙ rows_more js v.i c.args.rows.now (λ j b. few_predecessors t c.requires.0 j (omega (arith, here, b))) (omega (arith, here, few_jobs t c.requires.0, c.requires.1)),
    )

pub returns : goal.returns
unfolding jobs_held
returns c = let js = jobs_held c.args.phrase.now in
    let v = c.loop-i in
    let all : v.i ≡ length js = omega (arith, v.invariant.0) in
    v.invariant.1 ∙ ap (λ (k : ℕ). job_rows js k ++ drop (k * row_words) c.args.rows.now) all
