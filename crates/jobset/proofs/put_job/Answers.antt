use Prim.Native.Nat.{◌+◌, ◌-◌, ◌*◌}
use mathlib.Core.Path.{◌≡◌, ap, ◌∙◌}
use native.Mathlib.Omega.{arith}
use lib.ListN.{length}
use borrow.Rule.Slice.PartMut.{put_mid}
use Rattle.words.proofs.Placing.{put_placed}
use Rattle.jobs.specs.internal.JobRow.{row_words, job_row}
use Rattle.jobset.specs.internal.Making.{jobs_held}
use Rattle.jobs.proofs.JobRow.{row_length}
use Rattle.jobset.proofs.Held.{job_below, few_predecessors}
use Rattle.jobset.proofs.put_job.Goals as goal

pub overflow_mul-from : goal.overflow_mul-from
overflow_mul-from c = omega (arith, job_below c.args.phrase.now c.requires.0 c.args.i c.requires.1, c.requires.2)

pub overflow_add-end : goal.overflow_add-end
overflow_add-end c = omega (arith, job_below c.args.phrase.now c.requires.0 c.args.i c.requires.1, c.requires.2)

pub offset_bounds-rows-from : goal.offset_bounds-rows-from
offset_bounds-rows-from c = omega (arith, job_below c.args.phrase.now c.requires.0 c.args.i c.requires.1, c.requires.2)

pub slice_bounds-write_job-end : goal.slice_bounds-write_job-end
slice_bounds-write_job-end c = omega (arith, job_below c.args.phrase.now c.requires.0 c.args.i c.requires.1, c.requires.2)

pub returns : goal.returns
returns c = let t = c.args.phrase.now in
    let rows = c.args.rows.now in
    let at = c.args.i * row_words in
    let row = job_row (jobs_held t) c.args.i in
    let l : length row ≡ at + row_words - at = omega (arith, row_length (jobs_held t) c.args.i (few_predecessors t c.requires.0 c.args.i c.requires.1)) in
    ap (put_mid at (at + row_words - at) rows) c.write_job.ensures ∙ put_placed rows at (at + row_words - at) row l
