-- The job that it chooses is the one that the dispatch rule starts next.
use Prim.Native.Nat.{◌+◌}
use mathlib.Core.Path.{◌≡◌, refl, ◌∙◌, subst}
use native.Mathlib.Omega.{arith}
use lib.ListN.{get_or, length, length-set}
use Rattle.jobs.specs.internal.JobRow.{jobs_of_rows}
use Rattle.dispatch.specs.internal.Choice.{key_of, IsLeast, IsNext}
use Rattle.dispatch.proofs.Turning.{AreWords, run_over, finish_small, finishes_small, turned}
use Rattle.dispatch.proofs.turns.start_next.Goals as goal
use Rattle.dispatch.proofs.turns.start_next.Goals.{After-next_job, After-wake_after, In-Some}

words : (d : After-next_job) → AreWords d.args.rows.now
words d i = omega (arith, d.type_inv.rows i)

-- the job that was chosen
chosen : (c : In-Some) → let a = c.args in
    IsLeast (key_of (jobs_of_rows a.rows.now a.k) a.wakes.now (get_or a.cores.now c.first_free-c.result 0)) a.k c.in-Some.i
chosen c = let a = c.args in
    subst (IsNext (key_of (jobs_of_rows a.rows.now a.k) a.wakes.now (get_or a.cores.now c.first_free-c.result 0)) a.k) c.in-Some.is c.next_job.ensures

-- as many wake words as before
same_wakes : (c : After-wake_after) → length c.wake_after.new.wakes ≡ length c.args.wakes.now
same_wakes c =
    c.wake_after.auto.wakes
    ∙ length-set c.args.wakes.now c.in-Some.i 4294967295

pub returns-in_default : goal.returns-in_default
returns-in_default c = let a = c.args in
    let turn = c.requires.1 in
    let free = c.first_free-c in (
      refl,
      run_over a.rows.now a.k a.playing.now a.starts.now a.finishes.now a.wakes.now a.cores.now c.requires.0 (words (goal.at.returns-in_default c).After-next_job) turn.time
          turn.standing free.result free.ensures.0 c.in_default.ensures turn.kept.starts_zero turn.kept.finishes_zero,
      omega arith,
    )

pub overflow_add-finish : goal.overflow_add-finish
overflow_add-finish c = let a = c.args in
    let turn = c.requires.1 in
    let free = c.first_free-c in
    omega (
      arith,
      finish_small a.rows.now a.k a.playing.now a.starts.now a.finishes.now a.wakes.now a.cores.now c.requires.0 (words (goal.at.overflow_add-finish c).After-next_job) turn.time
          turn.standing free.result c.in-Some.i free.ensures.0 free.ensures.1 (chosen (goal.at.overflow_add-finish c).In-Some),
      c.max-start.ensures,
      c.execution.ensures,
    )

pub wake_after-requires : goal.wake_after-requires
wake_after-requires c = let a = c.args in
    let known = c.requires in
    let kept = known.1.kept in
    let free = c.first_free-c in
    let begun = c.max-start in
    let lasting = c.execution in (
      (chosen (goal.at.wake_after-requires c).In-Some).inside,
      record {
        rows_of = known.0.setting.rows_of;
        few_jobs = known.0.setting.jobs;
        rests = known.0.setting.rests;
        has_jobs = known.0.has_jobs;
        finishes_of_holds = omega (arith, kept.finishes_long, length-set a.finishes.now c.in-Some.i (begun.result + lasting.result));
        finishes_small =
            finishes_small a.rows.now a.k a.playing.now a.starts.now a.finishes.now a.wakes.now a.cores.now known.0 (words (goal.at.wake_after-requires c).After-next_job)
            known.1.time known.1.standing free.result c.in-Some.i free.ensures.0 free.ensures.1 (chosen (goal.at.wake_after-requires c).In-Some)
            (omega (arith, (chosen (goal.at.wake_after-requires c).In-Some).inside, kept.finishes_long)) begun.result lasting.result begun.ensures lasting.ensures;
      },
      omega (arith, kept.wakes_long, length-set a.wakes.now c.in-Some.i 4294967295),
    )

pub returns : goal.returns
returns c = let a = c.args in
    let turn = c.requires.1 in
    let free = c.first_free-c in
    turned a.rows.now a.k a.playing.now a.starts.now a.finishes.now a.wakes.now a.cores.now c.requires.0 (words (goal.at.returns c).After-next_job) turn.time
    turn.standing free.result c.in-Some.i free.ensures.0 free.ensures.1 (chosen (goal.at.returns c).In-Some) turn.kept c.wake_after.new.wakes
    (same_wakes (goal.at.returns c).After-wake_after) c.max-start.result c.execution.result c.max-start.ensures
    c.execution.ensures c.wake_after.ensures
