use mathlib.Core.Path.{◌≡◌}
use lib.ListN.{length}
use Rattle.std.specs.Prelude.{Ok}
use Rattle.states.specs.internal.Writing.{Restored}
use Rattle.steps.specs.internal.Progress.{jobs_in, state_in, going_in}
use Rattle.steps.proofs.Following.{Tried}
use Rattle.steps.proofs.explore.try_state.Given as goal

abbrev pub invariant-loop-job : goal.invariant-loop-job
invariant-loop-job l = Tried (jobs_in l.shape l.rows) l.shape (state_in l.shape l.initial.cur) l.job-items (λ c. going_in l.shape l.initial.half l.n l.initial.seen c) l.job-index (Ok l.stored) l.half l.seen l.heads
    × Restored l.shape.cores l.shape.jobs l.initial.cur l.cur × (length l.cur ≡ length l.initial.cur)
