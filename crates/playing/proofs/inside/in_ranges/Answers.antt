use mathlib.Core.Path.{◌≡◌, sym, ◌∙◌}
use Prim.Native.Nat.{ℕ}
use mathlib.Core.List.{List}
use Rattle.model.specs.Jobs.{Job, job}
use Rattle.format.specs.Bytes.{within}
use Rattle.jobs.specs.internal.JobRow.{jobs_of_rows}
use Rattle.playing.specs.Playing.{scenario_in, in_ranges}
use Rattle.playing.proofs.inside.in_ranges.Goals as goal
use Rattle.playing.proofs.inside.in_ranges.Goals.{After-is_within, After-is_within-called}

-- the job
abbrev its : List ℕ → ℕ → ℕ → Job
its rows k i = job (jobs_of_rows rows k) i

-- the release lies in its range as the first test says
called : (c : After-is_within-called)
    → let j = its c.args.rows.now c.args.k c.args.i in
    within j.earliest_release j.latest_release ((scenario_in c.args.playing.now).release c.args.i) ≡ c.is_within-called.result
called c =
    let earliest = c.earliest_release.ensures in
    let latest = c.latest_release.ensures in
    let release = c.release.ensures in
    sym (c.is_within-called.ensures ∙ (λ i. within (earliest i) (latest i) (release i)))

-- the execution time lies in its range as the second says
held : (c : After-is_within)
    → let j = its c.args.rows.now c.args.k c.args.i in
    within j.least_execution j.most_execution ((scenario_in c.args.playing.now).execution c.args.i) ≡ c.is_within.result
held c =
    let least = c.least_execution.ensures in
    let most = c.most_execution.ensures in
    let execution = c.execution.ensures in
    sym (c.is_within.ensures ∙ (λ i. within (least i) (most i) (execution i)))

pub returns-then-not-called : goal.returns-then-not-called
unfolding in_ranges
returns-then-not-called c = simp (called (goal.at.returns-then-not-called c).After-is_within-called ∙ c.if-not-called.true)

pub returns : goal.returns
unfolding in_ranges
returns c = simp (called (goal.at.returns c).After-is_within-called ∙ c.if-not-called.false, held c)
