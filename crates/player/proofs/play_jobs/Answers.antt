-- The playing is refused, or dispatched.
use mathlib.Core.Path.{◌≡◌, sym, ap, ◌∙◌}
use Rattle.model.specs.Dispatch.{Scenario}
use Rattle.format.specs.Outcome.{ok}
use Rattle.jobs.specs.internal.JobRow.{jobs_of_rows}
use Rattle.playing.specs.Playing.{scenario_for, starts_of, finishes_of, admission_of}
use Rattle.playing.proofs.Outcomes.{was_admitted}
use Rattle.player.proofs.Jobs.{dispatchable, played_as}
use Rattle.player.proofs.play_jobs.Goals as goal
use Rattle.player.proofs.play_jobs.Goals.{In_ok-admit}

-- the scenario that was admitted
scenario : (c : In_ok-admit) → (s : Scenario) × (scenario_for (jobs_of_rows c.args.rows.now c.args.k) c.args.playing.now ≡ ok s)
scenario c =
    was_admitted (scenario_for (jobs_of_rows c.args.rows.now c.args.k) c.args.playing.now) (sym c.admit.ensures ∙ c.in_ok-admit.was)

pub dispatch-requires : goal.dispatch-requires
dispatch-requires c = let a = c.args in
    let known = c.requires in
    let s = scenario (goal.at.dispatch-requires c).In_ok-admit in
    (dispatchable a.rows.now a.k a.m a.playing.now s.0 s.1 known.0 known.1, known.2, known.3)

pub returns : goal.returns
returns c = let a = c.args in
    let s = scenario (goal.at.returns c).In_ok-admit in
    let x = sym (played_as a.rows.now a.k a.m a.playing.now s.0 s.1) in
    record {
      value = ap admission_of x;
      starts_after = c.dispatch.ensures.starts_after ∙ ap starts_of x;
      finishes_after = c.dispatch.ensures.finishes_after ∙ ap finishes_of x;
    }
