use Prim.Native.Nat.{◌<◌}
use mathlib.Core.Path.{◌≡◌, sym, ap, ◌∙◌, subst}
use mathlib.Core.Bool.{true}
use native.Mathlib.Omega.{arith}
use lib.ListN.{length}
use Rattle.model.specs.Refusals.{outside_range}
use Rattle.format.specs.Outcome.{ok, refused}
use Rattle.jobs.specs.internal.JobRow.{jobs_of_rows}
use Rattle.jobs.proofs.Jobs.{length_jobs}
use Rattle.playing.specs.Playing.{scenario_in, is_playing, first_in_ranges, admission_of}
use Rattle.playing.specs.internal.Admitting.{IsFirstOutside}
use Rattle.playing.proofs.Playings.{has_jobs, stops, wrong_head, by_ranges}
use Rattle.playing.proofs.admit.Goals as goal
use Rattle.playing.proofs.admit.Goals.{After-is_playing, Else-not-is_playing}

-- the head is as the first test says
tested : (c : After-is_playing) → is_playing c.args.playing.now (length (jobs_of_rows c.args.rows.now c.args.k)) ≡ c.is_playing.result
tested c = ap (is_playing c.args.playing.now) (length_jobs c.args.rows.now c.args.k) ∙ sym c.is_playing.ensures

right : (c : Else-not-is_playing) → is_playing c.args.playing.now (length (jobs_of_rows c.args.rows.now c.args.k)) ≡ true
right c = ap (is_playing c.args.playing.now) (length_jobs c.args.rows.now c.args.k) ∙ sym c.is_playing.ensures ∙ c.if-not-is_playing.false

pub returns-then-not-is_playing : goal.returns-then-not-is_playing
returns-then-not-is_playing c =
    let js = jobs_of_rows c.args.rows.now c.args.k in
    c.refuse.ensures ∙ ap admission_of (sym (wrong_head js c.args.playing.now (tested (goal.at.returns-then-not-is_playing c).After-is_playing ∙ c.if-not-is_playing.true)))

pub first_outside-requires : goal.first_outside-requires
first_outside-requires c =
    let js = jobs_of_rows c.args.rows.now c.args.k in
    (c.requires.0, omega (arith, has_jobs c.args.playing.now (length js) (right c), length_jobs c.args.rows.now c.args.k))

pub returns-in-Some : goal.returns-in-Some
returns-in-Some c =
    let js = jobs_of_rows c.args.rows.now c.args.k in
    let s = scenario_in c.args.playing.now in
    let i = c.in-Some.i in
    let (below, before, outside) = subst (IsFirstOutside js s c.args.k) c.in-Some.is c.first_outside.ensures in
    let inside : i < length js = omega (arith, below, length_jobs c.args.rows.now c.args.k) in
    c.refuse-in-Some.ensures
    ∙ ap admission_of (sym (by_ranges js c.args.playing.now (right (goal.at.returns-in-Some c).Else-not-is_playing) (refused outside_range i) (stops js s i before outside (length js) inside)))

pub returns-in-None : goal.returns-in-None
returns-in-None c =
    let js = jobs_of_rows c.args.rows.now c.args.k in
    let s = scenario_in c.args.playing.now in
    let all = subst (IsFirstOutside js s c.args.k) c.in-None.is c.first_outside.ensures in
    ap admission_of
    (sym (by_ranges js c.args.playing.now (right (goal.at.returns-in-None c).Else-not-is_playing) (ok tt) (ap (first_in_ranges js s) (length_jobs c.args.rows.now c.args.k) ∙ all)))
