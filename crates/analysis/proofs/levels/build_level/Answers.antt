-- `build_level`: before each state, those that are left make the level from what is built.
use mathlib.Core.Path.{refl, ◌∙◌}
use native.Mathlib.Omega.{arith}
use Rattle.std.proofs.lemmas.Result.{err_from_is_err_and}
use Rattle.analysis.proofs.Building.{building_starts, building_ends, building_goes_on, building_stops}
use Rattle.analysis.proofs.Building.{target_half, loaded_sound, loaded_linkable}
use Rattle.analysis.proofs.levels.build_level.Goals as goal

pub loop-j-init : goal.loop-j-init
loop-j-init c =
    let h = c.requires.halves in
    let l = c.requires.heads_len in
    (building_starts h.0 h.1 h.2 l.0 l.1 l.2, refl)

pub try_state-requires-clause-jobs_in_bounds : goal.try_state-requires-clause-jobs_in_bounds
try_state-requires-clause-jobs_in_bounds c =
    let i = c.loop-j.invariant in
    let s = c.state_words-w.ensures in
    let t = c.loop-j-test.true in
    let l = c.load_state in (
      omega (arith, l.auto.cur, i.1, c.requires.setting.0.jobs, c.requires.setting.0.few_cores),
      loaded_sound i.0 s t l.new.cur l.ensures.0 l.ensures.1,
      target_half i.0 s t,
      i.0.observed,
      loaded_linkable i.0 s t l.new.cur l.ensures.0,
    )

pub returns-in_err-built-clause-leaves : goal.returns-in_err-built-clause-leaves
returns-in_err-built-clause-leaves c =
    let l = c.load_state in
    let x = c.try_state in
    let stop = err_from_is_err_and c.from_residual.result c.from_residual.ensures.1 in
    rw (stop.1, stop.2) (building_stops c.loop-j.invariant.0 c.state_words-w.ensures c.loop-j-test.true l.new.cur l.ensures.0 x.auto.half x.ensures c.in_err-built.was).0

pub loop-j-preserved : goal.loop-j-preserved
loop-j-preserved c =
    let l = c.load_state in
    let x = c.try_state in (
      building_goes_on c.loop-j.invariant.0 c.state_words-w.ensures c.loop-j-test.true l.new.cur l.ensures.0 x.auto.half x.ensures c.in_ok-built.was,
      x.auto.cur ∙ l.auto.cur ∙ c.loop-j.invariant.1,
    )

pub returns-clause-leaves : goal.returns-clause-leaves
returns-clause-leaves c = (building_ends c.loop-j.invariant.0 c.loop-j-test.false).0
