-- `analyse`: the levels are built from cleared words.
use mathlib.Core.Path.{◌≡◌, ap, ◌∙◌}
use Rattle.steps.specs.internal.Observed.{observed_words}
use Rattle.analysis.proofs.LevelZero.{zeros, nothing_observed, no_room, room_for_one, cleared_room, first_half, first_level, answered}
use Rattle.analysis.proofs.levels.analyse.Goals as goal
use Rattle.analysis.proofs.levels.analyse.Goals.{After-fill}

-- nothing is observed at first
none : (c : After-fill) → c.fill.new.self ≡ zeros observed_words
none c = c.fill.ensures.after (λ y e. e) ∙ ap zeros c.requires.1

pub returns-then-cap-eq0-clause-seen_after : goal.returns-then-cap-eq0-clause-seen_after
returns-then-cap-eq0-clause-seen_after c =
    let x = c.args in
    let s = c.state_words-w in
    (no_room x.rows.now x.k x.m x.table.now s.ensures (nothing_observed (none (goal.at.returns-then-cap-eq0-clause-seen_after c).After-fill)) c.if-cap-eq0.true).0

pub build_levels-requires : goal.build_levels-requires
build_levels-requires c =
    let x = c.args in
    let s = c.state_words-w in
    let l = c.if-cap-eq0.false in
    let first = c.fill-2.ensures.after (λ y e. e) in
    record {
      setting = (
        c.requires.0,
        cleared_room x.rows.now x.k x.m x.table.now s.ensures l first,
        room_for_one x.rows.now x.k x.m x.table.now s.ensures l,
        first_half x.rows.now x.k x.m x.table.now s.ensures l first c.requires.0.timed,
        nothing_observed (none (goal.at.build_levels-requires c).After-fill),
      );
      seen_value = first_level x.rows.now x.k x.m x.table.now s.ensures l first (none (goal.at.build_levels-requires c).After-fill);
    }

pub returns-clause-table_unchanged : goal.returns-clause-table_unchanged
returns-clause-table_unchanged c =
    let x = c.args in
    let s = c.state_words-w in
    let y = c.build_levels in
    (answered x.rows.now x.k x.m x.table.now s.ensures c.if-cap-eq0.false (c.fill-2.ensures.after (λ z e. e)) y.new.table y.ensures.seen_after y.ensures.observed y.ensures.table_unchanged).1.1
