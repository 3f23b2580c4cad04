use native.Mathlib.Omega.{arith}
use Rattle.playing.proofs.Playings.{short_head, other_version, other_count, right_count}
use Rattle.playing.proofs.scenario.is_playing.Goals as goal

pub returns-then-playing-lt-RELEASES_AT : goal.returns-then-playing-lt-RELEASES_AT
returns-then-playing-lt-RELEASES_AT c = let a = c.args in
    short_head a.playing.now a.k (omega arith)

pub returns-then-byte-ne-PLAYING_VERSION : goal.returns-then-byte-ne-PLAYING_VERSION
returns-then-byte-ne-PLAYING_VERSION c = let a = c.args in
    other_version a.playing.now a.k (omega arith) (λ e. omega (arith, e, c.byte.ensures.0, c.if-byte-ne-PLAYING_VERSION.true))

pub returns-then-be_32-rest : goal.returns-then-be_32-rest
returns-then-be_32-rest c = let a = c.args in
    other_count a.playing.now a.k (omega arith) (omega (arith, c.byte.ensures.0)) (λ e. omega (arith, e, c.be_32.ensures, c.if-be_32-rest.true))

pub returns : goal.returns
returns c = let a = c.args in
    right_count a.playing.now a.k (omega arith) (omega (arith, c.byte.ensures.0)) (omega (arith, c.be_32.ensures, c.if-be_32-rest.false))
