-- What was played, or why it was not.
use Prim.Native.Nat.{ℕ, ◌≤◌, ◌<◌}
use mathlib.Core.Path.{◌≡◌, sym, ap, ◌∙◌}
use native.Mathlib.Omega.{arith}
use Rattle.format.specs.Outcome.{ok, refused}
use Rattle.format.specs.Reading.{reading}
use Rattle.checking.specs.Checking.{verdict}
use Rattle.playing.specs.Promise.{RanAs, Inside}
use Rattle.playing.specs.Playing.{Times, played_of, starts_of, finishes_of}
use Rattle.playing.proofs.Outcomes.{was_admitted, was_refused}
use Rattle.phrase.specs.Host.{places}
use Rattle.phrase.proofs.Played.{unplayed_apart, promised}
use Rattle.phrase.proofs.playback.phrase_play.Goals as goal
use Rattle.phrase.proofs.playback.phrase_play.Goals.{In-Err, In-Ok}

-- the times
was_played : (c : In-Ok) → (t : Times) × (played_of (reading c.args.file.now) c.args.playing.now ≡ ok t)
was_played c = was_admitted (played_of (reading c.args.file.now) c.args.playing.now) (sym c.play.ensures.answer ∙ c.in-Ok.is)

-- what is promised of them
kept : (c : In-Ok)
    → RanAs (reading c.args.file.now) c.args.playing.now c.play.new.starts c.play.new.finishes
    × ((words : ℕ) → Inside (reading c.args.file.now) (verdict (reading c.args.file.now) words) c.play.new.finishes)
kept c =
    let x = was_played c in
    promised c.args.file.now (λ i b. (c.type_inv.file i).fits) c.args.playing.now x.0 x.1 _ _ (c.play.ensures.starts ∙ ap starts_of x.1)
    (c.play.ensures.finishes ∙ ap finishes_of x.1)

-- the refusal
was_not : (c : In-Err) → played_of (reading c.args.file.now) c.args.playing.now ≡ refused c.in-Err.refusal.number c.in-Err.refusal.place
was_not c = was_refused (played_of (reading c.args.file.now) c.args.playing.now) _ (sym c.play.ensures.answer ∙ c.in-Err.is)

apart : (c : In-Err) → (1 ≤ c.in-Err.refusal.number) × (c.in-Err.refusal.place < places)
apart c = unplayed_apart c.args.file.now (λ i b. (c.type_inv.file i).fits) c.args.playing.now _ _ (was_not c)

pub number_at-requires : goal.number_at-requires
number_at-requires c = omega (arith, (apart c).1)

pub returns-in-Ok-clause-run : goal.returns-in-Ok-clause-run
returns-in-Ok-clause-run c = λ z. (kept c).0

pub returns-in-Ok-clause-inside : goal.returns-in-Ok-clause-inside
returns-in-Ok-clause-inside c = λ z. (kept c).1

pub returns-in-Err-clause-run : goal.returns-in-Err-clause-run
returns-in-Err-clause-run c = λ z. absurd (omega (arith, (apart (goal.at.returns-in-Err-clause-run c).In-Err).0, c.number_at.ensures, z))

pub returns-in-Err-clause-inside : goal.returns-in-Err-clause-inside
returns-in-Err-clause-inside c = λ z. absurd (omega (arith, (apart (goal.at.returns-in-Err-clause-inside c).In-Err).0, c.number_at.ensures, z))
