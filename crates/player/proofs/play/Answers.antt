-- The file is read, and its phrase is played.
use Prim.Native.Nat.{ℕ}
use mathlib.Core.Path.{◌≡◌, sym, ap, ◌∙◌}
use native.Mathlib.Omega.{arith}
use lib.ListN.{replicate}
use Rattle.model.specs.Limits.{most_jobs}
use Rattle.format.specs.Bytes.{AreBytes}
use Rattle.format.specs.Outcome.{Outcome}
use Rattle.format.specs.Phrase.{Phrase}
use Rattle.reader.proofs.Handing.{handed_on, phrase_read}
use Rattle.playing.specs.Playing.{played_of, starts_of, finishes_of, admission_of}
use Rattle.player.proofs.play.Goals as goal
use Rattle.player.proofs.play.Goals.{After-read}

bytes : (d : After-read) → AreBytes d.args.file.now
bytes d i b = omega (arith, d.type_inv.file i)

starts_zero : (d : After-read) → d.fill.new.self ≡ replicate most_jobs 0
starts_zero d = d.fill.ensures.after (λ y e. e) ∙ ap (λ (n : ℕ). replicate n 0) d.told-starts

finishes_zero : (d : After-read) → d.fill-2.new.self ≡ replicate most_jobs 0
finishes_zero d = d.fill-2.ensures.after (λ y e. e) ∙ ap (λ (n : ℕ). replicate n 0) d.told-finishes

pub play_phrase-requires : goal.play_phrase-requires
play_phrase-requires c =
    let done = c.read.ensures in
    let d = (goal.at.play_phrase-requires c).After-read in
    (handed_on c.args.file.now _ (bytes d) (sym done.value ∙ c.in_ok-read.was) done.phrase_after, starts_zero d, finishes_zero d)

pub returns : goal.returns
returns c =
    let d = (goal.at.returns c).After-read in
    let read = c.read.ensures in
    let done = c.play_phrase.ensures in
    let e = ap (λ (o : Outcome Phrase). played_of o c.args.playing.now) (sym (phrase_read c.args.file.now _ (bytes d) (sym read.value ∙ c.in_ok-read.was) read.phrase_after)) in
    record { answer = done.value ∙ ap admission_of e; starts = done.starts_after ∙ ap starts_of e; finishes = done.finishes_after ∙ ap finishes_of e }
