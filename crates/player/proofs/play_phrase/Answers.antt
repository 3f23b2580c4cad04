-- The rows that are made of the table are those of the phrase's jobs.
use mathlib.Core.Path.{◌≡◌, ap, ◌∙◌}
use Rattle.format.specs.Outcome.{ok}
use Rattle.rows.specs.PhraseTable.{phrase_of}
use Rattle.jobs.specs.internal.JobRow.{jobs_of_rows}
use Rattle.jobset.proofs.Made.{handed, jobs_are, cores_are}
use Rattle.playing.specs.Playing.{played_for, played_of, starts_of, finishes_of, admission_of}
use Rattle.player.proofs.play_phrase.Goals as goal
use Rattle.player.proofs.play_phrase.Goals.{After-header_word-m}

-- the playing of the rows is that of the phrase
same : (c : After-header_word-m)
    → let a = c.args in
    played_for (jobs_of_rows c.write_jobs.new.rows c.header_word-k.result) c.header_word-m.result a.playing.now
    ≡ played_of (ok (phrase_of a.phrase.now)) a.playing.now
same c =
    let a = c.args in
    let t = a.phrase.now in
    let h = c.requires.0 in
    let jobs = jobs_are t h _ _ c.write_jobs.ensures _ _ c.header_word-m.ensures c.header_word-k.ensures in
    let cores = cores_are t h _ _ c.write_jobs.ensures _ _ c.header_word-m.ensures c.header_word-k.ensures in
    λ n. played_for (jobs n) (cores n) a.playing.now

pub play_jobs-requires : goal.play_jobs-requires
play_jobs-requires c = let known = c.requires in
    let x = handed c.args.phrase.now known.0 _ _ c.write_jobs.ensures _ _ c.header_word-m.ensures c.header_word-k.ensures in
    (x.0, x.1, known.1, known.2)

pub returns : goal.returns
returns c = let e = same (goal.at.returns c).After-header_word-m in
    let done = c.play_jobs.ensures in
    record {
      value = done.value ∙ ap admission_of e;
      starts_after = done.starts_after ∙ ap starts_of e;
      finishes_after = done.finishes_after ∙ ap finishes_of e;
    }
