use Prim.Native.Nat.{ℕ, ◌+◌, ◌*◌}
use mathlib.Core.Path.{◌≡◌, ap, ◌∙◌}
use mathlib.Core.List.{List, [], ◌∷◌}
use native.Mathlib.Omega.{arith}
use lib.ListN.{get_or}
use Rattle.model.specs.Jobs.{job}
use Rattle.words.specs.internal.Placed.{placed}
use Rattle.words.proofs.Placing.{sets_placed}
use Rattle.rows.specs.BellRow.{bell_words, least_execution_word, most_execution_word, priority_word}
use Rattle.rows.specs.PhraseTable.{bell_rows_at}
use Rattle.jobs.specs.internal.JobRow.{earliest_release_at}
use Rattle.jobs.specs.internal.Fields.{fields}
use Rattle.jobset.specs.internal.Making.{jobs_held}
use Rattle.jobset.proofs.Held.{job_below, earliest_word, latest_word, deadline_word_holds, struck_word_holds, bell_below, least_word, most_word, priority_word_holds}
use Rattle.jobset.proofs.write_demand.Goals as goal

pub note_word-bell-requires : goal.note_word-bell-requires
note_word-bell-requires c = (job_below c.args.phrase.now c.requires.0 c.args.i c.requires.1, omega arith)

pub note_word-requires : goal.note_word-requires
note_word-requires c = (job_below c.args.phrase.now c.requires.0 c.args.i c.requires.1, omega arith)

pub note_word-requires-2 : goal.note_word-requires-2
note_word-requires-2 c = (job_below c.args.phrase.now c.requires.0 c.args.i c.requires.1, omega arith)

pub bell_word-requires : goal.bell_word-requires
bell_word-requires c = let t = c.args.phrase.now in
    (omega (arith, c.note_word-bell.ensures, struck_word_holds t c.requires.0 c.args.i c.requires.1, bell_below t c.requires.0 c.args.i c.requires.1), omega arith)

pub bell_word-requires-2 : goal.bell_word-requires-2
bell_word-requires-2 c = let t = c.args.phrase.now in
    (omega (arith, c.note_word-bell.ensures, struck_word_holds t c.requires.0 c.args.i c.requires.1, bell_below t c.requires.0 c.args.i c.requires.1), omega arith)

pub note_word-requires-3 : goal.note_word-requires-3
note_word-requires-3 c = (job_below c.args.phrase.now c.requires.0 c.args.i c.requires.1, omega arith)

pub bell_word-requires-3 : goal.bell_word-requires-3
bell_word-requires-3 c = let t = c.args.phrase.now in
    (omega (arith, c.note_word-bell.ensures, struck_word_holds t c.requires.0 c.args.i c.requires.1, bell_below t c.requires.0 c.args.i c.requires.1), omega arith)

pub returns : goal.returns
returns c = let struck = c.note_word-bell in
    let earliest = c.note_word in
    let latest = c.note_word-2 in
    let least = c.bell_word in
    let most = c.bell_word-2 in
    let deadline = c.note_word-3 in
    let priority = c.bell_word-3 in
    let t = c.args.phrase.now in
    let row = c.args.row.now in
    let i = c.args.i in
    let bell : struck.result ≡ (job (jobs_held t) i).bell = struck.ensures ∙ struck_word_holds t c.requires.0 i c.requires.1 in
    let ra = earliest.ensures ∙ earliest_word t c.requires.0 i c.requires.1 in
    let rb = latest.ensures ∙ latest_word t c.requires.0 i c.requires.1 in
    let ca = least.ensures ∙ ap (λ (k : ℕ). get_or t (bell_rows_at + (k * bell_words + least_execution_word)) 0) bell ∙ least_word t c.requires.0 i c.requires.1 in
    let cb = most.ensures ∙ ap (λ (k : ℕ). get_or t (bell_rows_at + (k * bell_words + most_execution_word)) 0) bell ∙ most_word t c.requires.0 i c.requires.1 in
    let d = deadline.ensures ∙ deadline_word_holds t c.requires.0 i c.requires.1 in
    let p = priority.ensures ∙ ap (λ (k : ℕ). get_or t (bell_rows_at + (k * bell_words + priority_word)) 0) bell ∙ priority_word_holds t c.requires.0 i c.requires.1 in
    let ws : List ℕ = earliest.result ∷ latest.result ∷ least.result ∷ most.result ∷ deadline.result ∷ priority.result ∷ [] in
    let e : ws ≡ fields (job (jobs_held t) i) = λ k. ra k ∷ rb k ∷ ca k ∷ cb k ∷ d k ∷ p k ∷ [] in
    sets_placed row earliest_release_at ws (omega (arith, c.requires.2)) ∙ ap (placed row earliest_release_at) e
