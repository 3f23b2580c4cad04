use Prim.Native.Nat.{ℕ, ◌+◌, ◌*◌}
use mathlib.Core.Path.{◌≡◌, ap, ◌∙◌}
use mathlib.Core.List.{List, [], ◌∷◌}
use native.Mathlib.Omega.{arith}
use lib.ListN.{get_or}
use Rattle.model.specs.Jobs.{job}
use Rattle.words.specs.internal.Placed.{placed}
use Rattle.words.proofs.Placing.{sets_placed}
use Rattle.rows.specs.BellRow.{bell_words, rest_word}
use Rattle.rows.specs.PhraseTable.{bell_rows_at}
use Rattle.jobs.specs.internal.JobRow.{rest_at}
use Rattle.jobset.specs.internal.Making.{jobs_held, origin_words}
use Rattle.jobset.proofs.Held.{job_below, count_word, struck_word_holds, bell_below, rest_word_holds}
use Rattle.jobset.proofs.write_origin.Goals as goal

pub note_word-bell-requires : goal.note_word-bell-requires
note_word-bell-requires c = (job_below c.args.phrase.now c.requires.0 c.args.i c.requires.1, omega arith)

pub bell_word-requires : goal.bell_word-requires
bell_word-requires c = let t = c.args.phrase.now in
    (omega (arith, c.note_word-bell.ensures, struck_word_holds t c.requires.0 c.args.i c.requires.1, bell_below t c.requires.0 c.args.i c.requires.1), omega arith)

pub note_word-requires : goal.note_word-requires
note_word-requires c = (job_below c.args.phrase.now c.requires.0 c.args.i c.requires.1, omega arith)

pub returns : goal.returns
unfolding origin_words
returns c = let struck = c.note_word-bell in
    let given = c.bell_word in
    let listed = c.note_word in
    let t = c.args.phrase.now in
    let row = c.args.row.now in
    let bell = struck.ensures ∙ struck_word_holds t c.requires.0 c.args.i c.requires.1 in
    let rest = given.ensures ∙ ap (λ (k : ℕ). get_or t (bell_rows_at + (k * bell_words + rest_word)) 0) bell ∙ rest_word_holds t c.requires.0 c.args.i c.requires.1 in
    let count = listed.ensures ∙ count_word t c.requires.0 c.args.i c.requires.1 in
    let ws : List ℕ = given.result ∷ struck.result ∷ listed.result ∷ 0 ∷ [] in
    let e : ws ≡ origin_words (job (jobs_held t) c.args.i) = λ k. rest k ∷ bell k ∷ count k ∷ 0 ∷ [] in
    sets_placed row rest_at ws (omega (arith, c.requires.2)) ∙ ap (placed row rest_at) e
