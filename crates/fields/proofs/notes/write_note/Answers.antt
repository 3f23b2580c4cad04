use mathlib.Core.Path.{◌≡◌, sym, ◌∙◌}
use mathlib.Core.List.{[], ◌∷◌}
use native.Mathlib.Omega.{arith}
use Rattle.words.proofs.Placing.{sets_placed, placed_whole}
use Rattle.format.specs.Layout.{first}
use Rattle.format.specs.Reading.{note_in}
use Rattle.format.proofs.Digits.{number_one}
use Rattle.format.proofs.First.{note_key, note_earliest, note_latest, note_deadline}
use Rattle.rows.specs.NoteRow.{note_row_on}
use Rattle.rows.proofs.NoteRow.{row_words_holds}
use Rattle.fields.proofs.ListedJobs.{there, listed_few}
use Rattle.fields.proofs.notes.write_note.Goals as goal

pub byte-requires : goal.byte-requires
byte-requires c = omega (arith, there c.args.part.now c.requires.0)

pub be_32-requires : goal.be_32-requires
be_32-requires c = omega (arith, there c.args.part.now c.requires.0)

pub be_32-requires-2 : goal.be_32-requires-2
be_32-requires-2 c = omega (arith, there c.args.part.now c.requires.0)

pub be_32-requires-3 : goal.be_32-requires-3
be_32-requires-3 c = omega (arith, there c.args.part.now c.requires.0)

pub returns : goal.returns
returns c = let p = c.args.part.now in
    let ws = c.byte.result ∷ c.be_32.result ∷ c.be_32-2.result ∷ c.be_32-3.result ∷ c.listed_count.result ∷ c.listed_job.result ∷ c.listed_job-2.result ∷ c.listed_job-3.result ∷ c.listed_job-4.result ∷ c.args.bell ∷ [] in
    let few = listed_few p c.requires.0 in
    let e : ws ≡ note_row_on c.args.bell (note_in first p) =
    (λ i. (c.byte.ensures.0 ∙ number_one 1 p ∙ sym (note_key p)) i ∷ (c.be_32.ensures ∙ sym (note_earliest p)) i ∷ (c.be_32-2.ensures ∙ sym (note_latest p)) i ∷ (c.be_32-3.ensures ∙ sym (note_deadline p)) i ∷ c.listed_count.ensures.0 i ∷ c.listed_job.ensures i ∷ c.listed_job-2.ensures i ∷ c.listed_job-3.ensures i ∷ c.listed_job-4.ensures i ∷ c.args.bell ∷ []) ∙ sym (row_words_holds c.args.bell (note_in first p) few) in
    sets_placed c.args.row.now 0 ws (omega (arith, c.requires.1)) ∙ placed_whole c.args.row.now ws c.requires.1 ∙ e
