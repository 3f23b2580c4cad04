-- What was written is read again; a refusal is no length.
use mathlib.Core.Path.{◌≡◌, sym, ap, ◌∙◌}
use native.Mathlib.Omega.{arith}
use lib.ListN.{length, take}
use Rattle.format.specs.Outcome.{refused}
use Rattle.format.specs.Reading.{reading}
use Rattle.format.specs.Writing.{writing, leaves}
use Rattle.rows.specs.PhraseTable.{phrase_of}
use Rattle.phrase.specs.Host.{written_number}
use Rattle.phrase.proofs.Rereading.{was_written, was_unwritten, read_again, unwritten_apart}
use Rattle.phrase.proofs.editing.phrase_write.Goals as goal
use Rattle.phrase.proofs.editing.phrase_write.Goals.{In-Err}

-- the refusal
unwritten : (c : In-Err)
    → writing (phrase_of c.args.phrase.now) (length c.args.file.now) ≡ refused c.in-Err.refusal.number c.in-Err.refusal.place
unwritten c =
    was_unwritten (writing (phrase_of c.args.phrase.now) (length c.args.file.now)) _ (sym c.write.ensures.answer ∙ c.in-Err.is)

pub number_at-requires : goal.number_at-requires
number_at-requires c = (unwritten_apart (phrase_of c.args.phrase.now) (length c.args.file.now) _ _ (unwritten c)).1

pub returns-in-Ok-clause-number : goal.returns-in-Ok-clause-number
returns-in-Ok-clause-number c =
    let s = was_written (writing (phrase_of c.args.phrase.now) (length c.args.file.now)) _ (sym c.write.ensures.answer ∙ c.in-Ok.is) in
    s.2 ∙ sym (ap written_number s.1)

pub returns-in-Ok-clause-again : goal.returns-in-Ok-clause-again
returns-in-Ok-clause-again c =
    let x = phrase_of c.args.phrase.now in
    let file = c.args.file.now in
    let s = was_written (writing x (length file)) _ (sym c.write.ensures.answer ∙ c.in-Ok.is) in
    let left = c.write.ensures.file ∙ ap (λ o. leaves o file) s.1 in
    λ z. (λ i. reading (take (s.2 i) (left i))) ∙ read_again x (length file) s.0 file s.1

pub returns-in-Err-clause-number : goal.returns-in-Err-clause-number
returns-in-Err-clause-number c =
    c.number_at.ensures ∙ sym (ap written_number (unwritten (goal.at.returns-in-Err-clause-number c).In-Err))

pub returns-in-Err-clause-again : goal.returns-in-Err-clause-again
returns-in-Err-clause-again c =
    let e = unwritten (goal.at.returns-in-Err-clause-again c).In-Err in
    let apart = unwritten_apart (phrase_of c.args.phrase.now) (length c.args.file.now) _ _ e in
    λ z. absurd (omega (arith, apart.0, c.number_at.ensures, z))
