-- What was read is written again; a refusal is no 0.
use mathlib.Core.Path.{◌≡◌, sym, ap, ◌∙◌}
use native.Mathlib.Omega.{arith}
use lib.ListN.{length}
use Rattle.format.specs.Outcome.{refused}
use Rattle.format.specs.Reading.{reading}
use Rattle.format.specs.Writing.{writing}
use Rattle.rows.specs.PhraseTable.{phrase_table, phrase_of}
use Rattle.records.proofs.Outcomes.{was_ok, was_refused}
use Rattle.phrase.proofs.Rereading.{written_again, unread_apart}
use Rattle.phrase.proofs.editing.phrase_read.Goals as goal
use Rattle.phrase.proofs.editing.phrase_read.Goals.{In-Err}

-- the refusal
unread : (c : In-Err) → reading c.args.file.now ≡ refused c.in-Err.refusal.number c.in-Err.refusal.place
unread c = was_refused (reading c.args.file.now) _ (sym c.read.ensures.value ∙ c.in-Err.is)

pub number_at-requires : goal.number_at-requires
number_at-requires c = (unread_apart c.args.file.now _ _ (unread c)).1

pub returns-in-Ok-clause-again : goal.returns-in-Ok-clause-again
returns-in-Ok-clause-again c =
    let file = c.args.file.now in
    let x = was_ok (reading file) (sym c.read.ensures.value ∙ c.in-Ok.is) in
    let table = c.read.ensures.phrase_after ∙ ap phrase_table x.1 in
    λ z. ap (λ t. writing (phrase_of t) (length file)) table ∙ written_again file (λ i b. (c.type_inv.file i).fits) x.0 x.1

pub returns-in-Err-clause-again : goal.returns-in-Err-clause-again
returns-in-Err-clause-again c =
    let apart = unread_apart c.args.file.now _ _ (unread (goal.at.returns-in-Err-clause-again c).In-Err) in
    λ z. absurd (omega (arith, apart.0, c.number_at.ensures, z))
