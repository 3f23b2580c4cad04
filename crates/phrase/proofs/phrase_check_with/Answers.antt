-- The place of a refusal leaves its number apart, and 0 says accepted.
use mathlib.Core.Path.{sym, ap, ◌∙◌}
use lib.ListN.{length}
use Rattle.format.specs.Bytes.{AreBytes}
use Rattle.checking.proofs.Promise.{playable}
use Rattle.phrase.specs.Host.{number_of}
use Rattle.phrase.proofs.Numbers.{place_apart, zero_accepts}
use Rattle.phrase.proofs.phrase_check_with.Goals as goal

pub number-requires : goal.number-requires
number-requires c = place_apart c.args.file.now (λ i b. (c.type_inv.file i).fits) (length c.args.table.now) _ c.check.ensures.number

pub returns-clause-runs : goal.returns-clause-runs
returns-clause-runs c =
    let file = c.args.file.now in
    let words = length c.args.table.now in
    let bytes : AreBytes file = λ i b. (c.type_inv.file i).fits in
    let number = c.number.ensures ∙ ap number_of c.check.ensures.number in
    λ z. playable file bytes words (zero_accepts file bytes words (sym number ∙ z))
