-- Its own table has room for a state of every phrase.
use native.Mathlib.Omega.{arith}
use Rattle.checking.proofs.Certain.{has_room}
use Rattle.phrase.specs.Host.{table_words}
use Rattle.phrase.proofs.phrase_check.Goals as goal

pub returns-clause-certain : goal.returns-clause-certain
returns-clause-certain c =
    let file = c.args.file.now in
    λ certain. c.phrase_check_with.ensures.certain certain (has_room file (λ i b. (c.type_inv.file i).fits) table_words (omega arith) certain)
