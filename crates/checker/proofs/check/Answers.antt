-- `check` meets its contract: an accepted result keeps its promise.
use native.Mathlib.Omega.{arith}
use lib.ListN.{length}
use Rattle.format.specs.Bytes.{AreBytes}
use Rattle.checking.proofs.Promise.{runs_kept}
use Rattle.checking.proofs.Certain.{result_by_run}
use Rattle.checker.proofs.check.Goals as goal

pub returns-clause-runs : goal.returns-clause-runs
returns-clause-runs c =
    let bytes : AreBytes c.args.file.now = λ i b. omega (arith, c.type_inv.file i) in
    runs_kept c.args.file.now bytes (length c.args.table.now) _ c.check_phrase.ensures.answer

pub returns-clause-certain : goal.returns-clause-certain
returns-clause-certain c =
    let bytes : AreBytes c.args.file.now = λ i b. omega (arith, c.type_inv.file i) in
    result_by_run c.args.file.now bytes (length c.args.table.now) _ c.check_phrase.ensures.answer
