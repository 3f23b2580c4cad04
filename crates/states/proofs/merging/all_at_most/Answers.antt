-- `all_at_most` meets its contract: the words are tested pair by pair.
use Rattle.std.proofs.Common.{rules, tests, ◌<◌, ◌≤◌}
use Rattle.std.proofs.lemmas.Iterator.{YieldsList-from_slice, YieldsList-from_zip, cases_from_all}
use Rattle.states.proofs.Pairs.{every_tested}
use Rattle.states.proofs.merging.all_at_most.Goals as goal

pub returns : goal.returns
returns c =
    every_tested c.args.x.now c.args.y.now _ c.requires (
    cases_from_all c.all.new.self _ _ (λ p. p.0 ≤ p.1) (λ p. p.1 < p.0) c.all.ensures.ran
    (YieldsList-from_zip (YieldsList-from_slice c.args.x.now cc) (YieldsList-from_slice c.args.y.now cc)) (λ x q k. search (rules, tests)) (λ x q k. search (rules, tests))
    )
