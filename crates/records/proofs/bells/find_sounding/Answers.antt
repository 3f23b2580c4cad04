-- The first bell of the table that sounds for the key is the one that is looked up.
use borrow.Author.Tests.{tests}
use Rattle.std.proofs.Common.{rules}
use Rattle.std.proofs.lemmas.Iterator.{first_from_Range}
use Rattle.records.proofs.Lookup.{Sounds, looked_up}
use Rattle.records.proofs.bells.find_sounding.Goals as goal

pub returns : goal.returns
returns c = let a = c.args in
    let Is = Sounds a.phrase.now a.n a.key c.requires.2 in
    looked_up a.phrase.now a.n a.key c.requires.2 c.find.result
    (first_from_Range _ c.find.new.self _ c.find.result Is (λ i. Is i → ⊥) c.find.ensures.ran (λ x q k. search (rules, tests)) (λ x q k. search (rules, tests)))
