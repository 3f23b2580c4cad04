-- The stores write the header, and the parts that are cleared stand after the rows.
use Rattle.reader.proofs.Completing.{all_cleared}
use Rattle.reader.proofs.complete.Goals as goal

pub returns : goal.returns
returns c =
    all_cleared c.args.counts c.args.phrase.now c.requires.0 c.requires.1 c.requires.2 c.fill.new.self
    c.fill-2.new.self (c.fill.ensures.after (λ y e. e)) (c.fill-2.ensures.after (λ y e. e))
