use Rattle.text.specs.internal.Written.{Written}
use Rattle.tally.specs.internal.Counted.{bells_text_in}
use Rattle.tally.proofs.bells.Bells.put.Given as goal

abbrev pub invariant-loop-b : goal.invariant-loop-b
invariant-loop-b l = Written l.initial.buffer l.start (bells_text_in l.self.phrase.now l.self.counts.now l.b) l.buffer l.at
