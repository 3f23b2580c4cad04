-- what is shown of a file that was read is its phrase
use mathlib.Core.Path.{sym, ◌∙◌}
use native.Mathlib.Omega.{arith}
use Rattle.reader.proofs.Handing.{handed_on}
use Rattle.reader_examples.proofs.show.Goals as goal

pub show_phrase-requires : goal.show_phrase-requires
show_phrase-requires g c =
    handed_on c.args.file.now _ (λ i b. omega (arith, c.type_inv.file i)) (sym c.read.ensures.value ∙ c.in-Ok.is) c.read.ensures.phrase_after
