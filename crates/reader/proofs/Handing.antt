-- What the reader hands on when a file was read. Assumes nothing.
use Prim.Native.Nat.{ℕ}
use mathlib.Core.Path.{◌≡◌, sym, ap, ◌∙◌}
use mathlib.Core.List.{List}
use Rattle.format.specs.Bytes.{AreBytes}
use Rattle.format.specs.Outcome.{ok}
use Rattle.format.specs.Reading.{reading}
use Rattle.format.proofs.Theorems.{sound}
use Rattle.rows.specs.PhraseTable.{phrase_table, phrase_of}
use Rattle.rows.specs.internal.Handed.{HandedOn}
use Rattle.rows.proofs.PhraseTable.{phrase_of_holds}
use Rattle.records.specs.internal.Answers.{reading_of}
use Rattle.std.specs.Prelude.{Ok}
use Rattle.records.proofs.Outcomes.{was_ok}

-- The table of a file that was read is that of a valid phrase.
pub handed_on : (file t : List ℕ) → AreBytes file → reading_of (reading file) ≡ Ok tt → t ≡ phrase_table (reading file) → HandedOn t
handed_on file t bytes e h =
    let (x, is) = was_ok (reading file) e in
    record { phrase = x; valid = sound file x bytes is; is = h ∙ ap phrase_table is }

-- The phrase in that table is the one that was read.
pub phrase_read : (file t : List ℕ) → AreBytes file → reading_of (reading file) ≡ Ok tt → t ≡ phrase_table (reading file) → reading file ≡ ok (phrase_of t)
phrase_read file t bytes e h =
    let (x, is) = was_ok (reading file) e in
    is ∙ ap ok (sym (ap phrase_of (h ∙ ap phrase_table is) ∙ phrase_of_holds x (sound file x bytes is)))
