-- Writing, by what the rules say and by the room. Assumes nothing.
use Prim.Native.Nat.{ℕ, ◌≤◌, ◌<◌}
use mathlib.Core.Path.{◌≡◌, ap, ◌∙◌}
use mathlib.Core.Bool.{Bool}
use mathlib.Core.List.{List}
use lib.Dec.{leb}
use lib.ListN.{length}
use borrow.Author.Tests.{le-leb, lt-leb}
use Rattle.model.specs.Refusals.{short_file}
use Rattle.format.specs.Outcome.{Outcome, ok, refused, ◌>>◌, require}
use Rattle.format.specs.Phrase.{Phrase}
use Rattle.format.specs.Rules.{rules}
use Rattle.format.specs.Writing.{written, writing}

module _ (x : Phrase) (room : ℕ) where
  -- after the rules
  rest : Outcome (List ℕ)
  rest = ◌>>◌ (require (leb (length (written x)) room) short_file 0) (ok (written x))

  -- A refusal of the rules is one of writing.
  pub rules_refuse : (n at : ℕ) → rules x ≡ refused n at → writing x room ≡ refused n at
  unfolding writing rest
  rules_refuse n at e = ap (λ (o : Outcome Phrase). ◌>>◌ o rest) e

  module _ (y : Phrase) (e : rules x ≡ ok y) where
    passes : writing x room ≡ rest
    unfolding writing rest
    passes = ap (λ (o : Outcome Phrase). ◌>>◌ o rest) e

    -- A file that is longer than the room is refused.
    pub too_long : room < length (written x) → writing x room ≡ refused short_file 0
    unfolding rest
    too_long h = passes ∙ ap (λ (t : Bool). ◌>>◌ (require t short_file 0) (ok (written x))) (lt-leb (length (written x)) room h)

    -- Any other is written.
    pub long_enough : length (written x) ≤ room → writing x room ≡ ok (written x)
    unfolding rest
    long_enough h = passes ∙ ap (λ (t : Bool). ◌>>◌ (require t short_file 0) (ok (written x))) (le-leb (length (written x)) room h)
