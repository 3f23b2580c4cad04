-- The rules of a number of bells, and of notes. Assumes nothing.
use Prim.Native.Nat.{ℕ, ◌+◌, ◌≤◌, ◌<◌}
use mathlib.Core.Path.{◌≡◌, sym, ap, ◌∙◌}
use mathlib.Core.Bool.{Bool, true, false}
use mathlib.Core.List.{List, []}
use native.Mathlib.Nat.{mul-le-mul}
use native.Mathlib.Omega.{arith}
use lib.ListN.{length}
use borrow.Author.Tests.{le-leb, lt-leb}
use Rattle.model.specs.Refusals.{wrong_bell_count, too_many_notes}
use Rattle.format.specs.Bytes.{within}
use Rattle.format.specs.Layout.{Layout, first, most_bells, bell_count_at, bells_at, bell_bytes, note_count_at, longest_file}
use Rattle.format.specs.Outcome.{refused, ◌>>◌, require}
use Rattle.format.specs.Phrase.{Bell, Note}
use Rattle.format.specs.Rules.{bells_rules, notes_rules, all_bells, all_notes}
use Rattle.format.specs.internal.Sized.{Sized}
use Rattle.format.proofs.Layouts.{rest_small}
use Rattle.format.proofs.Versions.{notes_rules_holds}

module _ (l : Layout) (bells : List Bell) where
  -- A wrong number of bells is refused.
  pub wrong_count_holds : within 1 most_bells (length bells) ≡ false → all_bells l bells ≡ refused wrong_bell_count (bell_count_at l)
  unfolding all_bells
  wrong_count_holds e = ap (λ (t : Bool). ◌>>◌ (require t wrong_bell_count (bell_count_at l)) (bells_rules l bells (bells_at l) [])) e

  -- A right number leaves the rules of each.
  pub right_count : within 1 most_bells (length bells) ≡ true → all_bells l bells ≡ bells_rules l bells (bells_at l) []
  unfolding all_bells
  right_count e = ap (λ (t : Bool). ◌>>◌ (require t wrong_bell_count (bell_count_at l)) (bells_rules l bells (bells_at l) [])) e

-- After no more bells than there may be, the number of notes stands in the longest file.
pub count_within : (l : Layout) → Sized l → (n : ℕ) → n ≤ most_bells → note_count_at l n < longest_file
count_within l z n h =
    let nine : bell_bytes l ≤ 9 = omega (arith, rest_small l z) in
    omega (arith, z.shift, mul-le-mul h nine)

module _ (l : Layout) (shift : ℕ) (bells : List Bell) (notes : List Note) (at : ℕ) where
  -- Too many notes are refused.
  pub too_many : l.most_notes < length notes → all_notes l shift bells notes at ≡ refused too_many_notes at
  unfolding all_notes
  too_many h =
      ap (λ (t : Bool). ◌>>◌ (require t too_many_notes at) (notes_rules l shift bells notes (at + l.count_bytes) [])) (lt-leb (length notes) l.most_notes h)

  -- No more than there may be leave the rules of each, which versions with numbers of one byte have alike.
  pub few_enough : first.listed_bytes ≡ l.listed_bytes → length notes ≤ l.most_notes
      → all_notes l shift bells notes at ≡ notes_rules first shift bells notes (at + l.count_bytes) []
  unfolding all_notes
  few_enough one h =
      ap (λ (t : Bool). ◌>>◌ (require t too_many_notes at) (notes_rules l shift bells notes (at + l.count_bytes) [])) (le-leb (length notes) l.most_notes h)
      ∙ sym (notes_rules_holds l one shift bells notes (at + l.count_bytes) [])
