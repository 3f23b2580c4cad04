-- What is asked of one note: how many it lists, then its rules. Assumes nothing.
use Prim.Native.Nat.{ℕ, ◌≤◌, ◌<◌}
use mathlib.Core.Path.{◌≡◌, ap}
use mathlib.Core.Bool.{Bool}
use mathlib.Core.List.{List}
use native.Mathlib.Omega.{arith}
use lib.ListN.{length, get_or, drop, length-take, length-drop}
use borrow.Author.Tests.{le-leb, lt-leb}
use Rattle.model.specs.Refusals.{wrong_note_length}
use Rattle.format.specs.Layout.{most_listed}
use Rattle.format.specs.Outcome.{refused, ◌>>◌, require}
use Rattle.format.specs.Phrase.{Bell, Note}
use Rattle.format.specs.Rules.{note_rules}
use Rattle.rows.specs.NoteRow.{note_words, listed_count_word, listed_word, note_of_row}
use Rattle.rules.specs.internal.Asking.{note_asked}

-- ---- how many the note of a row lists
module _ (r : List ℕ) (wide : note_words ≤ length r) where
  -- So many as are counted, where the row has room for them.
  pub listed_count_holds : get_or r listed_count_word 0 ≤ most_listed → length (note_of_row r).listed ≡ get_or r listed_count_word 0
  listed_count_holds h = omega (arith, length-take (get_or r listed_count_word 0) (drop listed_word r), length-drop listed_word r)

  -- More than four, where more are counted.
  pub listed_long : most_listed < get_or r listed_count_word 0 → most_listed < length (note_of_row r).listed
  listed_long h = omega (arith, length-take (get_or r listed_count_word 0) (drop listed_word r), length-drop listed_word r)

-- ---- the rules
module _ (shift : ℕ) (bells : List Bell) (own at : ℕ) (n : Note) where
  -- A note that lists too many is refused.
  pub crowded : most_listed < length n.listed → note_asked shift bells own at n ≡ refused wrong_note_length at
  crowded h = ap (λ (t : Bool). ◌>>◌ (require t wrong_note_length at) (note_rules shift bells own at n)) (lt-leb (length n.listed) most_listed h)

  -- Any other has its rules.
  pub roomy : length n.listed ≤ most_listed → note_asked shift bells own at n ≡ note_rules shift bells own at n
  roomy h = ap (λ (t : Bool). ◌>>◌ (require t wrong_note_length at) (note_rules shift bells own at n)) (le-leb (length n.listed) most_listed h)
