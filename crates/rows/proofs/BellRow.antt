-- The rows of bells in the table of a phrase. Assumes nothing.
use Prim.Native.Nat.{ℕ, suc, ◌+◌, ◌*◌, ◌≤◌, ◌<◌}
use mathlib.Core.Path.{◌≡◌, refl, sym, ap, subst, ◌∙◌}
use mathlib.Core.List.{List, [], ◌∷◌, ◌++◌}
use native.Mathlib.Numerals.{add-one}
use native.Mathlib.Omega.{arith}
use lib.ListN.{length, get_or, take, drop, length-drop}
use lib.Seq.{get_or-drop}
use Rattle.words.specs.internal.Placed.{placed}
use Rattle.words.proofs.Placing.{length_placed}
use Rattle.format.specs.Fits.{All}
use Rattle.format.specs.Phrase.{Bell}
use Rattle.format.specs.Jobs.{no_bell}
use Rattle.rows.specs.internal.Rows.{BeginsWith, Holds}
use Rattle.rows.specs.BellRow.{bell_words, bell_row, bell_of_row, bells_of_rows}
use Rattle.rows.specs.PhraseTable.{bell_rows_at}
use Rattle.rows.proofs.Records.{Wide, ReadBack, rows_length, drop_placed, part_before, held_word, holds_none, begins_with_none, begins_with_held, same_held, still_holds, more_held, holds_more}

-- ---- a row

-- A row has seven words.
pub row_length : (b : Bell) → length (bell_row b) ≡ bell_words
unfolding bell_row
row_length b = refl

-- The bell of a row is read from it, whatever follows.
pub row_back : (b : Bell) (more : List ℕ) → bell_of_row (bell_row b ++ more) ≡ b
unfolding bell_row
row_back b more = refl

-- All rows have that width.
pub rows_wide : (bs : List Bell) → Wide bell_row bell_words bs
unfolding All
rows_wide [] = tt
rows_wide (b ∷ bs) = (row_length b, rows_wide bs)

-- All rows are read back.
pub rows_read_back : (bs : List Bell) → ReadBack bell_row bell_of_row bell_words bs
unfolding All
rows_read_back [] = tt
rows_read_back (b ∷ bs) = ((row_length b, row_back b), rows_read_back bs)

-- ---- the rows in a table

-- the bells of the first n rows
abbrev bells : List ℕ → ℕ → List Bell
bells t = bells_of_rows (drop bell_rows_at t)

-- the first n rows are those of bells
abbrev Table : List ℕ → ℕ → Type 0
Table t = Holds bell_row bell_of_row bell_words (drop bell_rows_at t)

-- the rows of bells begin with those of these
abbrev Begins : List Bell → List ℕ → Type 0
Begins bs t = BeginsWith bell_row bell_words bs (drop bell_rows_at t)

-- As many bells are read as rows are asked for.
pub bells_length : (t : List ℕ) (n : ℕ) → length (bells t n) ≡ n
bells_length t n = rows_length bell_of_row bell_words (drop bell_rows_at t) n

-- Every table has the rows of no bells.
pub table_none : (t : List ℕ) → Table t 0
table_none t = holds_none bell_row bell_of_row bell_words (drop bell_rows_at t)

-- The rows of bells begin with those of none.
pub begins_none : (t : List ℕ) → Begins [] t
begins_none t = begins_with_none bell_row bell_words (drop bell_rows_at t)

-- The rows of bells begin with those of the bells that are read from them.
pub table_begins : (t : List ℕ) (n : ℕ) → Table t n → Begins (bells t n) t
table_begins t n x = begins_with_held bell_row bell_of_row bell_words (drop bell_rows_at t) n x

-- Word k of row i is that of the row of bell i.
pub table_word : (t : List ℕ) (n i k : ℕ) → Table t n → i < n → k < bell_words
    → get_or t (bell_rows_at + (i * bell_words + k)) 0 ≡ get_or (bell_row (get_or (bells t n) i no_bell)) k 0
table_word t n i k x h g =
    let part = drop bell_rows_at t in
    sym (get_or-drop bell_rows_at t (i * bell_words + k) 0)
    ∙ held_word bell_row bell_of_row bell_words part n no_bell x (rows_wide (bells_of_rows part n)) i k h g

-- ---- words placed after the first n rows
module _ (t : List ℕ) (n at : ℕ) (ws : List ℕ) (g : bell_rows_at + n * bell_words ≤ at) (h : at + length ws ≤ length t) where
  rows_kept_holds : take (n * bell_words) (drop bell_rows_at (placed t at ws)) ≡ take (n * bell_words) (drop bell_rows_at t)
  rows_kept_holds = part_before t bell_rows_at (n * bell_words) at ws g (omega arith)

  -- The same bells are read.
  pub bells_kept : Table t n → bells (placed t at ws) n ≡ bells t n
  bells_kept x =
      same_held bell_row bell_of_row bell_words (drop bell_rows_at t) (drop bell_rows_at (placed t at ws)) n (rows_read_back (bells t n)) x rows_kept_holds

  -- The rows are still those of bells.
  pub table_kept : Table t n → Table (placed t at ws) n
  table_kept x =
      let room : n * bell_words ≤ length (drop bell_rows_at (placed t at ws)) =
      omega (arith, length-drop bell_rows_at (placed t at ws), length_placed t at ws h) in
      still_holds bell_row bell_of_row bell_words (drop bell_rows_at t) (drop bell_rows_at (placed t at ws)) n (rows_read_back (bells t n)) x rows_kept_holds room

-- ---- one bell more, in the row after those of the others
module _ (t : List ℕ) (i : ℕ) (b : Bell) (x : Table t i) (h : bell_rows_at + (i + 1) * bell_words ≤ length t) where
  put : drop bell_rows_at (placed t (bell_rows_at + i * bell_words) (bell_row b)) ≡ placed (drop bell_rows_at t) (i * bell_words) (bell_row b)
  put = drop_placed t bell_rows_at (i * bell_words) (bell_row b) (omega arith)

  room : suc i * bell_words ≤ length (drop bell_rows_at t)
  room = omega (arith, length-drop bell_rows_at t)

  -- It is read after the others.
  pub bells_more : bells (placed t (bell_rows_at + i * bell_words) (bell_row b)) (i + 1) ≡ bells t i ++ b ∷ []
  bells_more =
      rw add-one
      (ap (λ (p : List ℕ). bells_of_rows p (suc i)) put
      ∙ more_held bell_row bell_of_row bell_words (drop bell_rows_at t) i b (rows_read_back (bells t i ++ b ∷ [])) (row_length b) x room)

  -- The rows are those of bells, with it.
  pub table_more : Table (placed t (bell_rows_at + i * bell_words) (bell_row b)) (i + 1)
  table_more =
      rw add-one
      (subst (λ (p : List ℕ). Holds bell_row bell_of_row bell_words p (suc i)) (sym put)
      (holds_more bell_row bell_of_row bell_words (drop bell_rows_at t) i b (rows_read_back (bells t i ++ b ∷ [])) (row_length b) x room))
