-- The row of a note that lists at most four. Assumes nothing.
use Prim.Native.Nat.{ℕ, suc, ◌+◌, ◌-◌, ◌*◌, ◌≤◌}
use mathlib.Core.Path.{◌≡◌, refl, sym, ap, subst, ◌∙◌}
use mathlib.Core.List.{List, [], ◌∷◌, ◌++◌, append_assoc}
use native.Mathlib.Omega.{arith}
use lib.ListN.{length, get_or, take, drop, replicate, length-append, length-drop}
use lib.Seq.{take_at}
use Rattle.words.specs.Padded.{padded}
use Rattle.words.specs.internal.Placed.{placed}
use Rattle.words.proofs.Padded.{padded_length}
use Rattle.format.specs.Layout.{most_listed}
use Rattle.format.specs.Phrase.{Bell, Note}
use Rattle.format.specs.Jobs.{struck}
use Rattle.format.specs.Fits.{All}
use Rattle.rows.specs.internal.Rows.{BeginsWith}
use Rattle.rows.specs.PhraseTable.{note_rows_at}
use Rattle.rows.specs.NoteRow.{note_words, note_row_on, note_row, note_of_row}
use Rattle.rows.proofs.Records.{Wide, ReadBack, drop_placed, begins_with_none, begins_with_more}

-- The note lists at most four numbers.
abbrev pub ListsFew : Note → Type 0
ListsFew n = length n.listed ≤ most_listed

-- A list of at most four has four words, with zeros after its own.
pub padded_words : (l : List ℕ) → length l ≤ most_listed → padded most_listed l ≡ get_or l 0 0 ∷ get_or l 1 0 ∷ get_or l 2 0 ∷ get_or l 3 0 ∷ []
padded_words [] h = refl
padded_words (a ∷ []) h = refl
padded_words (a ∷ b ∷ []) h = refl
padded_words (a ∷ b ∷ c ∷ []) h = refl
padded_words (a ∷ b ∷ c ∷ d ∷ []) h = refl
padded_words (a ∷ b ∷ c ∷ d ∷ e ∷ l) h = absurd (omega arith)

module _ (bell : ℕ) (n : Note) (h : ListsFew n) where
  four : length (padded most_listed n.listed) ≡ 4
  four = padded_length most_listed n.listed h

  -- The row has ten words.
  pub row_length : length (note_row_on bell n) ≡ note_words
  unfolding note_row_on
  row_length = omega (arith, four, length-append {A = ℕ} (padded most_listed n.listed) (bell ∷ []))

  -- They are these.
  pub row_words_holds : note_row_on bell n
      ≡ n.key ∷ n.earliest_release ∷ n.latest_release ∷ n.deadline ∷ length n.listed
      ∷ get_or n.listed 0 0 ∷ get_or n.listed 1 0 ∷ get_or n.listed 2 0 ∷ get_or n.listed 3 0 ∷ bell ∷ []
  unfolding note_row_on
  row_words_holds = ap (λ (l : List ℕ). n.key ∷ n.earliest_release ∷ n.latest_release ∷ n.deadline ∷ length n.listed ∷ l ++ bell ∷ []) (padded_words n.listed h)

-- The note of a row is read from it, whatever bell it strikes and whatever follows.
pub row_back_on : (bell : ℕ) (n : Note) (more : List ℕ) → note_of_row (note_row_on bell n ++ more) ≡ n
unfolding note_row_on
row_back_on bell n more =
    let l : List ℕ = n.listed in
    let zeros : List ℕ = replicate (most_listed - length l) 0 in
    let after : List ℕ = zeros ++ (bell ∷ more) in
    let split : (padded most_listed l ++ bell ∷ []) ++ more ≡ l ++ after =
    append_assoc (l ++ zeros) (bell ∷ []) more ∙ append_assoc l zeros (bell ∷ more) in
    let same : take (length l) ((padded most_listed l ++ bell ∷ []) ++ more) ≡ l = ap (take (length l)) split ∙ take_at l after (length l) refl in
    λ i. record { key = n.key; earliest_release = n.earliest_release; latest_release = n.latest_release; deadline = n.deadline; listed = same i }

module _ (shift : ℕ) (bells : List Bell) where
  -- The note of its row is read from it, whatever follows.
  pub row_back : (n : Note) (more : List ℕ) → note_of_row (note_row shift bells n ++ more) ≡ n
  row_back n more = row_back_on (struck shift bells n) n more

  -- Rows of notes that list at most four have that width.
  pub rows_wide : (ns : List Note) → All ListsFew ns → Wide (note_row shift bells) note_words ns
  unfolding All
  rows_wide [] h = tt
  rows_wide (n ∷ ns) (h, hs) = (row_length (struck shift bells n) n h, rows_wide ns hs)

  -- Rows of notes that list at most four are read back.
  pub rows_read_back : (ns : List Note) → All ListsFew ns → ReadBack (note_row shift bells) note_of_row note_words ns
  unfolding All
  rows_read_back [] h = tt
  rows_read_back (n ∷ ns) (h, hs) = ((row_length (struck shift bells n) n h, row_back n), rows_read_back ns hs)

-- ---- the rows in a table

module _ (shift : ℕ) (bells : List Bell) where
  -- the rows of notes begin with those of these
  abbrev Begins : List Note → List ℕ → Type 0
  Begins ns t = BeginsWith (note_row shift bells) note_words ns (drop note_rows_at t)

  -- The rows of notes begin with those of none.
  pub begins_none : (t : List ℕ) → Begins [] t
  begins_none t = begins_with_none (note_row shift bells) note_words (drop note_rows_at t)

  -- They begin with one row more once it is placed after the others.
  pub begins_more : (ns : List Note) (n : Note) (t : List ℕ) → ListsFew n → note_rows_at + suc (length ns) * note_words ≤ length t → Begins ns t
      → Begins (ns ++ n ∷ []) (placed t (note_rows_at + length ns * note_words) (note_row shift bells n))
  begins_more ns n t few h x =
      let wide = row_length (struck shift bells n) n few in
      let put = drop_placed t note_rows_at (length ns * note_words) (note_row shift bells n) (omega arith) in
      let room : suc (length ns) * note_words ≤ length (drop note_rows_at t) = omega (arith, length-drop note_rows_at t) in
      subst (BeginsWith (note_row shift bells) note_words (ns ++ n ∷ [])) (sym put) (begins_with_more (note_row shift bells) note_words ns n (drop note_rows_at t) wide room x)
