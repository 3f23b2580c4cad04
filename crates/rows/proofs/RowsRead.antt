-- What is read of the rows of any table, one at a time. Assumes nothing.
use Prim.Native.Nat.{ℕ, zero, suc, ◌+◌, ◌*◌, ◌≤◌, ◌<◌}
use mathlib.Core.Path.{◌≡◌, sym, ap, ◌∙◌}
use mathlib.Core.List.{List, [], ◌∷◌, ◌++◌}
use native.Mathlib.Nat.{suc-mul}
use native.Mathlib.Omega.{arith}
use lib.ListN.{length, get_or, take, drop, take-append-drop, length-append}
use lib.Seq.{take-suc, get_or-take, drop-drop}
use Rattle.words.proofs.Parts.{part_take}
use Rattle.format.specs.Bytes.{records}
use Rattle.format.specs.Fits.{All}
use Rattle.format.specs.Layout.{most_listed}
use Rattle.format.specs.Jobs.{no_bell, no_note}
use Rattle.rows.specs.Rows.{rows_in}
use Rattle.rows.specs.BellRow.{bell_words, written_word, transposition_word, least_execution_word, most_execution_word, priority_word, rest_word, bell_of_row, bells_of_rows}
use Rattle.rows.specs.NoteRow.{note_words, key_word, earliest_release_word, latest_release_word, deadline_word, listed_count_word, listed_word, note_of_row, notes_of_rows}
use Rattle.rows.specs.PhraseTable.{bell_rows_at, note_rows_at}
use Rattle.rows.proofs.Records.{records_snoc}

-- Row i is read from the words that it begins.
pub row_at : {A : Type 0} (one : List ℕ → A) (w : ℕ) (t : List ℕ) (n i : ℕ) (d : A) → i < n → get_or (rows_in one w t n) i d ≡ one (drop (i * w) t)
unfolding rows_in
row_at one w t zero i d h = absurd (omega arith)
row_at one w t (suc n) zero d h = let none : 0 ≡ 0 * w = omega arith in ap (λ (k : ℕ). one (drop k t)) none
row_at one w t (suc n) (suc i) d h =
    let sum : w + i * w ≡ suc i * w = omega (arith, suc-mul i w) in
    row_at one w (drop w t) n i d (omega arith) ∙ ap one (drop-drop (i * w) w t ∙ ap (λ (k : ℕ). drop k t) sum)

-- ---- a row that is lent: of a bell, and of a note that lists no more than there is room for

-- A bell is read from its row alone.
pub bell_of_row_holds : (t : List ℕ) → bell_of_row (take bell_words t) ≡ bell_of_row t
bell_of_row_holds t =
    let same : (k : ℕ) → k < bell_words → get_or (take bell_words t) k 0 ≡ get_or t k 0 = λ k h. get_or-take bell_words t k 0 h in
    λ i. record {
      written = same written_word (omega arith) i;
      transposition = same transposition_word (omega arith) i;
      least_execution = same least_execution_word (omega arith) i;
      most_execution = same most_execution_word (omega arith) i;
      rest = same rest_word (omega arith) i;
      priority = same priority_word (omega arith) i;
    }

-- A note is read from its row alone.
pub note_of_row_holds : (t : List ℕ) → get_or t listed_count_word 0 ≤ most_listed → note_of_row (take note_words t) ≡ note_of_row t
note_of_row_holds t h =
    let same : (k : ℕ) → k < note_words → get_or (take note_words t) k 0 ≡ get_or t k 0 = λ k g. get_or-take note_words t k 0 g in
    let count : ℕ = get_or t listed_count_word 0 in
    let listed : take (get_or (take note_words t) listed_count_word 0) (drop listed_word (take note_words t)) ≡ take count (drop listed_word t) =
    ap (λ (k : ℕ). take k (drop listed_word (take note_words t))) (same listed_count_word (omega arith)) ∙ part_take listed_word count note_words t (omega arith) in
    λ i. record {
      key = same key_word (omega arith) i;
      earliest_release = same earliest_release_word (omega arith) i;
      latest_release = same latest_release_word (omega arith) i;
      deadline = same deadline_word (omega arith) i;
      listed = listed i;
    }

-- ---- the rows of a table, as the code lends them: bell i, and the words of note i

-- Bell i is that of its row.
pub bell_lent : (t : List ℕ) (n i : ℕ) → i < n
    → bell_of_row (take bell_words (drop (bell_rows_at + i * bell_words) t)) ≡ get_or (bells_of_rows (drop bell_rows_at t) n) i no_bell
bell_lent t n i h =
    bell_of_row_holds (drop (bell_rows_at + i * bell_words) t)
    ∙ ap bell_of_row (sym (drop-drop (i * bell_words) bell_rows_at t))
    ∙ sym (row_at bell_of_row bell_words (drop bell_rows_at t) n i no_bell h)

-- Note i is read from the words that its row begins.
pub note_lent : (t : List ℕ) (n i : ℕ) → i < n → note_of_row (drop (note_rows_at + i * note_words) t) ≡ get_or (notes_of_rows (drop note_rows_at t) n) i no_note
note_lent t n i h = ap note_of_row (sym (drop-drop (i * note_words) note_rows_at t)) ∙ sym (row_at note_of_row note_words (drop note_rows_at t) n i no_note h)

-- ---- the records of a list, one more at a time

module _ {A : Type 0} (f : A → List ℕ) (xs : List A) where
  -- One more stands after the others.
  pub records_more : (i : ℕ) (d : A) → i < length xs → records f (take (suc i) xs) ≡ records f (take i xs) ++ f (get_or xs i d)
  records_more i d h = ap (records f) (take-suc xs i d h) ∙ records_snoc f (take i xs) (get_or xs i d)

  -- It adds its own bytes to theirs.
  pub records_longer : (i : ℕ) (d : A) → i < length xs → length (records f (take (i + 1) xs)) ≡ length (records f (take i xs)) + length (f (get_or xs i d))
  records_longer i d h =
      let one : i + 1 ≡ suc i = omega arith in
      ap (λ (k : ℕ). length (records f (take k xs))) one ∙ ap length (records_more i d h) ∙ length-append (records f (take i xs)) (f (get_or xs i d))

records_append : {A : Type 0} (f : A → List ℕ) (xs ys : List A) → length (records f (xs ++ ys)) ≡ length (records f xs) + length (records f ys)
unfolding records
records_append f [] ys = omega arith
records_append f (x ∷ xs) ys =
    omega (
      arith,
      length-append (f x) (records f (xs ++ ys)),
      length-append (f x) (records f xs),
      records_append f xs ys,
    )

-- Those of the first are no longer than those of all.
pub records_within : {A : Type 0} (f : A → List ℕ) (xs : List A) (i : ℕ) → length (records f (take i xs)) ≤ length (records f xs)
records_within f xs i =
    let e = ap (λ (l : List _). length (records f l)) (take-append-drop i xs) in
    omega (arith, e, records_append f (take i xs) (drop i xs))

-- What holds of all holds of each.
pub all_at : {A : Type 0} (P : A → Type 0) (xs : List A) → All P xs → (i : ℕ) (d : A) → i < length xs → P (get_or xs i d)
unfolding All
all_at P [] all i d h = absurd (omega arith)
all_at P (x ∷ xs) (p, ps) zero d h = p
all_at P (x ∷ xs) (p, ps) (suc i) d h = all_at P xs ps i d (omega arith)
