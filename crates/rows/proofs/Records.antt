-- Rows of one width, one after the other, of whatever they are rows. Assumes nothing.
use Prim.Native.Nat.{ℕ, zero, suc, ◌+◌, ◌-◌, ◌*◌, ◌≤◌, ◌<◌}
use mathlib.Core.Path.{◌≡◌, refl, sym, ap, ◌∙◌}
use mathlib.Core.List.{List, [], ◌∷◌, ◌++◌, append-nil, append_assoc}
use native.Mathlib.Nat.{suc-mul, mul-le-mul_right}
use native.Mathlib.Omega.{arith}
use lib.ListN.{length, get_or, take, drop, length-append, length-drop, take-append-drop, get_or-append}
use lib.Seq.{length-take-le, take-append-le, get_or-append-add, get_or-take, take-take, take-add, drop_at, drop-drop}
use Rattle.words.specs.internal.Placed.{placed}
use Rattle.words.proofs.Placing.{take_placed, length_placed}
use Rattle.format.specs.Bytes.{records}
use Rattle.format.specs.Fits.{All}
use Rattle.rows.specs.Rows.{rows_in}
use Rattle.rows.specs.internal.Rows.{BeginsWith, Holds}

-- one row more at the end
pub records_snoc : {A : Type 0} (row : A → List ℕ) (xs : List A) (x : A) → records row (xs ++ x ∷ []) ≡ records row xs ++ row x
unfolding records
records_snoc row [] x = append-nil (row x)
records_snoc row (a ∷ xs) x = ap (λ (l : List ℕ). row a ++ l) (records_snoc row xs x) ∙ sym (append_assoc (row a) (records row xs) (row x))

-- the rows of these have a width
abbrev pub Wide : {A : Type 0} → (A → List ℕ) → ℕ → List A → Type 0
Wide row w = All (λ x. length (row x) ≡ w)

-- rows of one width take as many words as they are
pub records_length : {A : Type 0} (row : A → List ℕ) (w : ℕ) (xs : List A) → Wide row w xs → length (records row xs) ≡ length xs * w
unfolding records All
records_length row w [] e = omega arith
records_length row w (x ∷ xs) (e, es) = length-append (row x) (records row xs) ∙ omega (arith, e, records_length row w xs es, suc-mul (length xs) w)

-- word k of row i
pub records_word : {A : Type 0} (row : A → List ℕ) (w : ℕ) (xs : List A) (d : A) → Wide row w xs → (i k : ℕ) → i < length xs → k < w
    → get_or (records row xs) (i * w + k) 0 ≡ get_or (row (get_or xs i d)) k 0
unfolding records All
records_word row w [] d e i k h g = absurd (omega arith)
records_word row w (x ∷ xs) d (e, es) zero k h g =
    ap (λ (m : ℕ). get_or (row x ++ records row xs) m 0) (omega arith) ∙ get_or-append (row x) (records row xs) 0 k (omega (arith, e))
records_word row w (x ∷ xs) d (e, es) (suc i) k h g =
    let at : suc i * w + k ≡ length (row x) + (i * w + k) = omega (arith, e, suc-mul i w) in
    ap (λ (m : ℕ). get_or (row x ++ records row xs) m 0) at ∙ get_or-append-add (row x) (records row xs) (i * w + k) 0 ∙ records_word row w xs d es i k (omega arith) g

-- as many are read as rows are asked for
pub rows_length : {A : Type 0} (one : List ℕ → A) (w : ℕ) (t : List ℕ) (n : ℕ) → length (rows_in one w t n) ≡ n
unfolding rows_in
rows_length one w t zero = refl
rows_length one w t (suc n) = ap suc (rows_length one w (drop w t) n)

-- a row of the width is read back, whatever follows it
abbrev pub ReadBack : {A : Type 0} → (A → List ℕ) → (List ℕ → A) → ℕ → List A → Type 0
ReadBack row one w = All (λ x. (length (row x) ≡ w) × ((more : List ℕ) → one (row x ++ more) ≡ x))

-- rows that are written one after the other are read back
pub rows_back : {A : Type 0} (row : A → List ℕ) (one : List ℕ → A) (w : ℕ) (xs : List A) → ReadBack row one w xs → (more : List ℕ)
    → rows_in one w (records row xs ++ more) (length xs) ≡ xs
unfolding rows_in records All
rows_back row one w [] b more = refl
rows_back row one w (x ∷ xs) (b, bs) more =
    let next : List ℕ = records row xs ++ more in
    let split : (row x ++ records row xs) ++ more ≡ row x ++ next = append_assoc (row x) (records row xs) more in
    let after : drop w ((row x ++ records row xs) ++ more) ≡ next = ap (drop w) split ∙ drop_at (row x) next w b.0 in
    let others : rows_in one w (drop w ((row x ++ records row xs) ++ more)) (length xs) ≡ xs =
    ap (λ (t : List ℕ). rows_in one w t (length xs)) after ∙ rows_back row one w xs bs more in
    λ n. (ap one split ∙ b.1 next) n ∷ others n

-- words that begin with the rows of these hold them
module _ {A : Type 0} (row : A → List ℕ) (one : List ℕ → A) (w : ℕ) where
  pub held : (t : List ℕ) (n : ℕ) (xs : List A) → ReadBack row one w xs → length xs ≡ n → take (n * w) t ≡ records row xs → rows_in one w t n ≡ xs
  held t n xs b l e =
      let split : t ≡ records row xs ++ drop (n * w) t = sym (take-append-drop (n * w) t) ∙ ap (λ (r : List ℕ). r ++ drop (n * w) t) e in
      ap (rows_in one w t) (sym l) ∙ ap (λ (x : List ℕ). rows_in one w x (length xs)) split ∙ rows_back row one w xs b (drop (n * w) t)

  pub holds : (t : List ℕ) (n : ℕ) (xs : List A) → ReadBack row one w xs → n * w ≤ length t → length xs ≡ n → take (n * w) t ≡ records row xs → Holds row one w t n
  holds t n xs b h l e = record { room = h; rows = e ∙ ap (records row) (sym (held t n xs b l e)) }

-- the words begin with no row, and with one row more once it is placed after the others
module _ {A : Type 0} (row : A → List ℕ) (w : ℕ) where
  pub begins_with_none : (t : List ℕ) → BeginsWith row w [] t
  unfolding records
  begins_with_none t = let none : 0 * w ≡ 0 = omega arith in ap (λ (n : ℕ). take n t) none

  pub begins_with_more : (xs : List A) (x : A) (t : List ℕ) → length (row x) ≡ w → suc (length xs) * w ≤ length t → BeginsWith row w xs t
      → BeginsWith row w (xs ++ x ∷ []) (placed t (length xs * w) (row x))
  begins_with_more xs x t e h b =
      let s : length (xs ++ x ∷ []) ≡ suc (length xs) = length-append xs (x ∷ []) ∙ omega arith in
      let at : length (xs ++ x ∷ []) * w ≡ length xs * w + length (row x) = omega (arith, e, ap (λ (n : ℕ). n * w) s, suc-mul (length xs) w) in
      ap (λ (n : ℕ). take n (placed t (length xs * w) (row x))) at
      ∙ take_placed t (length xs * w) (row x) (omega (arith, suc-mul (length xs) w))
      ∙ ap (λ (l : List ℕ). l ++ row x) b
      ∙ sym (records_snoc row xs x)

-- ---- a part of a table, from a place on, when words are placed in the table

-- Words placed after the place are placed in the part.
pub drop_placed : (t : List ℕ) (from at : ℕ) (ws : List ℕ) → from ≤ length t → drop from (placed t (from + at) ws) ≡ placed (drop from t) at ws
unfolding placed
drop_placed t from at ws h =
    let back = drop (from + at + length ws) t in
    let front : take (from + at) t ++ (ws ++ back) ≡ take from t ++ (take at (drop from t) ++ (ws ++ back)) =
    ap (λ (l : List ℕ). l ++ (ws ++ back)) (take-add from at t) ∙ append_assoc (take from t) (take at (drop from t)) (ws ++ back) in
    let sum : from + at + length ws ≡ from + (at + length ws) = omega arith in
    let same : back ≡ drop (at + length ws) (drop from t) =
    ap (λ (n : ℕ). drop n t) sum ∙ sym (drop-drop (at + length ws) from t) in
    ap (drop from) front
    ∙ drop_at (take from t) (take at (drop from t) ++ (ws ++ back)) from (length-take-le from t h)
    ∙ ap (λ (l : List ℕ). take at (drop from t) ++ (ws ++ l)) same

-- Words placed at a place leave those before it.
pub take_before : (t : List ℕ) (n at : ℕ) (ws : List ℕ) → n ≤ at → at ≤ length t → take n (placed t at ws) ≡ take n t
unfolding placed
take_before t n at ws g h =
    take-append-le n (take at t) (ws ++ drop (at + length ws) t) (omega (arith, length-take-le at t h)) ∙ take-take n at t g

-- They leave the words of the part before it too.
pub part_before : (t : List ℕ) (from n at : ℕ) (ws : List ℕ) → from + n ≤ at → at ≤ length t → take n (drop from (placed t at ws)) ≡ take n (drop from t)
part_before t from n at ws g h =
    let e : at ≡ from + (at - from) = omega arith in
    ap (λ (m : ℕ). take n (drop from (placed t m ws))) e
    ∙ ap (take n) (drop_placed t from (at - from) ws (omega arith))
    ∙ take_before (drop from t) n (at - from) ws (omega arith) (omega (arith, length-drop from t))

-- ---- rows that are held

module _ {A : Type 0} (row : A → List ℕ) (one : List ℕ → A) (w : ℕ) where
  -- Word k of row i is that of what is read of the row.
  pub held_word : (t : List ℕ) (n : ℕ) (d : A) → Holds row one w t n → Wide row w (rows_in one w t n) → (i k : ℕ) → i < n → k < w
      → get_or t (i * w + k) 0 ≡ get_or (row (get_or (rows_in one w t n) i d)) k 0
  held_word t n d x e i k h g =
      let within : suc i * w ≤ n * w = mul-le-mul_right w h in
      sym (get_or-take (n * w) t (i * w + k) 0 (omega (arith, suc-mul i w)))
      ∙ ap (λ (l : List ℕ). get_or l (i * w + k) 0) x.rows
      ∙ records_word row w (rows_in one w t n) d e i k (omega (arith, rows_length one w t n)) g

  -- All words hold no row.
  pub holds_none : (t : List ℕ) → Holds row one w t 0
  unfolding records rows_in All
  holds_none t = holds row one w t 0 [] tt (omega arith) refl (begins_with_none row w t)

  -- The words begin with the rows that they hold.
  pub begins_with_held : (t : List ℕ) (n : ℕ) → Holds row one w t n → BeginsWith row w (rows_in one w t n) t
  begins_with_held t n x = ap (λ (m : ℕ). take (m * w) t) (rows_length one w t n) ∙ x.rows

  -- words that begin alike
  module _ (t u : List ℕ) (n : ℕ) (b : ReadBack row one w (rows_in one w t n)) (x : Holds row one w t n) (e : take (n * w) u ≡ take (n * w) t) where
    -- What is read from them is the same.
    pub same_held : rows_in one w u n ≡ rows_in one w t n
    same_held = held row one w u n (rows_in one w t n) b (rows_length one w t n) (e ∙ x.rows)

    -- They hold so many rows too.
    pub still_holds : n * w ≤ length u → Holds row one w u n
    still_holds h = holds row one w u n (rows_in one w t n) b h (rows_length one w t n) (e ∙ x.rows)

  -- one row more, placed after the others
  module _ (t : List ℕ) (n : ℕ) (a : A) (b : ReadBack row one w (rows_in one w t n ++ a ∷ [])) (l : length (row a) ≡ w) (x : Holds row one w t n) (h : suc n * w ≤ length t) where
    more_length : length (rows_in one w t n ++ a ∷ []) ≡ suc n
    more_length = length-append (rows_in one w t n) (a ∷ []) ∙ omega (arith, rows_length one w t n)

    more_rows : take (suc n * w) (placed t (n * w) (row a)) ≡ records row (rows_in one w t n ++ a ∷ [])
    more_rows =
        let e = rows_length one w t n in
        let room : suc (length (rows_in one w t n)) * w ≤ length t = omega (arith, ap (λ (m : ℕ). suc m * w) e) in
        ap (λ (m : ℕ). take (m * w) (placed t (n * w) (row a))) (sym more_length)
        ∙ ap (λ (m : ℕ). take (length (rows_in one w t n ++ a ∷ []) * w) (placed t (m * w) (row a))) (sym e)
        ∙ begins_with_more row w (rows_in one w t n) a t l room (begins_with_held t n x)

    -- It is read after the others.
    pub more_held : rows_in one w (placed t (n * w) (row a)) (suc n) ≡ rows_in one w t n ++ a ∷ []
    more_held = held row one w (placed t (n * w) (row a)) (suc n) (rows_in one w t n ++ a ∷ []) b more_length more_rows

    -- The words hold its row too.
    pub holds_more : Holds row one w (placed t (n * w) (row a)) (suc n)
    holds_more =
        let fits : n * w + length (row a) ≤ length t = omega (arith, l, suc-mul n w) in
        let s : suc n * w ≤ length (placed t (n * w) (row a)) = omega (arith, length_placed t (n * w) (row a) fits) in
        holds row one w (placed t (n * w) (row a)) (suc n) (rows_in one w t n ++ a ∷ []) b s more_length more_rows
