-- The look-up of a key among the bells of a table, one bell at a time. Assumes nothing.
use Prim.Native.Nat.{ℕ, zero, suc, ◌+◌, ◌*◌, ◌≤◌, ◌<◌}
use mathlib.Core.Path.{◌≡◌, refl, sym, ap, ◌∙◌}
use mathlib.Core.List.{List, ◌∷◌}
use mathlib.Core.Option.{none, some}
use native.Mathlib.Numerals.{add-one}
use native.Mathlib.Omega.{arith}
use lib.ListN.{get_or, drop, drop_of_length-le}
use lib.Seq.{drop-cons}
use borrow.Author.Tests.{eq-eqb, ne_eqb}
use Rattle.format.specs.Phrase.{sounding, find_from}
use Rattle.format.specs.Jobs.{no_bell}
use Rattle.rows.specs.BellRow.{bell_words, sounding_word, bell_row}
use Rattle.rows.specs.PhraseTable.{bell_rows_at}
use Rattle.rows.proofs.BellRow.{bells_length, table_word}
use Rattle.std.specs.Prelude.{Option as RustOption, Some, None, MatchOption}
use Rattle.records.specs.internal.Answers.{found_of}
use Rattle.records.specs.internal.Filling.{bells_held, BellTable}

module _ (t : List ℕ) (n key i : ℕ) (x : BellTable t n) (h : i < n) where
  cons : drop i (bells_held t n) ≡ get_or (bells_held t n) i no_bell ∷ drop (i + 1) (bells_held t n)
  cons = rw add-one (drop-cons (bells_held t n) i no_bell (omega (arith, bells_length t n)))

  sounds : get_or t (bell_rows_at + (i * bell_words + sounding_word)) 0 ≡ sounding (get_or (bells_held t n) i no_bell)
  unfolding bell_row
  sounds = table_word t n i sounding_word x h (omega arith)

  -- A bell that sounds for the key is found.
  here : get_or t (bell_rows_at + (i * bell_words + sounding_word)) 0 ≡ key → find_from key i (drop i (bells_held t n)) ≡ some i
  unfolding find_from
  here e = rw cons (simp (eq-eqb (sounding (get_or (bells_held t n) i no_bell)) key (sym sounds ∙ e)))

  -- Another bell is passed over.
  next : (get_or t (bell_rows_at + (i * bell_words + sounding_word)) 0 ≡ key → ⊥)
      → find_from key i (drop i (bells_held t n)) ≡ find_from key (i + 1) (drop (i + 1) (bells_held t n))
  unfolding find_from
  next f = rw cons (simp (ne_eqb (sounding (get_or (bells_held t n) i no_bell)) key (λ e. f (sounds ∙ e))))

-- After the last bell none is found.
end : (t : List ℕ) (n key i : ℕ) → n ≤ i → find_from key i (drop i (bells_held t n)) ≡ none
unfolding find_from
end t n key i h = rw (drop_of_length-le (bells_held t n) {i = i} (omega (arith, bells_length t n)))

module _ (t : List ℕ) (n key : ℕ) (x : BellTable t n) where
  -- The bell of row i sounds for the key.
  abbrev pub Sounds : ℕ → Type 0
  Sounds i = get_or t (bell_rows_at + (i * bell_words + sounding_word)) 0 ≡ key

  -- Bells that do not sound for the key are passed over.
  passed : (i : ℕ) → i ≤ n → ((k : ℕ) → k < i → Sounds k → ⊥) → find_from key 0 (bells_held t n) ≡ find_from key i (drop i (bells_held t n))
  passed zero h f = refl
  passed (suc i) h f =
      passed i (omega arith) (λ k g. f k (omega arith))
      ∙ next t n key i x (omega arith) (f i (omega arith))
      ∙ ap (λ (k : ℕ). find_from key k (drop k (bells_held t n))) (add-one i)

  -- The first number whose bell sounds for the key is that of the look-up.
  pub looked_up : (r : RustOption ℕ) → MatchOption r ((k : ℕ) → 0 ≤ k → k < n → Sounds k → ⊥)
      (λ i. (0 ≤ i) × (i < n) × Sounds i × ((k : ℕ) → 0 ≤ k → k < i → Sounds k → ⊥)) → r ≡ found_of (find_from key 0 (bells_held t n))
  looked_up (Some i) h = sym (ap found_of (passed i (omega arith) (λ k g. h.3 k (omega arith) g) ∙ here t n key i x h.1 h.2))
  looked_up None h = sym (ap found_of (passed n (omega arith) (λ k g. h k (omega arith) g) ∙ end t n key n (omega arith)))
