-- The reading of bells, by the tests that led there, with the bells that a table holds. Assumes nothing.
use Prim.Native.Nat.{ℕ, ◌+◌, ◌-◌, ◌*◌, ◌≤◌, ◌<◌}
use mathlib.Core.Path.{◌≡◌, sym, ap, ◌∙◌}
use mathlib.Core.Bool.{true, false}
use mathlib.Core.List.{List, []}
use mathlib.Core.Option.{none, some}
use native.Mathlib.Nat.{sub-zero}
use native.Mathlib.Omega.{arith}
use lib.Dec.{leb}
use lib.ListN.{length, drop}
use borrow.Author.Tests.{lt-ltb, le-ltb, leb-true}
use Rattle.model.specs.Refusals.{wrong_end, wrong_bell_count, wrong_bell, doubled_key}
use Rattle.words.specs.internal.Placed.{placed}
use Rattle.format.specs.Bytes.{number, within}
use Rattle.format.specs.Layout.{Layout, bell_count_at, bells_at, bell_bytes, most_bells}
use Rattle.format.specs.Outcome.{ok, refused}
use Rattle.format.specs.Phrase.{Bell, sounding, find_sounding}
use Rattle.format.specs.Rules.{bell_in_range}
use Rattle.format.specs.Reading.{bell_in, bell_record, bells_from, bells_in}
use Rattle.format.proofs.Passed.{required}
use Rattle.format.proofs.Steps.{long, more_bells}
use Rattle.format.proofs.Steps as steps
use Rattle.rows.specs.Rows.{rows_in}
use Rattle.rows.specs.BellRow.{bell_words, bell_row}
use Rattle.rows.specs.PhraseTable.{bell_rows_at}
use Rattle.rows.proofs.BellRow.{bells_more}
use Rattle.records.specs.internal.Filling.{bells_held, BellTable}

-- ---- a record that is there

module _ (l : Layout) (bs : List Bell) (at : ℕ) (p : List ℕ) where
  -- A record that is read has all its bytes.
  pub is_long : (b : Bell) → bell_record l bs at p ≡ ok b → bell_bytes l ≤ length p
  unfolding bell_record
  is_long b e = leb-true (bell_bytes l) (length p) (required (leb (bell_bytes l) (length p)) wrong_end at e).0

  module _ (h : bell_bytes l ≤ length p) where
    -- A field out of its range is refused.
    pub outside : bell_in_range l (bell_in l p) ≡ false → bell_record l bs at p ≡ refused wrong_bell at
    outside e = long l bs at p h ∙ steps.outside l bs at (bell_in l p) e

    module _ (e : bell_in_range l (bell_in l p) ≡ true) where
      -- A key that an earlier bell sounds for is refused.
      pub doubled : (k : ℕ) → find_sounding (sounding (bell_in l p)) bs ≡ some k → bell_record l bs at p ≡ refused doubled_key at
      doubled k f = long l bs at p h ∙ steps.doubled l bs at (bell_in l p) e k f

      -- Another bell is read.
      pub whole : find_sounding (sounding (bell_in l p)) bs ≡ none → bell_record l bs at p ≡ ok (bell_in l p)
      whole f = long l bs at p h ∙ steps.whole l bs at (bell_in l p) e f

-- ---- bell by bell

module _ (l : Layout) where
  -- Before the first bell all n are left.
  pub none_read : (s : List ℕ) (n at : ℕ) (t : List ℕ) → bells_from l s (n - 0) at (bells_held t 0) ≡ bells_from l s n at []
  unfolding rows_in
  none_read s n at t = ap (λ (m : ℕ). bells_from l s m at []) (sub-zero n)

  -- After the last bell these are all.
  pub done : (s : List ℕ) (n i at : ℕ) (bs : List Bell) → n ≤ i → bells_from l s (n - i) at bs ≡ ok bs
  unfolding bells_from
  done s n i at bs h =
      let e : n - i ≡ 0 = omega arith in
      rw e

  -- A bell that is read is put in its row, and reading goes on with the bells that the table holds then.
  pub turn : (s : List ℕ) (n i at : ℕ) (t : List ℕ) → i < n → BellTable t i → bell_rows_at + (i + 1) * bell_words ≤ length t
      → (b : Bell) → bell_record l (bells_held t i) at (drop at s) ≡ ok b
      → bells_from l s (n - i) at (bells_held t i)
      ≡ bells_from l s (n - (i + 1)) (at + bell_bytes l) (bells_held (placed t (bell_rows_at + i * bell_words) (bell_row b)) (i + 1))
  turn s n i at t h x room b e =
      more_bells l s n i at (bells_held t i) h b e
      ∙ ap (bells_from l s (n - (i + 1)) (at + bell_bytes l)) (sym (bells_more t i b x room))

-- ---- the count, and the bells

module _ (l : Layout) (s : List ℕ) where
  -- A file that ends before the count is refused.
  pub no_count : length s ≤ bell_count_at l → bells_in l s ≡ refused wrong_end (bell_count_at l)
  unfolding bells_in
  no_count h = simp (le-ltb _ _ h)

  module _ (h : bell_count_at l < length s) where
    -- A count out of its range is refused.
    pub bad_count : within 1 most_bells (number 1 (bell_count_at l) s) ≡ false → bells_in l s ≡ refused wrong_bell_count (bell_count_at l)
    unfolding bells_in
    bad_count e = simp (lt-ltb _ _ h, e)

    -- So many bells are read, from their place on.
    pub right_count : within 1 most_bells (number 1 (bell_count_at l) s) ≡ true → bells_in l s ≡ bells_from l s (number 1 (bell_count_at l) s) (bells_at l) []
    unfolding bells_in
    right_count e = simp (lt-ltb _ _ h, e)
