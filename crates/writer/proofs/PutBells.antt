-- The records of the bells of a table, put into bytes one after the other. Assumes nothing.
use Prim.Native.Nat.{ℕ, ◌+◌, ◌*◌, ◌≤◌, ◌<◌}
use mathlib.Core.Path.{◌≡◌, sym, ap, subst, ◌∙◌}
use mathlib.Core.List.{List}
use native.Mathlib.Omega.{arith}
use lib.ListN.{length, get_or, take, drop}
use borrow.Rule.Slice.PartMut.{put_mid}
use Rattle.format.specs.Bytes.{records}
use Rattle.format.specs.Layout.{Layout, bell_bytes}
use Rattle.format.specs.Phrase.{Bell}
use Rattle.format.specs.Jobs.{no_bell}
use Rattle.format.specs.Writing.{bell_file}
use Rattle.format.proofs.Records.{BellFits}
use Rattle.format.proofs.Sizes.{bell_size, bells_size}
use Rattle.rows.specs.BellRow.{bell_words, bell_of_row, bells_of_rows}
use Rattle.rows.specs.PhraseTable.{bell_rows_at}
use Rattle.rows.proofs.Records.{rows_length}
use Rattle.rows.proofs.RowsRead.{bell_lent, all_at}
use Rattle.writer.specs.internal.Putting.{BellsFit}
use Rattle.writer.proofs.PutRecords.{place, place_next, place_within, put, put_more}

module _ (t : List ℕ) (n : ℕ) where
  -- the bells of the first n rows
  abbrev pub bells : List Bell
  bells = bells_of_rows (drop bell_rows_at t) n

  -- There are n of them.
  pub bells_count : length bells ≡ n
  bells_count = rows_length bell_of_row bell_words (drop bell_rows_at t) n

  module _ (l : Layout) where
    -- where the record of bell i begins
    abbrev pub bell_place : ℕ → ℕ → ℕ
    bell_place = place (bell_file l) bells

    -- Their records have so many times the bytes of one.
    pub bells_bytes : length (records (bell_file l) bells) ≡ n * bell_bytes l
    bells_bytes = bells_size l bells ∙ ap (λ (k : ℕ). k * bell_bytes l) bells_count

    module _ (f : BellsFit l bells) (i : ℕ) (h : i < n) where
      below : i < length bells
      below = omega (arith, bells_count)

      fits_at : BellFits l (get_or bells i no_bell)
      fits_at = all_at (BellFits l) bells f i no_bell below

      module _ (m : ℕ) (e : m ≡ bell_words) where
        -- the bell of the row, as the code lends it
        abbrev lent : Bell
        lent = bell_of_row (take m (drop (bell_rows_at + i * bell_words) t))

        same_bell : lent ≡ get_or bells i no_bell
        same_bell = ap (λ (k : ℕ). bell_of_row (take k (drop (bell_rows_at + i * bell_words) t))) e ∙ bell_lent t n i h

        -- Its fields fit their bytes.
        pub bell_fits : BellFits l lent
        bell_fits = subst (BellFits l) (sym same_bell) fits_at

        -- A part that came back as its record is one record more.
        pub bell_put_holds : (start : ℕ) (file : List ℕ) → start ≤ length file → (at k : ℕ) → at ≡ bell_place start i → k ≡ bell_bytes l → (ws : List ℕ)
            → ws ≡ bell_file l lent
            → put_mid at k (put (bell_file l) bells start file i) ws ≡ put (bell_file l) bells start file (i + 1)
        bell_put_holds start file g at k p q ws r =
            let same : ws ≡ bell_file l (get_or bells i no_bell) = r ∙ ap (bell_file l) same_bell in
            put_more (bell_file l) bells start file g no_bell i below ws same at k p
            (ap length same ∙ bell_size l (get_or bells i no_bell) ∙ sym q)

      -- The record of bell i ends where the next one begins.
      pub bell_next : (start : ℕ) → bell_place start (i + 1) ≡ bell_place start i + bell_bytes l
      bell_next start =
          omega (
            arith,
            place_next (bell_file l) bells start no_bell i below,
            bell_size l (get_or bells i no_bell),
          )

      -- It ends before the number of notes.
      pub bell_within : (start : ℕ) → bell_place start i + bell_bytes l ≤ start + n * bell_bytes l
      bell_within start =
          omega (
            arith,
            place_within (bell_file l) bells start no_bell i below,
            bell_size l (get_or bells i no_bell),
            bells_bytes,
          )
