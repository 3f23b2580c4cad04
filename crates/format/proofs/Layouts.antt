-- What holds of every row of the versions. Assumes nothing.
use Prim.Native.Nat.{ℕ, zero, suc, ◌+◌, ◌-◌, ◌*◌, ◌/◌, ◌^◌, ◌≤◌, ◌<◌}
use mathlib.Core.Path.{◌≡◌, refl, ap, ◌∙◌}
use mathlib.Core.Logic.{◌⊎◌, inl, inr, ⊎_elim}
use mathlib.Core.Bool.{Bool, true, false, ◌&&◌, ◌||◌}
use mathlib.Core.List.{List, [], ◌∷◌}
use native.Mathlib.Nat.{mul-div_cancel, mul-le-mul, mul-le-mul_right}
use native.Mathlib.Omega.{arith}
use lib.Dec.{leb, ltb, eqb}
use lib.ListN.{get_or}
use borrow.Author.Tests.{leb-true, ltb-true, eqb-true, eq-eqb}
use Rattle.model.specs.Limits.{most_jobs}
use Rattle.model.proofs.Booleans.{and_left, and_right, or_cases}
use Rattle.format.specs.Bytes.{total}
use Rattle.format.specs.Layout.{Layout, first, versions, layout, bells_at, bell_bytes, note_count_at, most_bells, note_bytes, most_listed, note_length, listed_count, is_note_length, most_bytes, longest_file, head_widths, bell_widths, note_widths}
use Rattle.format.specs.internal.Sized.{Sized}
use Rattle.format.proofs.Fields.{total_same}

-- ---- one computed test of the whole table

all_rows : (Layout → Bool) → List Layout → Bool
all_rows keeps [] = true
all_rows keeps (l ∷ ls) = keeps l && all_rows keeps ls

kept_at : (keeps : Layout → Bool) (ls : List Layout) → all_rows keeps ls ≡ true → (i : ℕ) (d : Layout) → keeps d ≡ true → keeps (get_or ls i d) ≡ true
unfolding all_rows
kept_at keeps [] h i d e = e
kept_at keeps (l ∷ ls) h zero d e = and_left (keeps l) _ h
kept_at keeps (l ∷ ls) h (suc i) d e = kept_at keeps ls (and_right (keeps l) _ h) i d e

-- ---- every row keeps to the sizes

keeps_sizes : Layout → Bool
keeps_sizes l =
    leb l.shift_bytes 1
    && ((eqb l.rest_bytes 0 || eqb l.rest_bytes 2)
    && (leb 1 l.count_bytes
    && (leb l.count_bytes 2
    && (ltb l.most_notes (256 ^ l.count_bytes)
    && (leb 1 l.listed_bytes && (leb l.listed_bytes 2 && (leb l.most_notes (256 ^ l.listed_bytes) && leb l.most_notes 256)))))))

kept : (l : Layout) → keeps_sizes l ≡ true → Sized l
unfolding keeps_sizes
kept l e =
    let t0 = and_right (leb l.shift_bytes 1) _ e in
    let e0 = and_right (eqb l.rest_bytes 0 || eqb l.rest_bytes 2) _ t0 in
    let e1 = and_right (leb 1 l.count_bytes) _ e0 in
    let e2 = and_right (leb l.count_bytes 2) _ e1 in
    let e3 = and_right (ltb l.most_notes (256 ^ l.count_bytes)) _ e2 in
    let e4 = and_right (leb 1 l.listed_bytes) _ e3 in
    let e5 = and_right (leb l.listed_bytes 2) _ e4 in
    record {
      shift = leb-true l.shift_bytes 1 (and_left (leb l.shift_bytes 1) _ e);
      rest = either (and_left (eqb l.rest_bytes 0 || eqb l.rest_bytes 2) _ t0);
      count = (
        leb-true 1 l.count_bytes (and_left (leb 1 l.count_bytes) _ e0),
        leb-true l.count_bytes 2 (and_left (leb l.count_bytes 2) _ e1),
        ltb-true l.most_notes (256 ^ l.count_bytes) (and_left (ltb l.most_notes (256 ^ l.count_bytes)) _ e2),
      );
      listed = (
        leb-true 1 l.listed_bytes (and_left (leb 1 l.listed_bytes) _ e3),
        leb-true l.listed_bytes 2 (and_left (leb l.listed_bytes 2) _ e4),
        leb-true l.most_notes (256 ^ l.listed_bytes) (and_left (leb l.most_notes (256 ^ l.listed_bytes)) _ e5),
      );
      notes = leb-true l.most_notes 256 (and_right (leb l.most_notes (256 ^ l.listed_bytes)) _ e5);
    }
  where
    either : (eqb l.rest_bytes 0 || eqb l.rest_bytes 2) ≡ true → (l.rest_bytes ≡ 0) ⊎ (l.rest_bytes ≡ 2)
    either q = ⊎_elim (λ r. inl (eqb-true l.rest_bytes 0 r)) (λ r. inr (eqb-true l.rest_bytes 2 r)) (or_cases (eqb l.rest_bytes 0) (eqb l.rest_bytes 2) q)

-- The layout of every version keeps to the sizes.
pub sized : (v : ℕ) → Sized (layout v)
unfolding layout all_rows keeps_sizes
sized v = kept (layout v) (kept_at keeps_sizes versions refl (v - 1) first refl)

-- ---- every row allows at most the longest file

keeps_bytes : Layout → Bool
keeps_bytes l = leb (most_bytes l) longest_file

-- No version allows a longer file than the longest.
pub longest : (v : ℕ) → most_bytes (layout v) ≤ longest_file
unfolding layout all_rows keeps_bytes most_bytes
longest v = leb-true (most_bytes (layout v)) longest_file (kept_at keeps_bytes versions refl (v - 1) first refl)

-- ---- every row allows at most as many notes as there are jobs

keeps_notes : Layout → Bool
keeps_notes l = leb l.most_notes most_jobs

-- No version allows more notes than the analysis takes jobs.
pub most_notes_holds : (v : ℕ) → (layout v).most_notes ≤ most_jobs
unfolding layout all_rows keeps_notes
most_notes_holds v = leb-true (layout v).most_notes most_jobs (kept_at keeps_notes versions refl (v - 1) first refl)

-- ---- widths

module _ (l : Layout) where
  -- The fields of the header reach to the first bell.
  pub head_total : total (head_widths l) ≡ bells_at l
  unfolding total
  head_total = omega arith

  -- The fields of a bell take the bytes of its record.
  pub bell_total_holds : total (bell_widths l) ≡ bell_bytes l
  unfolding total
  bell_total_holds = omega arith

  -- The fields of a note take its length byte and the bytes that this counts.
  pub note_total : (k : ℕ) → total (note_widths l k) ≡ 1 + note_length l k
  unfolding total note_length
  note_total k = omega (arith, total_same k l.listed_bytes)

  -- ---- the length of a note

  module _ (z : Sized l) where
    -- The length of a note tells how many numbers it lists.
    pub listed_count_holds : (k : ℕ) → listed_count l (note_length l k) ≡ k
    unfolding listed_count note_length
    listed_count_holds k =
        let m : note_bytes + k * l.listed_bytes - note_bytes ≡ k * l.listed_bytes = omega arith in
        ap (λ (j : ℕ). j / l.listed_bytes) m ∙ mul-div_cancel k z.listed.0

    -- The length of a note is right exactly if it lists at most four numbers.
    pub note_lengths : (k : ℕ) → is_note_length l (note_length l k) ≡ leb k most_listed
    unfolding is_note_length
    note_lengths k =
        ap (λ (j : ℕ). leb j most_listed && eqb (note_length l j) (note_length l k)) (listed_count_holds k)
        ∙ ap (λ (b : Bool). leb k most_listed && b) (eq-eqb (note_length l k) (note_length l k) refl)
        ∙ and_true (leb k most_listed)
      where
        and_true : (b : Bool) → (b && true) ≡ b
        and_true true = refl
        and_true false = refl

  -- A right length is that of a note with the numbers that it tells, at most four.
  pub length_is : (n : ℕ) → is_note_length l n ≡ true → (listed_count l n ≤ most_listed) × (note_length l (listed_count l n) ≡ n)
  unfolding is_note_length
  length_is n e =
      let k : ℕ = listed_count l n in
      (leb-true k most_listed (and_left (leb k most_listed) _ e), eqb-true (note_length l k) n (and_right (leb k most_listed) _ e))

  -- A note that lists at most four numbers is not longer than one that lists four.
  pub lengths : (k : ℕ) → k ≤ most_listed → note_length l k ≤ note_length l most_listed
  unfolding note_length
  lengths k h = omega (arith, mul-le-mul_right l.listed_bytes h)

  -- ---- the longest file

  -- The header lies in it.
  pub head_within : bells_at l ≤ most_bytes l
  unfolding most_bytes
  head_within = omega arith

  -- After at most the most bells there is room for the most notes.
  pub bells_within : (n : ℕ) → n ≤ most_bells → note_count_at l n + l.count_bytes + l.most_notes * (1 + note_length l most_listed) ≤ most_bytes l
  unfolding most_bytes
  bells_within n h = omega (arith, mul-le-mul_right (bell_bytes l) h)

  -- After them there is room for any number of notes that is allowed.
  pub notes_within : (n k : ℕ) → n ≤ most_bells → k ≤ l.most_notes → note_count_at l n + l.count_bytes + k * (1 + note_length l most_listed) ≤ most_bytes l
  notes_within n k h g = omega (arith, bells_within n h, mul-le-mul_right (1 + note_length l most_listed) g)

  module _ (z : Sized l) where
    -- The length of a note fits its byte.
    pub length_small : note_length l most_listed < 256
    unfolding note_length
    length_small = omega (arith, z.listed)

    -- A rest takes at most two bytes.
    pub rest_small : l.rest_bytes ≤ 2
    rest_small = ⊎_elim (λ e. omega arith) (λ e. omega arith) z.rest

    -- The length of a file fits the four bytes of the count.
    pub bytes_small : most_bytes l < 256 ^ 4
    unfolding most_bytes
    bytes_small = omega (arith, z.shift, rest_small, z.count, mul-le-mul z.notes length_small)
