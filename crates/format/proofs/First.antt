-- The records of bells, and those of notes of version 1, as bytes at their places (numbers by their bytes: Digits); Versions says that the other versions have the same notes.
-- Assumes nothing.
use Prim.Native.Nat.{ℕ, zero, suc, ◌+◌, ◌-◌, ◌*◌, ◌/◌, ◌<◌}
use mathlib.Core.Path.{◌≡◌, refl, sym, ap, ◌∙◌}
use mathlib.Core.Bool.{Bool, true, false, ◌&&◌}
use mathlib.Core.List.{List}
use native.Mathlib.Nat.{add-zero, not-suc-le-zero, le_of_suc-le-suc}
use native.Mathlib.Omega.{arith}
use lib.Dec.{leb, eqb}
use lib.ListN.{length, get_or, replicate, length-replicate}
use borrow.Author.Tests.{leb-true, leb-false, le-leb, lt-leb, eq-eqb, ne_eqb}
use Rattle.format.specs.Bytes.{byte_at, number, within, fields_in}
use Rattle.format.specs.Layout.{Layout, first, note_bytes, most_listed, note_length, listed_count, is_note_length}
use Rattle.format.specs.Reading.{bell_in, listed_by, note_in}
use Rattle.format.proofs.Digits.{number_one}
use Rattle.format.proofs.Fields.{fields_count}

-- ---- fields of one byte each

-- The fields are the bytes from the place on, one after the other.
pub single_at : (k at : ℕ) (p : List ℕ) (j : ℕ) → j < k → get_or (fields_in (replicate k 1) at p) j 0 ≡ byte_at p (at + j)
unfolding fields_in
single_at zero at p j h = absurd (not-suc-le-zero h)
single_at (suc k) at p zero h = number_one at p ∙ ap (byte_at p) (sym (add-zero at))
single_at (suc k) at p (suc j) h =
    let e : at + 1 + j ≡ at + suc j = omega arith in
    single_at k (at + 1) p j (le_of_suc-le-suc h) ∙ ap (byte_at p) e

-- There are as many fields as widths.
pub single_length : (k at : ℕ) (p : List ℕ) → length (fields_in (replicate k 1) at p) ≡ k
single_length k at p = fields_count (replicate k 1) at p ∙ length-replicate k 1

-- ---- a bell

-- The bell of a record of any version, all fields at once: the priority stands after the rest.
pub bell_bytes_holds : (l : Layout) (p : List ℕ)
    → bell_in l p
    ≡ record { written = byte_at p 0; transposition = byte_at p 1; least_execution = number 2 2 p; most_execution = number 2 4 p; rest = number l.rest_bytes 6 p; priority = byte_at p (6 + l.rest_bytes) }
unfolding bell_in fields_in
bell_bytes_holds l p =
    λ i. record {
      written = number_one 0 p i;
      transposition = number_one 1 p i;
      least_execution = number 2 2 p;
      most_execution = number 2 4 p;
      rest = number l.rest_bytes 6 p;
      priority = number_one (6 + l.rest_bytes) p i;
    }

-- ---- a note

module _ (p : List ℕ) where
  -- The key is the byte after the length.
  pub note_key : (note_in first p).key ≡ byte_at p 1
  unfolding note_in fields_in
  note_key = number_one 1 p

  -- The earliest release takes four bytes from place 2 on.
  pub note_earliest : (note_in first p).earliest_release ≡ number 4 2 p
  unfolding note_in fields_in
  note_earliest = refl

  -- The latest release takes four bytes from place 6 on.
  pub note_latest : (note_in first p).latest_release ≡ number 4 6 p
  unfolding note_in fields_in
  note_latest = refl

  -- The deadline takes four bytes from place 10 on.
  pub note_deadline : (note_in first p).deadline ≡ number 4 10 p
  unfolding note_in fields_in
  note_deadline = refl

  -- The numbers listed are fields of one byte from place 14 on.
  pub note_listed : (note_in first p).listed ≡ fields_in (replicate (listed_by first p) 1) 14 p
  unfolding note_in fields_in
  note_listed = refl

  -- The note of a record, all fields at once.
  pub note_bytes_holds : note_in first p
      ≡ record { key = byte_at p 1; earliest_release = number 4 2 p; latest_release = number 4 6 p; deadline = number 4 10 p; listed = (note_in first p).listed }
  unfolding note_in fields_in
  note_bytes_holds = λ i. record { key = number_one 1 p i; earliest_release = number 4 2 p; latest_release = number 4 6 p; deadline = number 4 10 p; listed = (note_in first p).listed }

  -- ---- the numbers that a note lists

  -- The length byte counts them, after the thirteen others.
  pub listed_by_holds : listed_by first p ≡ byte_at p 0 - note_bytes
  unfolding listed_count
  listed_by_holds = omega (arith, number_one 0 p)

  -- They are so many.
  pub listed_length : length (note_in first p).listed ≡ byte_at p 0 - note_bytes
  listed_length = ap length note_listed ∙ single_length (listed_by first p) 14 p ∙ listed_by_holds

  -- Each is a byte of the record.
  pub listed_at_holds : (j : ℕ) → j < byte_at p 0 - note_bytes → get_or (note_in first p).listed j 0 ≡ byte_at p (14 + j)
  listed_at_holds j h = ap (λ (s : List ℕ). get_or s j 0) note_listed ∙ single_at (listed_by first p) 14 p j (omega (arith, listed_by_holds))

-- ---- the length of a note

-- A note that lists none to four numbers has a length of 13 to 17.
pub note_length_holds : (n : ℕ) → is_note_length first n ≡ within note_bytes (note_bytes + most_listed) n
unfolding is_note_length note_length listed_count within
note_length_holds n = go ((n - note_bytes) / 1) (omega arith) (leb note_bytes n) refl (leb n (note_bytes + most_listed)) refl
  where
    go : (k : ℕ) → k ≡ n - note_bytes → (a : Bool) → leb note_bytes n ≡ a → (b : Bool) → leb n (note_bytes + most_listed) ≡ b
        → (leb k most_listed && eqb (note_bytes + k * 1) n) ≡ (leb note_bytes n && leb n (note_bytes + most_listed))
    go k e false q b r =
        let low = leb-false note_bytes n q in
        simp (le-leb k most_listed (omega arith), ne_eqb (note_bytes + k * 1) n (λ f. omega arith), q)
    go k e true q true r =
        let high = leb-true n (note_bytes + most_listed) r in
        let low = leb-true note_bytes n q in
        simp (le-leb k most_listed (omega arith), eq-eqb (note_bytes + k * 1) n (omega arith), q, r)
    go k e true q false r =
        let high = leb-false n (note_bytes + most_listed) r in
        simp (lt-leb k most_listed (omega arith), q, r)
