-- The jobs that a note record lists, one byte at a time. Assumes nothing.
use Prim.Native.Nat.{ℕ, ◌+◌, ◌-◌, ◌≤◌, ◌<◌}
use mathlib.Core.Path.{◌≡◌, sym, ap, ◌∙◌}
use mathlib.Core.List.{List}
use native.Mathlib.Omega.{arith}
use lib.ListN.{length, get_or, take, drop, length-drop}
use lib.Seq.{length-take-le, get_or-take}
use Rattle.std.proofs.lemmas.List.{ext_get_or, get_or-drop}
use Rattle.format.specs.Bytes.{number}
use Rattle.format.specs.Layout.{first, note_bytes, most_listed}
use Rattle.format.specs.Reading.{note_in}
use Rattle.format.proofs.Passed.{within_true}
use Rattle.format.proofs.Digits.{number_one}
use Rattle.format.proofs.First.{note_length_holds, listed_length, listed_at_holds}
use Rattle.fields.specs.internal.NoteRecord.{WholeNote}

-- where they stand in the record
abbrev pub listed_at : ℕ
listed_at = 1 + note_bytes

abbrev pub listed_in : List ℕ → List ℕ
listed_in p = (note_in first p).listed

module _ (p : List ℕ) (x : WholeNote p) where
  -- The length byte is 13 to 17.
  pub sized : (note_bytes ≤ number 1 0 p) × (number 1 0 p ≤ note_bytes + most_listed)
  sized = within_true note_bytes (note_bytes + most_listed) (number 1 0 p) (sym (note_length_holds (number 1 0 p)) ∙ x.size)

  -- The bytes up to the first job listed are there.
  pub there : listed_at ≤ length p
  there = omega (arith, sized.0, x.whole)

  -- So many are listed as the length byte counts after the thirteen others.
  pub listed_count_holds : length (listed_in p) ≡ number 1 0 p - note_bytes
  listed_count_holds = listed_length p ∙ ap (λ (n : ℕ). n - note_bytes) (sym (number_one 0 p))

  -- These are at most four.
  pub listed_few : length (listed_in p) ≤ most_listed
  listed_few = omega (arith, listed_count_holds, sized.1)

  -- Each is a byte of the record.
  pub listed_job : (j : ℕ) → j < length (listed_in p) → get_or (listed_in p) j 0 ≡ number 1 (listed_at + j) p
  listed_job j h = listed_at_holds p j (omega (arith, listed_length p)) ∙ sym (number_one (listed_at + j) p)

  -- They are these bytes of the record.
  pub listed_is : listed_in p ≡ take (number 1 0 p - note_bytes) (drop listed_at p)
  listed_is =
      let n : ℕ = number 1 0 p - note_bytes in
      let bytes : length (take n (drop listed_at p)) ≡ n = length-take-le n (drop listed_at p) (omega (arith, x.whole, length-drop listed_at p)) in
      ext_get_or 0 (listed_in p) (take n (drop listed_at p)) (listed_count_holds ∙ sym bytes) (λ j h.
      listed_job j h
      ∙ number_one (listed_at + j) p
      ∙ sym (get_or-take n (drop listed_at p) j 0 (omega (arith, listed_count_holds)) ∙ get_or-drop listed_at p j 0))
