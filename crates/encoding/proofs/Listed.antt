-- The jobs that a note lists, put into bytes one after the other. Assumes nothing.
use Prim.Native.Nat.{ℕ, zero, suc, ◌+◌, ◌-◌, ◌≤◌, ◌<◌}
use mathlib.Core.Path.{◌≡◌, sym, ap, ◌∙◌}
use mathlib.Core.List.{List, [], ◌∷◌}
use native.Mathlib.Nat.{add-zero, sub-zero}
use native.Mathlib.Omega.{arith}
use lib.ListN.{length, get_or, take, drop, replicate}
use lib.Seq.{length-take-le, get_or-take, drop-cons}
use Rattle.words.specs.internal.Placed.{placed}
use Rattle.format.specs.Bytes.{digits, fields_file}
use Rattle.format.specs.Fits.{FieldsFit}
use Rattle.format.proofs.Fields.{total_same}
use Rattle.encoding.proofs.Fields.{puts, puts_placed}

-- Fields that fit a byte each are bytes.
pub fits_byte : (k : ℕ) (vs : List ℕ) → FieldsFit (replicate k 1) vs → (i : ℕ) → i < k → get_or vs i 0 < 256
fits_byte zero vs f i h = absurd (omega arith)
fits_byte (suc k) [] f i h = absurd f
fits_byte (suc k) (v ∷ vs) f zero h = f.0
fits_byte (suc k) (v ∷ vs) f (suc i) h = fits_byte k vs f.1 i (omega arith)

-- A place among the first m jobs is one among the first `count`, where m is no more than `count`.
pub taken_place : (jobs : List ℕ) (count m i : ℕ) → count ≤ length jobs → i < length (take m jobs) → m ≤ count → i < count
taken_place jobs count m i h there few = omega (arith, length-take-le m jobs (omega arith))

-- The job at this place is the same in both.
pub taken : (jobs : List ℕ) (count m i : ℕ) → count ≤ length jobs → i < length (take m jobs) → m ≤ count
    → get_or (take m jobs) i 0 ≡ get_or (take count jobs) i 0
taken jobs count m i h there few =
    let l = length-take-le m jobs (omega arith) in
    get_or-take m jobs i 0 (omega (arith, l)) ∙ sym (get_or-take count jobs i 0 (omega (arith, l)))

-- It is a byte.
pub taken_fits : (jobs : List ℕ) (count m i : ℕ) → FieldsFit (replicate count 1) (take count jobs)
    → count ≤ length jobs → i < length (take m jobs) → m ≤ count → get_or (take m jobs) i 0 < 256
taken_fits jobs count m i f h there few =
    let fits = fits_byte count (take count jobs) f i (taken_place jobs count m i h there few) in
    omega (arith, fits, taken jobs count m i h there few)

-- the bytes once the jobs from job i on are put too
abbrev pub rest : List ℕ → ℕ → ℕ → List ℕ → ℕ → List ℕ
rest jobs count at part i = puts part (at + i) (replicate (count - i) 1) (drop i (take count jobs))

module _ (jobs : List ℕ) (count at : ℕ) (part : List ℕ) where
  -- All jobs put one after the other are placed together.
  pub rest_all : FieldsFit (replicate count 1) (take count jobs) → at + count ≤ length part
      → rest jobs count at part 0 ≡ placed part at (fields_file (replicate count 1) (take count jobs))
  rest_all f g =
      (λ i. puts part (add-zero at i) (replicate (sub-zero count i) 1) (take count jobs))
      ∙ puts_placed (replicate count 1) (take count jobs) f part at (omega (arith, total_same count 1))

  -- The next job is put, and then those after it.
  pub rest_next : (i : ℕ) → i < count → count ≤ length jobs
      → rest jobs count at part i ≡ rest jobs count at (placed part (at + i) (digits 1 (get_or (take count jobs) i 0))) (i + 1)
  rest_next i g h =
      let l : List ℕ = take count jobs in
      let first : drop i l ≡ get_or l i 0 ∷ drop (suc i) l = drop-cons l i 0 (omega (arith, length-take-le count jobs h)) in
      let more : count - i ≡ suc (count - (i + 1)) = omega arith in
      let next : suc i ≡ i + 1 = omega arith in
      let place : at + i + 1 ≡ at + (i + 1) = omega arith in
      (λ j. puts part (at + i) (replicate (more j) 1) (first j))
      ∙ (λ j. puts (placed part (at + i) (digits 1 (get_or l i 0))) (place j) (replicate (count - (i + 1)) 1) (drop (next j) l))

  -- The same, where the job is read among the first m.
  pub rest_turn : (m i : ℕ) → count ≤ length jobs → i < length (take m jobs) → m ≤ count
      → rest jobs count at (placed part (at + i) (digits 1 (get_or (take m jobs) i 0))) (i + 1) ≡ rest jobs count at part i
  rest_turn m i h there few =
      ap (λ (x : ℕ). rest jobs count at (placed part (at + i) (digits 1 x)) (i + 1)) (taken jobs count m i h there few)
      ∙ sym (rest_next i (taken_place jobs count m i h there few) h)
