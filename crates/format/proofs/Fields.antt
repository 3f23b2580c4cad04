-- Fields that are written are read back, and fields that are read are written back, for any widths. Assumes nothing.
use Prim.Native.Nat.{ℕ, zero, suc, ◌+◌, ◌*◌, ◌≤◌}
use mathlib.Core.Path.{◌≡◌, refl, sym, ap, ◌∙◌}
use mathlib.Core.List.{List, [], ◌∷◌, ◌++◌, append_assoc}
use native.Mathlib.Omega.{arith}
use native.Mathlib.Nat.{suc-mul}
use lib.ListN.{length, take, drop, replicate, length-append}
use lib.Seq.{take-add, drop-drop}
use Rattle.format.specs.Bytes.{AreBytes, number, digits, total, fields_in, fields_file}
use Rattle.format.specs.Fits.{FieldsFit}
use Rattle.format.proofs.Digits.{digits_length, number_small, number_digits, digits_number}

-- As many fields as there are widths take as many bytes as the widths add up to.
pub fields_size : (ws vs : List ℕ) → length ws ≡ length vs → length (fields_file ws vs) ≡ total ws
unfolding fields_file total
fields_size [] vs e = refl
fields_size (w ∷ ws) [] e = absurd (omega arith)
fields_size (w ∷ ws) (v ∷ vs) e =
    let rest : length ws ≡ length vs = omega arith in
    omega (arith, length-append (digits w v) (fields_file ws vs), digits_length w v, fields_size ws vs rest)

as_many : (ws vs : List ℕ) → FieldsFit ws vs → length ws ≡ length vs
as_many [] [] f = refl
as_many [] (v ∷ vs) f = absurd f
as_many (w ∷ ws) [] f = absurd f
as_many (w ∷ ws) (v ∷ vs) f = ap suc (as_many ws vs f.1)

-- So do fields that fit their widths.
pub fields_length : (ws vs : List ℕ) → FieldsFit ws vs → length (fields_file ws vs) ≡ total ws
fields_length ws vs f = fields_size ws vs (as_many ws vs f)

-- Fields that fit their widths are read back where they were written.
pub fields_back : (ws vs : List ℕ) → FieldsFit ws vs → (before more : List ℕ) (at : ℕ) → length before ≡ at
    → fields_in ws at (before ++ (fields_file ws vs ++ more)) ≡ vs
unfolding fields_in fields_file
fields_back [] [] f before more at l = refl
fields_back [] (v ∷ vs) f before more at l = absurd f
fields_back (w ∷ ws) [] f before more at l = absurd f
fields_back (w ∷ ws) (v ∷ vs) f before more at l =
    let rest : List ℕ = fields_file ws vs ++ more in
    let one : before ++ (digits w v ++ fields_file ws vs ++ more) ≡ before ++ (digits w v ++ rest) = ap (λ (r : List ℕ). before ++ r) (append_assoc (digits w v) (fields_file ws vs) more) in
    let two : before ++ (digits w v ++ fields_file ws vs ++ more) ≡ before ++ digits w v ++ rest = one ∙ sym (append_assoc before (digits w v) rest) in
    let next : length (before ++ digits w v) ≡ at + w = omega (arith, length-append before (digits w v), digits_length w v) in
    let this : number w at (before ++ (digits w v ++ fields_file ws vs ++ more)) ≡ v = ap (number w at) one ∙ number_digits w v f.0 before rest at l in
    let those : fields_in ws (at + w) (before ++ (digits w v ++ fields_file ws vs ++ more)) ≡ vs =
    ap (fields_in ws (at + w)) two ∙ fields_back ws vs f.1 (before ++ digits w v) more (at + w) next in
    λ i. this i ∷ those i

-- Fields that are read from bytes fit their widths.
pub fields_fit : (s : List ℕ) → AreBytes s → (ws : List ℕ) (at : ℕ) → FieldsFit ws (fields_in ws at s)
unfolding fields_in
fields_fit s bytes [] at = tt
fields_fit s bytes (w ∷ ws) at = (number_small w at s bytes, fields_fit s bytes ws (at + w))

-- Fields that are read from bytes are written as these bytes.
pub fields_file_holds : (s : List ℕ) → AreBytes s → (ws : List ℕ) (at : ℕ) → at + total ws ≤ length s
    → fields_file ws (fields_in ws at s) ≡ take (total ws) (drop at s)
unfolding fields_in fields_file total
fields_file_holds s bytes [] at h = refl
fields_file_holds s bytes (w ∷ ws) at h =
    let this = digits_number s bytes w at (omega arith) in
    let those : fields_file ws (fields_in ws (at + w) s) ≡ take (total ws) (drop w (drop at s)) =
    fields_file_holds s bytes ws (at + w) (omega arith) ∙ ap (take (total ws)) (sym (drop-drop w at s)) in
    (λ i. this i ++ those i) ∙ sym (take-add w (total ws) (drop at s))

-- There is a field for each width.
pub fields_count : (ws : List ℕ) (at : ℕ) (s : List ℕ) → length (fields_in ws at s) ≡ length ws
unfolding fields_in
fields_count [] at s = refl
fields_count (w ∷ ws) at s = ap suc (fields_count ws (at + w) s)

-- So many fields of one width take so many times that width.
pub total_same : (k w : ℕ) → total (replicate k w) ≡ k * w
unfolding total
total_same zero w = omega arith
total_same (suc k) w = omega (arith, total_same k w, suc-mul k w)
