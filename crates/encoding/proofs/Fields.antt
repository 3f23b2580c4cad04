-- Fields put into bytes one after the other. Assumes nothing.
use Prim.Native.Nat.{ℕ, ◌+◌, ◌≤◌}
use mathlib.Core.Path.{◌≡◌, sym, ap, ◌∙◌}
use mathlib.Core.List.{List, [], ◌∷◌, ◌++◌, append-nil}
use native.Mathlib.Nat.{add-zero}
use native.Mathlib.Omega.{arith}
use lib.ListN.{length}
use Rattle.words.specs.internal.Placed.{placed}
use Rattle.words.proofs.Placing.{placed_nothing, placed_append, placed_whole, length_placed}
use Rattle.format.specs.Bytes.{digits, total, fields_file}
use Rattle.format.specs.Fits.{FieldsFit}
use Rattle.format.proofs.Digits.{digits_length}
use Rattle.format.proofs.Fields.{fields_length}

-- fields put one after the other, from a place on
abbrev pub puts : List ℕ → ℕ → List ℕ → List ℕ → List ℕ
puts t at [] vs = t
puts t at (w ∷ ws) [] = t
puts t at (w ∷ ws) (v ∷ vs) = puts (placed t at (digits w v)) (at + w) ws vs

-- Fields put one after the other, and fields placed after them, are all placed together.
pub puts_then : (ws vs : List ℕ) → FieldsFit ws vs → (t : List ℕ) (at : ℕ) → at + total ws ≤ length t → (more others : List ℕ)
    → placed (puts t at ws vs) (at + total ws) (fields_file more others) ≡ placed t at (fields_file (ws ++ more) (vs ++ others))
unfolding total fields_file
puts_then [] [] f t at h more others = ap (λ (k : ℕ). placed t k (fields_file more others)) (add-zero at)
puts_then [] (v ∷ vs) f t at h more others = absurd f
puts_then (w ∷ ws) [] f t at h more others = absurd f
puts_then (w ∷ ws) (v ∷ vs) f t at h more others =
    let n = digits_length w v in
    let u : List ℕ = placed t at (digits w v) in
    let room : at + w + total ws ≤ length u = omega (arith, n, length_placed t at (digits w v) (omega (arith, n))) in
    let end : at + (w + total ws) ≡ at + w + total ws = omega arith in
    ap (λ (k : ℕ). placed (puts u (at + w) ws vs) k (fields_file more others)) end
    ∙ puts_then ws vs f.1 u (at + w) room more others
    ∙ placed_append t at (at + w) (digits w v) (fields_file (ws ++ more) (vs ++ others)) (omega arith) (omega (arith, n))

-- Fields put one after the other are placed together.
pub puts_placed : (ws vs : List ℕ) → FieldsFit ws vs → (t : List ℕ) (at : ℕ) → at + total ws ≤ length t
    → puts t at ws vs ≡ placed t at (fields_file ws vs)
unfolding fields_file
puts_placed ws vs f t at h =
    sym (placed_nothing (puts t at ws vs) (at + total ws)) ∙ puts_then ws vs f t at h [] []
    ∙ ap (placed t at) (λ i. fields_file (append-nil ws i) (append-nil vs i))

-- Fields put into a list that has just their bytes are all of it.
pub puts_whole : (ws vs : List ℕ) → FieldsFit ws vs → (t : List ℕ) → length t ≡ total ws → puts t 0 ws vs ≡ fields_file ws vs
puts_whole ws vs f t e = puts_placed ws vs f t 0 (omega arith) ∙ placed_whole t (fields_file ws vs) (e ∙ sym (fields_length ws vs f))
