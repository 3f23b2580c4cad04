-- A field put into the bytes that its version gives it, which may be none. Assumes nothing.
use Prim.Native.Nat.{ℕ}
use mathlib.Core.Path.{◌≡◌, sym, ap, ◌∙◌}
use mathlib.Core.List.{List}
use Rattle.words.specs.internal.Placed.{placed}
use Rattle.words.proofs.Placing.{placed_nothing}
use Rattle.format.specs.Bytes.{digits}

module _ (t : List ℕ) (at x width : ℕ) where
  -- A field of width 0 is not put.
  pub none_put : width ≡ 0 → t ≡ placed t at (digits width x)
  unfolding digits
  none_put none = sym (ap (λ (w : ℕ). placed t at (digits w x)) none ∙ placed_nothing t at)

  -- Any other is put into as many bytes as its width says.
  pub some_put : (bytes : ℕ) → bytes ≡ width → placed t at (digits bytes x) ≡ placed t at (digits width x)
  some_put bytes e = ap (λ (w : ℕ). placed t at (digits w x)) e
