-- The shift of a file and of a phrase by the width that its version gives it, which is 0 or 1. Assumes nothing.
use Prim.Native.Nat.{ℕ, zero, suc, ◌≤◌}
use mathlib.Core.Path.{◌≡◌, refl, sym, ap, ◌∙◌}
use mathlib.Core.Bool.{◌&&◌}
use mathlib.Core.List.{List}
use native.Mathlib.Omega.{arith}
use lib.Dec.{eqb}
use Rattle.format.specs.Bytes.{number, fits}
use Rattle.format.specs.Layout.{shift_at}
use Rattle.format.specs.Rules.{is_transposition, is_shift}
use Rattle.format.specs.Reading.{shift_in}
use Rattle.format.specs.internal.Sized.{Sized}
use Rattle.format.proofs.Ranges.{transposition_small}
use Rattle.fields.specs.declared.layout.Layout.{Layout as Row}
use Rattle.fields.specs.internal.Layouts.{layout_of}
use Rattle.fields.proofs.Widths.{only_zero, all_fit}

module _ (l : Row) where
  module _ (none : l.shift ≡ 0) where
    -- Without a shift, 0 is read.
    pub none_in : (s : List ℕ) → 0 ≡ shift_in (layout_of l) s
    unfolding number
    none_in s = ap (λ (w : ℕ). number w shift_at s) (sym none)

    -- Without a shift, 0 alone is one.
    pub none_is : (t : ℕ) → eqb t 0 ≡ is_shift (layout_of l) t
    unfolding is_shift
    none_is t = only_zero is_transposition refl t ∙ ap (λ (w : ℕ). is_transposition t && fits w t) (sym none)

  module _ (z : Sized (layout_of l)) (some : l.shift ≡ 0 → ⊥) where
    -- Its width is 1.
    pub one : 1 ≡ l.shift
    one = only l.shift z.shift some
      where
        only : (w : ℕ) → w ≤ 1 → (w ≡ 0 → ⊥) → 1 ≡ w
        only zero h f = absurd (f refl)
        only (suc w) h f = omega arith

    -- With a shift, its byte is read.
    pub some_in : (s : List ℕ) → number 1 shift_at s ≡ shift_in (layout_of l) s
    some_in s = ap (λ (w : ℕ). number w shift_at s) one

    -- With a shift, every transposition is one.
    pub some_is : (t : ℕ) → is_transposition t ≡ is_shift (layout_of l) t
    unfolding is_shift
    some_is t = all_fit 1 t (is_transposition t) (transposition_small t) ∙ ap (λ (w : ℕ). is_transposition t && fits w t) one
