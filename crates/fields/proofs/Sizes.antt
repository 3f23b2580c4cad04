-- The sizes of a layout in code are among those that the versions have. Assumes nothing.
use Prim.Native.Nat.{ℕ, zero, suc}
use mathlib.Core.Path.{◌≡◌, refl}
use mathlib.Core.Logic.{◌⊎◌, inl, inr}
use native.Mathlib.Omega.{arith}
use Rattle.format.specs.internal.Sized.{Sized}
use Rattle.fields.specs.declared.layout.Layout.{Layout}
use Rattle.fields.specs.internal.Layouts.{layout_of}

widths : (w : ℕ) → ((w ≡ 0 → ⊥) → w ≡ 2) → (w ≡ 0) ⊎ (w ≡ 2)
widths zero h = inl refl
widths (suc n) h = inr (h (λ e. omega arith))

pub sized : (l : Layout) → Sized (layout_of l)
sized l = record {
  shift = l.shift_fits;
  rest = widths l.rest l.rest_fits;
  count = (omega arith, omega arith, omega arith);
  listed = (omega arith, omega arith, omega arith);
  notes = omega arith;
}
