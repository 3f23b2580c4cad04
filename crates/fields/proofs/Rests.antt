-- The rest of a bell by the width that its version gives it, which is 0 or 2. Assumes nothing.
use Prim.Native.Nat.{ℕ}
use mathlib.Core.Path.{◌≡◌, refl, sym, ap, ◌∙◌}
use mathlib.Core.Logic.{⊎_elim}
use mathlib.Core.Bool.{◌&&◌}
use mathlib.Core.List.{List}
use native.Mathlib.Omega.{arith}
use lib.Dec.{leb, eqb}
use borrow.Author.Tests.{leb-true}
use Rattle.model.specs.Limits.{longest_rest}
use Rattle.format.specs.Bytes.{number, fits, fields_in}
use Rattle.format.specs.Rules.{is_rest}
use Rattle.format.specs.Reading.{bell_in}
use Rattle.format.specs.internal.Sized.{Sized}
use Rattle.fields.specs.declared.layout.Layout.{Layout as Row}
use Rattle.fields.specs.internal.Layouts.{layout_of}
use Rattle.fields.proofs.Widths.{only_zero, all_fit}

-- where it stands in the record
abbrev pub rest_at : ℕ
rest_at = 6

module _ (l : Row) where
  read : (p : List ℕ) → number l.rest rest_at p ≡ (bell_in (layout_of l) p).rest
  unfolding bell_in fields_in
  read p = refl

  module _ (none : l.rest ≡ 0) where
    -- Without a rest, 0 is read.
    pub none_in : (p : List ℕ) → 0 ≡ (bell_in (layout_of l) p).rest
    unfolding number
    none_in p = ap (λ (w : ℕ). number w rest_at p) (sym none) ∙ read p

    -- Without a rest, 0 alone is one.
    pub none_is : (r : ℕ) → eqb r 0 ≡ is_rest (layout_of l) r
    unfolding is_rest
    none_is r = only_zero (λ x. leb x longest_rest) refl r ∙ ap (λ (w : ℕ). leb r longest_rest && fits w r) (sym none)

  module _ (z : Sized (layout_of l)) (some : l.rest ≡ 0 → ⊥) where
    -- Its width is 2.
    pub two : 2 ≡ l.rest
    two = ⊎_elim (λ e. absurd (some e)) sym z.rest

    -- With a rest, its two bytes are read.
    pub some_in : (p : List ℕ) → number 2 rest_at p ≡ (bell_in (layout_of l) p).rest
    some_in p = ap (λ (w : ℕ). number w rest_at p) two ∙ read p

    -- With a rest, every number up to the longest is one.
    pub some_is : (r : ℕ) → leb r longest_rest ≡ is_rest (layout_of l) r
    unfolding is_rest
    some_is r =
        all_fit 2 r (leb r longest_rest) (λ e. omega (arith, leb-true r longest_rest e))
        ∙ ap (λ (w : ℕ). leb r longest_rest && fits w r) two
