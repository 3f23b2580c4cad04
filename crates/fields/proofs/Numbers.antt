-- Numbers are converted to themselves. Assumes nothing.
use Prim.Native.Nat.{ℕ}
use mathlib.Core.Path.{◌≡◌, sym, ap, ◌∙◌}
use mathlib.Core.List.{List}
use lib.ListN.{length, get_or}
use Rattle.std.proofs.lemmas.List.{get_or_default}
use Rattle.fields.specs.internal.Numbers.{AreNumbers}

pub own_numbers : (values numbers : List ℕ) → values ≡ numbers → AreNumbers (λ x n. n ≡ x) values numbers
own_numbers values numbers e = record {
  many = ap length (sym e);
  each = λ k n d h is. is ∙ get_or_default values k d 0 h ∙ ap (λ l. get_or l k 0) e;
}
