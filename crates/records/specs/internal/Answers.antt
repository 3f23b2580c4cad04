-- The code's answers, by the definitions' outcomes. Assumes nothing.
use Rattle.std.specs.Prelude.{ℕ, Some, None, Ok, Err}
use Rattle.std.specs.Prelude.{Option as RustOption, Result}
use Rattle.std.proofs.Math.Option.{Option, none, some}
use Rattle.model.specs.declared.refusals.Refusal.{Refusal}
use Rattle.format.specs.Outcome.{Outcome, ok, refused}

abbrev pub reading_of : {A : Type 0} → Outcome A → Result Unit Refusal
reading_of (ok a) = Ok tt
reading_of (refused n at) = Err (record { number = n; place = at })

abbrev pub found_of : Option ℕ → RustOption ℕ
found_of (some x) = Some x
found_of none = None
