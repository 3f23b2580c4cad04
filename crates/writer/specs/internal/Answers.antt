-- The code's answers, by the definitions' outcomes. Assumes nothing.
use Rattle.std.specs.Prelude.{ℕ, List, length, Result, Ok, Err}
use Rattle.model.specs.declared.refusals.Refusal.{Refusal}
use Rattle.format.specs.Outcome.{Outcome, ok, refused}

abbrev pub writing_of : Outcome (List ℕ) → Result ℕ Refusal
writing_of (ok s) = Ok (length s)
writing_of (refused n at) = Err (record { number = n; place = at })
