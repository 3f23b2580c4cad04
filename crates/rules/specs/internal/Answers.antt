-- The code's answers, by the definitions' outcomes. Assumes nothing.
use Rattle.std.specs.Prelude.{ℕ, Result, Ok, Err}
use Rattle.model.specs.declared.refusals.Refusal.{Refusal}
use Rattle.format.specs.Outcome.{Outcome, ok, refused}

-- what passes ends at a place
abbrev pub end_of : {A : Type 0} → Outcome A → ℕ → Result ℕ Refusal
end_of (ok a) end = Ok end
end_of (refused n at) end = Err (record { number = n; place = at })
