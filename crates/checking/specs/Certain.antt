-- What a check says of a phrase with nothing uncertain (request 107): what its one run does. Assumes nothing.
use Rattle.std.specs.Prelude.{ℕ, ◌≤◌, ◌≡◌}
use Rattle.model.specs.Exploration.{Verdict, refused}
use Rattle.model.specs.Certain.{Certain, only_scenario, run_verdict, Decided}
use Rattle.format.specs.Phrase.{Phrase}
use Rattle.format.specs.Jobs.{jobs_of}
use Rattle.format.specs.Outcome.{Outcome, ok}
use Rattle.format.specs.Outcome.{refused as unread}
use Rattle.checking.specs.Checking.{capacity_for, result_of, jobs_read}
use Rattle.checking.specs.declared.Checked.{Checked}

-- A phrase was read, and nothing of its strokes is uncertain; a bell that no stroke strikes may be.
abbrev pub IsCertain : Outcome Phrase → Type 0
IsCertain (ok x) = Certain (jobs_of x)
IsCertain (unread n at) = ⊥

-- a state has room in half of a table of so many words (S is at least 1)
abbrev pub HasRoom : Outcome Phrase → ℕ → Type 0
HasRoom (ok x) words = 1 ≤ capacity_for x words
HasRoom (unread n at) words = ⊥

-- the verdict on its one run
abbrev pub verdict_on_run : Outcome Phrase → Verdict
verdict_on_run (ok x) = run_verdict (jobs_of x) x.cores (only_scenario (jobs_of x))
verdict_on_run (unread n at) = refused n at

-- over such a table the analysis stores one state in each level that it completes, and its verdict is that on the run
abbrev pub RunDecides : Outcome Phrase → ℕ → Type 0
RunDecides (ok x) words = Decided (jobs_of x) x.cores (capacity_for x words)
RunDecides (unread n at) words = ⊥

-- Where nothing is uncertain and a state has room, the result is the one that the run gives.
abbrev pub ResultByRun : Outcome Phrase → ℕ → Checked → Type 0
ResultByRun o words r = IsCertain o → HasRoom o words → RunDecides o words × (r ≡ result_of (jobs_read o) (verdict_on_run o))
