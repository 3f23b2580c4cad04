-- What is promised of a playing that was worked out. Assumes nothing.
use Rattle.std.specs.Prelude.{ℕ, ◌≤◌, ◌<◌, ◌≡◌, List, get_or, length}
use Rattle.model.specs.Jobs.{Job, job}
use Rattle.model.specs.Dispatch.{Scenario, status, run}
use Rattle.model.specs.States.{empty}
use Rattle.model.specs.Exploration.{Verdict, accepted, late}
use Rattle.model.specs.Exploration.{refused}
use Rattle.model.specs.Guarantee.{status_at, Contains}
use Rattle.format.specs.Phrase.{Phrase}
use Rattle.format.specs.Jobs.{jobs_of}
use Rattle.format.specs.Outcome.{Outcome, ok}
use Rattle.format.specs.Outcome.{refused as unread}
use Rattle.playing.specs.Playing.{scenario_in}

-- At every t of the run of this scenario, each job stands as its words say: it starts and finishes once.
abbrev pub Ran : List Job → ℕ → Scenario → List ℕ → List ℕ → Type 0
Ran js m s starts finishes =
    (k : ℕ) → k < length js → (t : ℕ) → status (run js m s t).statuses k ≡ status_at (get_or starts k 0) (get_or finishes k 0) t

abbrev pub RanAs : Outcome Phrase → List ℕ → List ℕ → List ℕ → Type 0
RanAs (ok x) playing starts finishes = Ran (jobs_of x) x.cores (scenario_in playing) starts finishes
RanAs (unread n at) playing starts finishes = ⊥

-- Where a check accepts the phrase, each job finishes within the bounds that the check reports, and not after its deadline.
abbrev pub Inside : Outcome Phrase → Verdict → List ℕ → Type 0
Inside (ok x) (accepted bounds c) finishes =
    (k : ℕ) → k < length (jobs_of x) → Contains (get_or bounds k empty) (get_or finishes k 0) × (get_or finishes k 0 ≤ (job (jobs_of x) k).deadline)
Inside (ok x) (refused n at) finishes = Unit {0}
Inside (ok x) (late i e f) finishes = Unit {0}
Inside (unread n at) v finishes = Unit {0}
