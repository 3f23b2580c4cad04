-- A check of a phrase with nothing uncertain gives what its one run does; the largest phrase has room for a state in few words. Assumes nothing.
use Prim.Native.Nat.{ℕ, ◌*◌, ◌≤◌}
use mathlib.Core.Path.{◌≡◌, refl, ap, ◌∙◌}
use mathlib.Core.List.{List}
use native.Mathlib.Nat.{le-div_iff_mul-le}
use native.Mathlib.Omega.{arith}
use lib.ListN.{length}
use Rattle.model.specs.Limits.{most_jobs, most_cores}
use Rattle.model.specs.Exploration.{state_words}
use Rattle.model.proofs.Certain.{decided}
use Rattle.format.specs.Phrase.{Phrase}
use Rattle.format.specs.Jobs.{jobs_of}
use Rattle.format.specs.Outcome.{Outcome, ok}
use Rattle.format.specs.Reading.{reading}
use Rattle.format.specs.Outcome.{refused as unread}
use Rattle.format.specs.Bytes.{AreBytes}
use Rattle.checking.specs.Checking.{capacity_for, verdict, result_of, jobs_read, checked_of}
use Rattle.checking.specs.Certain.{IsCertain, HasRoom, verdict_on_run, RunDecides, ResultByRun}
use Rattle.checking.specs.declared.Checked.{Checked}
use Rattle.checking.proofs.Promise.{can_analyse, few_jobs}

-- the words of two levels with a state each, for the largest phrase
abbrev pub roomy_words : ℕ
roomy_words = 2 * state_words most_cores most_jobs

module _ (file : List ℕ) (bytes : AreBytes file) (words : ℕ) where
  by_outcome : (o : Outcome Phrase) → reading file ≡ o → IsCertain o → HasRoom o words → RunDecides o words × (verdict o words ≡ verdict_on_run o)
  by_outcome (ok x) e certain room =
      let d = decided (jobs_of x) x.cores (capacity_for x words) (can_analyse file bytes x e).well_formed certain room in (d, d.verdict)
  by_outcome (unread n at) e certain room = absurd certain

  -- The run decides the analysis, and the verdict is that on the run.
  pub run_decides : IsCertain (reading file) → HasRoom (reading file) words → RunDecides (reading file) words × (verdict (reading file) words ≡ verdict_on_run (reading file))
  run_decides = by_outcome (reading file) refl

  -- And so is the result of a check.
  pub result_by_run : (r : Checked) → r ≡ checked_of (reading file) words → ResultByRun (reading file) words r
  result_by_run r p certain room =
      let d = run_decides certain room in
      (d.0, p ∙ ap (result_of (jobs_read (reading file))) d.1)

  room_for : (o : Outcome Phrase) → reading file ≡ o → roomy_words ≤ words → IsCertain o → HasRoom o words
  room_for (ok x) e enough certain =
      let m = (can_analyse file bytes x e).cores.1 in
      let k = few_jobs file bytes x e in
      (le-div_iff_mul-le {k = 2 * state_words x.cores (length (jobs_of x))} (omega arith)).1 (omega arith)
  room_for (unread n at) e enough certain = absurd certain

  -- Such a table has room for a state of every phrase.
  pub has_room : roomy_words ≤ words → IsCertain (reading file) → HasRoom (reading file) words
  has_room = room_for (reading file) refl
