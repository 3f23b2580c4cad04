-- The places that are written of an answer are small. Assumes nothing.
use Prim.Native.Nat.{ℕ, ◌≤◌}
use mathlib.Core.Path.{◌≡◌, refl}
use mathlib.Core.List.{List}
use native.Mathlib.Omega.{arith}
use lib.ListN.{length}
use Rattle.model.specs.Limits.{most_jobs}
use Rattle.model.specs.Jobs.{Job}
use Rattle.model.specs.Exploration.{accepted, refused, late, analysis}
use Rattle.model.specs.Exploration.{Verdict}
use Rattle.model.proofs.Places.{refused_within, late_within}
use Rattle.format.specs.Phrase.{Phrase}
use Rattle.format.specs.Jobs.{jobs_of}
use Rattle.format.specs.Layout.{longest_file}
use Rattle.format.specs.Outcome.{Outcome, ok}
use Rattle.format.specs.Reading.{reading}
use Rattle.format.specs.Outcome.{refused as unread}
use Rattle.format.specs.Bytes.{AreBytes}
use Rattle.format.proofs.Refusals.{refused_within as unread-within}
use Rattle.checking.specs.Checking.{capacity_for, verdict, answer_for, values_of}
use Rattle.checking.proofs.Promise.{few_jobs}

-- a level, or a job
analysed_place : (js : List Job) (m cap : ℕ) → length js ≤ most_jobs → (v : Verdict) → analysis js m cap ≡ v → (values_of (answer_for v)).place ≤ most_jobs
analysed_place js m cap few (accepted bounds c) e = omega arith
analysed_place js m cap few (refused n at) e = omega (arith, refused_within js m cap n at e)
analysed_place js m cap few (late i x y) e = omega (arith, late_within js m cap i x y e)

module _ (file : List ℕ) (bytes : AreBytes file) (words : ℕ) where
  verdict_place : (o : Outcome Phrase) → reading file ≡ o → (values_of (answer_for (verdict o words))).place ≤ longest_file
  verdict_place (ok x) e =
      omega (arith, analysed_place (jobs_of x) x.cores (capacity_for x words) (few_jobs file bytes x e) (verdict (ok x) words) refl)
  verdict_place (unread n at) e = omega (arith, unread-within file n at e)

  -- No place is beyond the longest file of a phrase.
  pub place_within : (values_of (answer_for (verdict (reading file) words))).place ≤ longest_file
  place_within = verdict_place (reading file) refl
