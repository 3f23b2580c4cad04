-- The number that a host gets: its parts are apart, and 0 says accepted. Assumes nothing.
use Prim.Native.Nat.{ℕ, ◌<◌}
use mathlib.Core.Path.{◌≡◌, refl, ap}
use mathlib.Core.List.{List}
use native.Mathlib.Omega.{arith}
use Rattle.model.specs.Exploration.{accepted, refused, late}
use Rattle.model.specs.Exploration.{Verdict}
use Rattle.model.proofs.Places.{refused_within}
use Rattle.format.specs.Phrase.{Phrase}
use Rattle.format.specs.Jobs.{jobs_of}
use Rattle.format.specs.Outcome.{Outcome, ok}
use Rattle.format.specs.Reading.{reading}
use Rattle.format.specs.Outcome.{refused as unread}
use Rattle.format.specs.Bytes.{AreBytes}
use Rattle.format.proofs.Refusals.{some_number, refused_within as unread-within}
use Rattle.checking.specs.Checking.{capacity_for, verdict, answer_for, Values, values_of}
use Rattle.checking.specs.declared.Answer.TheVariants.{Accepted}
use Rattle.checking.proofs.Refusals.{place_within}
use Rattle.phrase.specs.Host.{places, number_of, number_for}

module _ (file : List ℕ) (bytes : AreBytes file) (words : ℕ) where
  -- Every place is below `places`.
  pub place_apart : (w : Values) → w ≡ values_of (answer_for (verdict (reading file) words)) → w.place < places
  place_apart w e = omega (arith, place_within file bytes words, ap (λ (y : Values). y.place) e)

  by_verdict : (x : Phrase) (v : Verdict) → verdict (ok x) words ≡ v → number_of (values_of (answer_for v)) ≡ 0 → answer_for v ≡ Accepted
  by_verdict x (accepted bounds c) q z = refl
  by_verdict x (refused n at) q z = absurd (omega (arith, refused_within (jobs_of x) x.cores (capacity_for x words) n at q))
  by_verdict x (late i f l) q z = absurd (omega arith)

  by_outcome : (o : Outcome Phrase) → reading file ≡ o → number_for o words ≡ 0 → answer_for (verdict o words) ≡ Accepted
  by_outcome (ok x) e z = by_verdict x (verdict (ok x) words) refl z
  by_outcome (unread n at) e z = absurd (omega (arith, some_number n (unread-within file n at e).0))

  -- 0 says accepted and nothing else.
  pub zero_accepts : number_for (reading file) words ≡ 0 → answer_for (verdict (reading file) words) ≡ Accepted
  zero_accepts z = by_outcome (reading file) refl z
