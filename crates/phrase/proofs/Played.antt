-- What a host is told of a playing: its refusals have numbers of their own, and its times keep the promises. Assumes nothing.
use Prim.Native.Nat.{ℕ, ◌≤◌, ◌<◌}
use mathlib.Core.Path.{◌≡◌, refl, sym, ap, ◌∙◌, subst, subst₂}
use mathlib.Core.Logic.{◌⊎◌, inl, inr, ⊎_elim}
use mathlib.Core.List.{List}
use native.Mathlib.Omega.{arith}
use lib.ListN.{length}
use Rattle.model.specs.Dispatch.{Scenario}
use Rattle.format.specs.Bytes.{AreBytes}
use Rattle.format.specs.Jobs.{jobs_of}
use Rattle.format.specs.Outcome.{Outcome, ok, refused, ◌>>=◌}
use Rattle.format.specs.Phrase.{Phrase}
use Rattle.format.specs.Reading.{reading}
use Rattle.format.proofs.Passed.{never}
use Rattle.checking.specs.Checking.{verdict}
use Rattle.checking.proofs.Promise.{few_jobs}
use Rattle.playing.specs.Playing.{Times, scenario_in, scenario_for, times_of, played_for, played_of}
use Rattle.playing.specs.Promise.{RanAs, Inside}
use Rattle.playing.proofs.Admitted.{admission_cases, played_promise}
use Rattle.phrase.specs.Host.{places}
use Rattle.phrase.proofs.Rereading.{unread_apart}

-- a refusal has one number and place
same : {A : Type 0} (n at m to : ℕ) → ◌≡◌ {A = Outcome A} (refused n at) (refused m to) → (n ≡ m) × (at ≡ to)
same n at m to e = (cc, cc)

module _ (file : List ℕ) (bytes : AreBytes file) (playing : List ℕ) (n at : ℕ) where
  by_playing : (x : Phrase) → reading file ≡ ok x → played_for (jobs_of x) x.cores playing ≡ refused n at → (1 ≤ n) × (at < places)
  by_playing x e q = go (admission_cases (jobs_of x) playing)
    where
      then : {o : Outcome Scenario} → scenario_for (jobs_of x) playing ≡ o → ◌>>=◌ o (λ s. ok (times_of (jobs_of x) x.cores s)) ≡ refused n at
      then d = ap (λ (o : Outcome Scenario). ◌>>=◌ o (λ s. ok (times_of (jobs_of x) x.cores s))) (sym d) ∙ q

      go : (scenario_for (jobs_of x) playing ≡ ok (scenario_in playing))
          ⊎ ((m : ℕ) × (to : ℕ) × (scenario_for (jobs_of x) playing ≡ refused m to) × ((m ≡ 17) ⊎ (m ≡ 18)) × (to ≤ length (jobs_of x))) → (1 ≤ n) × (at < places)
      go (inl d) = absurd (never n at (sym (then d)))
      go (inr y) =
          let z = same {A = Times} y.0 y.1 n at (then y.2) in
          (⊎_elim (λ d. omega (arith, z.0)) (λ d. omega (arith, z.0)) y.3, omega (arith, z.1, y.4, few_jobs file bytes x e))

  by_reading : (o : Outcome Phrase) → reading file ≡ o → played_of o playing ≡ refused n at → (1 ≤ n) × (at < places)
  by_reading (ok x) e q = by_playing x e q
  by_reading (refused m to) e q =
      let z = same {A = Times} m to n at q in
      let a = unread_apart file m to e in
      (omega (arith, z.0, a.0), omega (arith, z.1, a.1))

  -- its number is not 0, and its place is below `places`
  pub unplayed_apart : played_of (reading file) playing ≡ refused n at → (1 ≤ n) × (at < places)
  unplayed_apart q = by_reading (reading file) refl q

-- The times that were written keep the promises.
pub promised : (file : List ℕ) → AreBytes file → (playing : List ℕ) (t : Times) → played_of (reading file) playing ≡ ok t → (starts finishes : List ℕ) → starts ≡ t.starts
    → finishes ≡ t.finishes → RanAs (reading file) playing starts finishes × ((words : ℕ) → Inside (reading file) (verdict (reading file) words) finishes)
promised file bytes playing t e starts finishes p q =
    let x = played_promise file bytes playing t e in
    (subst₂ (RanAs (reading file) playing) (sym p) (sym q) x.0, λ words. subst (Inside (reading file) (verdict (reading file) words)) (sym q) (x.1 words))
