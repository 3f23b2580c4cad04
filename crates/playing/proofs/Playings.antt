-- Laws of a playing's head, of its ranges, and of the answer to it. Assumes nothing.
use Prim.Native.Nat.{ℕ, zero, suc, ◌+◌, ◌-◌, ◌*◌, ◌≤◌, ◌<◌}
use mathlib.Core.Path.{◌≡◌, refl, ap, ◌∙◌, subst}
use mathlib.Core.Logic.{◌⊎◌, inl, inr}
use mathlib.Core.Bool.{Bool, true, false, ◌&&◌}
use mathlib.Core.List.{List}
use native.Mathlib.Nat.{not-suc-le-zero}
use native.Mathlib.Numerals.{add-one}
use native.Mathlib.Decide.{ℕ_discrete}
use native.Mathlib.Omega.{arith}
use lib.Dec.{leb, eqb}
use lib.ListN.{length}
use borrow.Author.Tests.{leb-true, le-leb, lt-leb, eqb-true, eq-eqb, ne_eqb}
use Rattle.model.specs.Refusals.{wrong_playing, outside_range}
use Rattle.model.specs.Jobs.{Job}
use Rattle.model.specs.Dispatch.{Scenario}
use Rattle.model.proofs.Booleans.{and_left, and_right}
use Rattle.model.proofs.Folds.{below_suc}
use Rattle.format.specs.Bytes.{number}
use Rattle.format.specs.Outcome.{Outcome, ok, refused, ◌>>◌, require}
use Rattle.format.proofs.Passed.{never, followed}
use Rattle.playing.specs.Playing.{playing_version, byte_count_at, releases_at, job_bytes, scenario_in, is_playing, in_ranges, first_in_ranges, scenario_for}

-- ---- the head, by the tests in their order

module _ (p : List ℕ) (k : ℕ) where
  -- It is too short.
  pub short_head : length p < releases_at → false ≡ is_playing p k
  unfolding is_playing
  short_head h = simp (lt-leb releases_at (length p) h)

  module _ (long : releases_at ≤ length p) where
    -- The version is another.
    pub other_version : (number 1 0 p ≡ playing_version → ⊥) → false ≡ is_playing p k
    unfolding is_playing
    other_version h = simp (le-leb releases_at (length p) long, ne_eqb (number 1 0 p) playing_version h)

    module _ (version : number 1 0 p ≡ playing_version) where
      -- The count is not that of the bytes after it.
      pub other_count : (number 4 byte_count_at p ≡ length p - releases_at → ⊥) → false ≡ is_playing p k
      unfolding is_playing
      other_count h =
          simp (le-leb releases_at (length p) long, eq-eqb (number 1 0 p) playing_version version, ne_eqb (number 4 byte_count_at p) (length p - releases_at) h)

      -- The number of jobs is left.
      pub right_count : number 4 byte_count_at p ≡ length p - releases_at → eqb (length p - releases_at) (k * job_bytes) ≡ is_playing p k
      unfolding is_playing
      right_count h =
          simp (le-leb releases_at (length p) long, eq-eqb (number 1 0 p) playing_version version, eq-eqb (number 4 byte_count_at p) (length p - releases_at) h)

  -- A right head has the bytes of the jobs.
  pub has_jobs : is_playing p k ≡ true → releases_at + k * job_bytes ≤ length p
  unfolding is_playing
  has_jobs e =
      let a = leb releases_at (length p) in
      let b = eqb (number 1 0 p) playing_version in
      let c = eqb (number 4 byte_count_at p) (length p - releases_at) in
      let d = eqb (length p - releases_at) (k * job_bytes) in
      let long = leb-true releases_at (length p) (and_left a (b && (c && d)) e) in
      let jobs = eqb-true (length p - releases_at) (k * job_bytes) (and_right c d (and_right b (c && d) (and_right a (b && (c && d)) e))) in
      omega (arith, long, jobs)

-- ---- the ranges of the first jobs

module _ (js : List Job) (s : Scenario) where
  -- what is answered of one more job, after what was answered of those before
  after : (n : ℕ) (o : Outcome (Unit {0})) → first_in_ranges js s n ≡ o → first_in_ranges js s (suc n) ≡ ◌>>◌ o (require (in_ranges js s n) outside_range n)
  unfolding first_in_ranges
  after n o e = ap (λ (o : Outcome (Unit {0})). ◌>>◌ o (require (in_ranges js s n) outside_range n)) e

  next : (n : ℕ) → first_in_ranges js s n ≡ ok tt → (b : Bool) → in_ranges js s n ≡ b → first_in_ranges js s (suc n) ≡ require b outside_range n
  next n e b h = after n (ok tt) e ∙ ap (λ (b : Bool). require b outside_range n) h

  -- One more job is inside.
  pub one_more : (n : ℕ) → first_in_ranges js s n ≡ ok tt → in_ranges js s n ≡ true → first_in_ranges js s (n + 1) ≡ ok tt
  one_more n e h = rw (add-one n) (next n e true h)

  -- The first that is outside is the place of the refusal, however many follow.
  pub stops : (r : ℕ) → first_in_ranges js s r ≡ ok tt → in_ranges js s r ≡ false → (k : ℕ) → r < k → first_in_ranges js s k ≡ refused outside_range r
  stops r e h zero l = absurd (not-suc-le-zero l)
  stops r e h (suc n) l = go (ℕ_discrete r n) (stops r e h n)
    where
      go : Dec (r ≡ n) → (r < n → first_in_ranges js s n ≡ refused outside_range r) → first_in_ranges js s (suc n) ≡ refused outside_range r
      go (yes q) f = subst (λ (m : ℕ). first_in_ranges js s (suc m) ≡ refused outside_range r) q (next r e false h)
      go (no q) f = after n (refused outside_range r) (f (omega (arith, l, q)))

  asked : (n : ℕ) (b : Bool) → require b outside_range n ≡ ok tt → b ≡ true
  asked n true e = refl
  asked n false e = absurd (never outside_range n e)

  -- Where none is refused, each is inside.
  pub each_inside : (n : ℕ) → first_in_ranges js s n ≡ ok tt → (i : ℕ) → i < n → in_ranges js s i ≡ true
  unfolding first_in_ranges
  each_inside zero e i l = absurd (not-suc-le-zero l)
  each_inside (suc n) e i l =
      let (u, before, last) = followed (first_in_ranges js s n) e in
      below_suc (λ (j : ℕ). in_ranges js s j ≡ true) n (each_inside n before) (asked n (in_ranges js s n) last) i l

  -- Each is inside, or one of them is refused.
  pub inside_or_not : (n : ℕ) → (first_in_ranges js s n ≡ ok tt) ⊎ ((i : ℕ) × (i < n) × (first_in_ranges js s n ≡ refused outside_range i))
  unfolding first_in_ranges
  inside_or_not zero = inl refl
  inside_or_not (suc n) = go (inside_or_not n) (in_ranges js s n) refl
    where
      go : (first_in_ranges js s n ≡ ok tt) ⊎ ((i : ℕ) × (i < n) × (first_in_ranges js s n ≡ refused outside_range i)) → (b : Bool) → in_ranges js s n ≡ b
          → (first_in_ranges js s (suc n) ≡ ok tt) ⊎ ((i : ℕ) × (i < suc n) × (first_in_ranges js s (suc n) ≡ refused outside_range i))
      go (inl e) true h = inl (next n e true h)
      go (inl e) false h = inr (n, omega arith, next n e false h)
      go (inr x) b h = inr (x.0, omega (arith, x.1), after n (refused outside_range x.0) x.2)

-- ---- the scenario of a playing

module _ (js : List Job) (p : List ℕ) where
  by_head : (b : Bool) → is_playing p (length js) ≡ b
      → scenario_for js p ≡ ◌>>◌ (require b wrong_playing 0) (◌>>◌ (first_in_ranges js (scenario_in p) (length js)) (ok (scenario_in p)))
  unfolding scenario_for
  by_head b e = ap (λ (b : Bool). ◌>>◌ (require b wrong_playing 0) (◌>>◌ (first_in_ranges js (scenario_in p) (length js)) (ok (scenario_in p)))) e

  -- A wrong head is refused.
  pub wrong_head : is_playing p (length js) ≡ false → scenario_for js p ≡ refused wrong_playing 0
  wrong_head e = by_head false e

  -- After a right head the ranges are asked.
  pub by_ranges : is_playing p (length js) ≡ true → (o : Outcome (Unit {0})) → first_in_ranges js (scenario_in p) (length js) ≡ o
      → scenario_for js p ≡ ◌>>◌ o (ok (scenario_in p))
  by_ranges e o q = by_head true e ∙ ap (λ (o : Outcome (Unit {0})). ◌>>◌ o (ok (scenario_in p))) q
