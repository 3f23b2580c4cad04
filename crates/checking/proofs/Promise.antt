-- What a result says: an accepted one bounds every run of the phrase that the file holds (demand 3); others give document 01's numbers. Assumes nothing.
use Prim.Native.Nat.{ℕ, ◌≤◌}
use mathlib.Core.Path.{◌≡◌, refl, sym, ap, ◌∙◌, subst}
use mathlib.Core.List.{List}
use native.Mathlib.Omega.{arith}
use lib.ListN.{length}
use Rattle.model.specs.Limits.{most_jobs, latest_time}
use Rattle.model.specs.Jobs.{Job}
use Rattle.model.specs.States.{Range}
use Rattle.model.specs.Exploration.{accepted, refused, late}
use Rattle.model.specs.Exploration.{Verdict}
use Rattle.model.proofs.Soundness.{soundness}
use Rattle.format.specs.Phrase.{Phrase}
use Rattle.format.specs.Jobs.{jobs_of}
use Rattle.format.specs.Outcome.{Outcome, ok}
use Rattle.format.specs.Reading.{reading}
use Rattle.format.specs.Outcome.{refused as unread}
use Rattle.format.specs.Bytes.{AreBytes}
use Rattle.format.specs.internal.Analysable.{Analysable}
use Rattle.format.proofs.Theorems.{sound}
use Rattle.format.proofs.Jobs.{jobs_length, analysable}
use Rattle.rows.proofs.PhraseTable.{few_notes_holds}
use Rattle.jobs.proofs.JobRow.{timed}
use Rattle.checking.specs.Checking.{capacity_for, verdict, result_of, jobs_read, checked_of, answer_for, bounds_of, Playable, RunsKept}
use Rattle.checking.specs.declared.Answer.TheVariants.{Accepted}
use Rattle.checking.specs.declared.Checked.{Checked}
use Rattle.checking.proofs.Accepted.{reported}
use Rattle.checking.proofs.Bounds.{bounds_back}

-- A phrase that was read can be analysed.
pub can_analyse : (file : List ℕ) → AreBytes file → (x : Phrase) → reading file ≡ ok x → Analysable x
can_analyse file bytes x e = analysable x (sound file x bytes e)

-- It has no more jobs than a check has room for.
pub few_jobs : (file : List ℕ) → AreBytes file → (x : Phrase) → reading file ≡ ok x → length (jobs_of x) ≤ most_jobs
few_jobs file bytes x e = omega (arith, jobs_length x, few_notes_holds x (sound file x bytes e))

-- ---- the answer

of_verdict : (js : List Job) (v : Verdict) → (result_of js v).answer ≡ answer_for v
of_verdict js (accepted bounds c) = refl
of_verdict js (refused n at) = refl
of_verdict js (late i e f) = refl

-- The answer of a check's result is the verdict's.
pub answer_is : (o : Outcome Phrase) (words : ℕ) (r : Checked) → r ≡ checked_of o words → r.answer ≡ answer_for (verdict o words)
answer_is o words r p = ap (λ (y : Checked). y.answer) p ∙ of_verdict (jobs_read o) (verdict o words)

-- ---- every run

module _ (file : List ℕ) (bytes : AreBytes file) (words : ℕ) where
  abbrev v : Verdict
  v = verdict (reading file) words

  by_verdict : (x : Phrase) → reading file ≡ ok x → (w : Verdict) → verdict (ok x) words ≡ w → answer_for w ≡ Accepted → Playable (ok x) w
  by_verdict x e (accepted bounds c) q a = soundness (jobs_of x) x.cores (capacity_for x words) (can_analyse file bytes x e).well_formed bounds c q
  by_verdict x e (refused n at) q a = let z : ◌≡◌ {A = ℕ} 0 1 = cc in omega arith
  by_verdict x e (late i f l) q a = let z : ◌≡◌ {A = ℕ} 0 1 = cc in omega arith

  by_outcome : (o : Outcome Phrase) → reading file ≡ o → answer_for (verdict o words) ≡ Accepted → Playable o (verdict o words)
  by_outcome (ok x) e a = by_verdict x e (verdict (ok x) words) refl a
  by_outcome (unread n at) e a = let z : ◌≡◌ {A = ℕ} 0 1 = cc in omega arith

  -- What is accepted is playable.
  pub playable : answer_for v ≡ Accepted → Playable (reading file) v
  playable a = by_outcome (reading file) refl a

  -- an accepted result has the verdict's bounds and number of states
  stated_by : (x : Phrase) → reading file ≡ ok x → (w : Verdict) → verdict (ok x) words ≡ w → answer_for w ≡ Accepted
      → w ≡ accepted (bounds_of (result_of (jobs_of x) w)) (result_of (jobs_of x) w).states
  stated_by x e (accepted bounds c) q a =
      let can = can_analyse file bytes x e in
      let each = reported (jobs_of x) x.cores (capacity_for x words) latest_time can.well_formed (timed x can) bounds c q in
      ap (λ (b : List Range). accepted b c) (sym (bounds_back (jobs_of x) latest_time bounds c (few_jobs file bytes x e) each))
  stated_by x e (refused n at) q a = absurd (let z : ◌≡◌ {A = ℕ} 0 1 = cc in omega arith)
  stated_by x e (late i f l) q a = absurd (let z : ◌≡◌ {A = ℕ} 0 1 = cc in omega arith)

  stated : (o : Outcome Phrase) → reading file ≡ o → answer_for (verdict o words) ≡ Accepted
      → verdict o words ≡ accepted (bounds_of (checked_of o words)) (checked_of o words).states
  stated (ok x) e a = stated_by x e (verdict (ok x) words) refl a
  stated (unread n at) e a = absurd (let z : ◌≡◌ {A = ℕ} 0 1 = cc in omega arith)

  -- An accepted result bounds every run by its own arrays.
  pub runs_kept : (r : Checked) → r ≡ checked_of (reading file) words → RunsKept (reading file) r
  runs_kept r p a =
      let given = sym (answer_is (reading file) words r p) ∙ a in
      subst (λ (q : Checked). Playable (reading file) (accepted (bounds_of q) q.states)) (sym p)
      (subst (Playable (reading file)) (stated (reading file) refl given) (playable given))
