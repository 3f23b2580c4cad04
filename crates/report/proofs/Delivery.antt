-- A text in a buffer: with room for it, and without. Assumes nothing.
use Prim.Native.Nat.{ℕ, ◌≤◌, ◌<◌}
use mathlib.Core.Path.{◌≡◌, refl, ap}
use mathlib.Core.Bool.{Bool, true, false, cond}
use mathlib.Core.List.{List}
use native.Mathlib.Nat.{zero-add}
use native.Mathlib.Omega.{arith}
use lib.ListN.{length}
use borrow.Author.Tests.{le-leb, lt-leb, leb-true, leb-false}
use Rattle.model.specs.Refusals.{short_buffer}
use Rattle.words.specs.internal.Placed.{placed}
use Rattle.checking.specs.Checking.{refusing}
use Rattle.checking.specs.declared.Answer.{Answer}
use Rattle.checking.specs.declared.Answer.TheVariants.{Accepted, Refused}
use Rattle.checking.specs.declared.Checked.{Checked}
use Rattle.report.specs.Report.{fits, delivered, length_in, reported_in}
use Rattle.report.specs.declared.Reported.{Reported}

module _ (text buffer : List ℕ) where
  -- A buffer that is shorter than the text is left as it was.
  pub short_left : length buffer < length text → buffer ≡ delivered text buffer
  short_left h = rw (lt-leb (length text) (length buffer) h)

  -- Its result is refusal 15 with no length.
  pub short_reported : (r : Checked) → length buffer < length text
      → ◌≡◌ {A = Reported} (record { checked = refusing (Refused short_buffer 0); length = 0 }) (reported_in r text buffer)
  short_reported r h = rw (lt-leb (length text) (length buffer) h)

  -- A text that has room is written from the start of the buffer on.
  pub whole_placed : length text ≤ length buffer → placed buffer 0 text ≡ delivered text buffer
  unfolding placed
  whole_placed h = rw (le-leb (length text) (length buffer) h, zero-add)

  -- Its result is the check's, with its length.
  pub whole_reported : (r : Checked) → length text ≤ length buffer → ◌≡◌ {A = Reported} (record { checked = r; length = length text }) (reported_in r text buffer)
  whole_reported r h = rw (le-leb (length text) (length buffer) h)

  in_buffer : (b : Bool) → fits text buffer ≡ b → cond b (length text) 0 ≤ length buffer
  in_buffer true e = leb-true (length text) (length buffer) e
  in_buffer false e = omega arith

  -- The length that is reported is at most that of the buffer.
  pub length_within : (r : Checked) (s : Reported) → s ≡ reported_in r text buffer → s.length ≤ length buffer
  length_within r s e = omega (arith, ap (λ (y : Reported). y.length) e, in_buffer (fits text buffer) refl)

  none_in_buffer : 1 ≤ length text → (b : Bool) → fits text buffer ≡ b → cond b (length text) 0 ≡ 0 → length buffer < length text
  none_in_buffer h true e z = absurd (omega arith)
  none_in_buffer h false e z = leb-false (length text) (length buffer) e

  -- a text that is not empty has no length only where the buffer is shorter
  pub none_only_short : 1 ≤ length text → length_in text buffer ≡ 0 → length buffer < length text
  none_only_short h z = none_in_buffer h (fits text buffer) refl z

-- ---- the result

module _ (r : Checked) where
  -- a report's answer is that of the check, or refusal 15
  pub reported_answer : (a : Answer) (b : Bool) → r.answer ≡ a → (cond b r (refusing (Refused short_buffer 0))).answer ≡ cond b a (Refused short_buffer 0)
  reported_answer a true e = e
  reported_answer a false e = refl

  -- a report that accepts has the result of the check
  pub reported_accepted : (s : Checked) (b : Bool) → s ≡ cond b r (refusing (Refused short_buffer 0)) → s.answer ≡ Accepted → s ≡ r
  reported_accepted s true p a = p
  reported_accepted s false p a = absurd (let z : ◌≡◌ {A = ℕ} 0 1 = cc (ap (λ (y : Checked). y.answer) p) in omega arith)
