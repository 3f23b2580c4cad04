-- The order of priority by one number. Assumes nothing.
use Prim.Native.Nat.{ℕ, ◌%◌, ◌<◌}
use mathlib.Core.Path.{◌≡◌, refl, sym}
use mathlib.Core.Logic.{⊎_elim}
use mathlib.Core.Bool.{Bool, true, false, ◌&&◌, ◌||◌}
use mathlib.Core.List.{List}
use native.Mathlib.Nat.{eq-or-lt_of_le}
use native.Mathlib.Omega.{arith}
use lib.Dec.{ltb, eqb}
use borrow.Author.Tests.{ltb-true, ltb-false, eqb-true, eqb-false, lt-ltb, le-ltb}
use Rattle.model.specs.Limits.{most_jobs}
use Rattle.model.specs.Jobs.{Job, job, before}
use Rattle.jobs.specs.internal.Order.{precedence}

module _ (js : List Job) (j : ℕ) (h : j < most_jobs) where
  -- The number of the job can be read from where it stands.
  pub job_at_holds : precedence js j % most_jobs ≡ j
  job_at_holds = omega arith

  -- It goes before another exactly when it stands before it.
  pub before_is : (i : ℕ) → i < most_jobs → before js j i ≡ ltb (precedence js j) (precedence js i)
  unfolding before
  before_is i g = go (ltb a b) refl (eqb a b) refl (ltb j i) refl
    where
      a : ℕ
      a = (job js j).priority

      b : ℕ
      b = (job js i).priority

      go : (x : Bool) → ltb a b ≡ x → (y : Bool) → eqb a b ≡ y → (z : Bool) → ltb j i ≡ z → (x || (y && z)) ≡ ltb (precedence js j) (precedence js i)
      go true p y q z r = sym (lt-ltb (precedence js j) (precedence js i) (omega (arith, ltb-true a b p)))
      go false p true q true r = sym (lt-ltb (precedence js j) (precedence js i) (omega (arith, eqb-true a b q, ltb-true j i r)))
      go false p true q false r = sym (le-ltb (precedence js j) (precedence js i) (omega (arith, eqb-true a b q, ltb-false j i r)))
      go false p false q z r = sym (le-ltb (precedence js j) (precedence js i) (⊎_elim (λ (e : b ≡ a). absurd (eqb-false a b q (sym e))) (λ (l : b < a). omega arith) (eq-or-lt_of_le (ltb-false a b p))))
