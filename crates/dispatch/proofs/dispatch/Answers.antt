-- The words begin with no job started, and end with the times of the run.
use Prim.Native.Nat.{ℕ}
use mathlib.Core.Path.{◌≡◌, sym, ap, ◌∙◌, subst}
use mathlib.Core.List.{List}
use native.Mathlib.Omega.{arith}
use lib.ListN.{length, replicate, length-replicate}
use Rattle.model.specs.Limits.{most_jobs, most_cores}
use Rattle.dispatch.specs.internal.Turns.{Dispatchable, Over}
use Rattle.dispatch.proofs.Beginning.{cleared, free_cores, free_at_once, beginning, times_are}
use Rattle.dispatch.proofs.dispatch.Goals as goal

as_long : (l : List ℕ) → l ≡ replicate most_jobs 0 → length l ≡ most_jobs
as_long l e = ap (λ (x : List ℕ). length x) e ∙ length-replicate {A = ℕ} most_jobs 0

pub wake_all-requires : goal.wake_all-requires
wake_all-requires c = let known = c.requires in
    let finishes = c.args.finishes.now in (
      record {
        rows_of = known.0.setting.rows_of;
        few_jobs = known.0.setting.jobs;
        rests = known.0.setting.rests;
        has_jobs = known.0.has_jobs;
        finishes_of_holds = omega (arith, as_long finishes known.2, known.0.setting.jobs);
        finishes_small = λ j b. omega (arith, cleared finishes most_jobs known.2 j);
      },
      known.0.setting.jobs,
    )

pub start_all-requires : goal.start_all-requires
start_all-requires c = let a = c.args in
    let known = c.requires in
    let given = subst (λ n. Dispatchable a.rows.now a.k n a.playing.now) (sym (free_cores a.m known.0.setting.few_cores)) known.0 in
    let few = known.0.setting.jobs in
    let w = c.wake_all in (
      given,
      beginning a.rows.now a.k a.playing.now a.starts.now a.finishes.now w.new.wakes _ given (cleared a.starts.now most_jobs known.1)
          (cleared a.finishes.now most_jobs known.2) (free_at_once a.m most_cores) (omega (arith, as_long a.starts.now known.1, few))
          (omega (arith, as_long a.finishes.now known.2, few)) (omega (arith, w.auto.wakes, few)) w.ensures,
    )

pub returns : goal.returns
returns c = let a = c.args in
    let known = c.requires in
    let over =
    subst (λ n. Over a.rows.now a.k n a.playing.now c.start_all.new.starts c.start_all.new.finishes) (free_cores a.m known.0.setting.few_cores)
    c.start_all.ensures in
    record {
      starts_after = times_are _ a.k c.start_all.new.starts known.0.setting.jobs (c.start_all.auto.starts ∙ as_long a.starts.now known.1) over.starts_are;
      finishes_after = times_are _ a.k c.start_all.new.finishes known.0.setting.jobs (c.start_all.auto.finishes ∙ as_long a.finishes.now known.2) over.finishes_are;
    }
