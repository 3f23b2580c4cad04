-- `start_job` meets its contract.
use Prim.Native.Nat.{◌+◌, ◌-◌, ◌≤◌}
use mathlib.Core.Path.{◌≡◌, sym, ap, ◌∙◌, subst}
use native.Mathlib.Omega.{arith}
use lib.ListN.{length, set}
use borrow.Rule.Slice.PartMut.{put_mid}
use Rattle.model.specs.States.{range}
use Rattle.model.specs.Exploration.{state_words}
use Rattle.model.specs.internal.Sorted.{Sorted}
use Rattle.words.proofs.Parts.{part_length, length_put}
use Rattle.words.specs.internal.Parts.{part}
use Rattle.states.specs.internal.Slots.{possibly_at, certainly_at, state_of}
use Rattle.states.proofs.Starts.{parts_sorted, upper_kept, updated_set, updated_others, started_state}
use Rattle.states.proofs.starting.start_job.Goals as goal
use Rattle.states.proofs.starting.start_job.Goals.{After-add_job}

-- the sorted availabilities, once the job is added
sorted : (c : After-add_job) → Sorted (part possibly_at c.args.m c.add_job.new.out) × Sorted (part (certainly_at c.args.m) c.args.m c.add_job.new.out)
sorted c =
    let σ = state_of c.args.m c.args.k c.args.out.now in
    parts_sorted c.args.m c.args.k c.add_job.new.out σ (set σ.finish c.args.start.job (range c.args.start.earliest c.args.start.latest)) c.add_job.ensures.out_after c.requires.6

long : (c : After-add_job) → state_words c.args.m c.args.k ≤ length c.add_job.new.out
long c = omega (arith, c.requires.3, c.add_job.auto.out)

pub update_availability-requires : goal.update_availability-requires
update_availability-requires c = let m = c.args.m in
    let p : 2 + m - 2 ≡ m = omega arith in
    rw p (omega (arith, part_length possibly_at m c.add_job.new.out (omega (arith, long (goal.at.update_availability-requires c).After-add_job)), c.requires.2), (sorted (goal.at.update_availability-requires c).After-add_job).0)

pub update_availability-requires-2 : goal.update_availability-requires-2
update_availability-requires-2 c = let m = c.args.m in
    let ws = c.add_job.new.out in
    let x = c.update_availability in
    let p : 2 + m - 2 ≡ m = omega arith in
    let q : 2 + m + m - (2 + m) ≡ m = omega arith in
    let lx : length x.new.l ≡ m = rw p at x.auto.l ∙ part_length possibly_at m ws (omega (arith, long (goal.at.update_availability-requires-2 c).After-add_job)) in
    let u = upper_kept m c.args.k ws x.new.l (long (goal.at.update_availability-requires-2 c).After-add_job) lx in
    rw (p, q) (omega (arith, ap length u, part_length (certainly_at m) m ws (omega (arith, long (goal.at.update_availability-requires-2 c).After-add_job)), c.requires.2), subst Sorted (sym u) (sorted (goal.at.update_availability-requires-2 c).After-add_job).1)

pub returns : goal.returns
returns c = let m = c.args.m in
    let k = c.args.k in
    let w = c.add_job in
    let x = c.update_availability in
    let y = c.update_availability-2 in
    let ws = w.new.out in
    let ys = x.new.l in
    let zs = y.new.l in
    let p : 2 + m - 2 ≡ m = omega arith in
    let q : 2 + m + m - (2 + m) ≡ m = omega arith in
    let long = long (goal.at.returns c).After-add_job in
    let lx : length ys ≡ m = rw p at x.auto.l ∙ part_length possibly_at m ws (omega arith) in
    let ly : length zs ≡ m = rw (p, q) at y.auto.l ∙ part_length (certainly_at m) m (put_mid possibly_at m ws ys) (omega (arith, length_put possibly_at m ws ys (omega arith) lx)) in
    rw (p, q) record { out_after = started_state m k ws ys zs long lx ly (state_of m k c.args.out.now) c.args.start.job c.args.start.start c.args.start.earliest c.args.start.latest w.ensures.out_after (rw p at x.ensures) (rw (p, q) at y.ensures); out_after_2 = updated_set m k ws ys zs long lx ly ∙ w.ensures.out_after_2; other_finishes_kept = updated_others m k ws ys zs long lx ly c.args.start.job c.args.out.now w.ensures.other_finishes_kept }
