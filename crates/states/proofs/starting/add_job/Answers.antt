-- `add_job` meets its contract.
use Prim.Native.Nat.{◌+◌, ◌*◌, ◌%◌, ◌^◌, ◌≤◌, ◌<◌}
use mathlib.Core.Path.{◌≡◌}
use native.Mathlib.Omega.{arith}
use lib.Pow.{pow_mono}
use Rattle.states.specs.internal.Slots.{set_of}
use Rattle.states.proofs.Bits.{shifted_one}
use Rattle.states.proofs.Starts.{joined_fits, added_set, added_others, added_state}
use Rattle.states.proofs.starting.add_job.Goals as goal
use Rattle.states.proofs.starting.add_job.Goals.{After-started_set}

bits : (c : After-started_set) → c.started_set.result + (1 * 2 ^ c.args.i) % 2 ^ 64 ≡ set_of c.args.out.now + 2 ^ c.args.i
bits c = rw (shifted_one 64 c.args.i (omega arith), c.started_set.ensures)

fits : (c : After-started_set) → c.started_set.result + (1 * 2 ^ c.args.i) % 2 ^ 64 < 2 ^ 64
fits c =
    let k : 2 ^ c.args.k ≤ 2 ^ 64 = pow_mono c.requires.1 in
    rw (bits c) (omega (arith, joined_fits c.args.m c.args.k c.args.out.now c.args.i c.requires.0 c.requires.3 c.requires.4))

pub overflow_add-set : goal.overflow_add-set
overflow_add-set c = record { fits = fits c }

pub overflow_cast-out-2 : goal.overflow_cast-out-2
overflow_cast-out-2 c = omega (arith, fits c)

pub returns : goal.returns
returns c = let set = c.started_set.result + (1 * 2 ^ c.args.i) % 2 ^ 64 in record { out_after = added_state c.args.m c.args.k c.args.out.now c.args.i c.requires.0 c.requires.3 c.requires.4 set c.args.e c.args.f (bits c) c.requires.2; out_after_2 = added_set c.args.m c.args.k c.args.out.now c.args.i c.requires.0 c.requires.3 c.requires.4 set c.args.e c.args.f (bits c) c.requires.2; other_finishes_kept = added_others c.args.m c.args.k c.args.out.now c.args.i c.requires.0 c.requires.3 c.requires.4 set c.args.e c.args.f (bits c) c.requires.2 }
