-- `is_started` meets its contract.
use Prim.Native.Nat.{ℕ}
use mathlib.Core.Path.{sym, ap, ◌∙◌}
use Rattle.states.specs.internal.Slots.{in_set}
use Rattle.states.proofs.Contents.{started_at}
use Rattle.states.proofs.reading.is_started.Goals as goal

pub returns : goal.returns
returns c = c.in_set.ensures ∙ ap (λ (x : ℕ). in_set x c.args.i) c.started_set.ensures
    ∙ sym (started_at c.args.m c.args.k c.args.s.now c.args.i c.requires.0)
