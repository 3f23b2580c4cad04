-- The loop's invariant: `first` is the smallest over the candidates before the place, and the n jobs listed so far hold others back as these candidates do, up
-- to the bound that follows from them.
use Prim.Native.Nat.{suc, ◌≤◌, max}
use mathlib.Core.Path.{◌≡◌}
use lib.ListN.{length, take}
use Rattle.model.specs.Folds.{all}
use Rattle.model.specs.Edges.{certainly_ready}
use Rattle.jobs.specs.internal.JobRow.{jobs_of_rows}
use Rattle.states.specs.internal.Slots.{state_of}
use Rattle.edges.specs.internal.Edges.{limit_word, smallest_in, Holding}
use Rattle.edges.proofs.survey.Given as goal

abbrev pub invariant-loop-listed : goal.invariant-loop-listed
invariant-loop-listed l = (l.n ≤ l.listed-index) × (length l.holders ≡ length l.initial.holders)
    × (l.first ≡ limit_word (smallest_in all (certainly_ready (jobs_of_rows l.rows l.k) (state_of l.m l.k l.s)) (take l.listed-index l.list)))
    × Holding (jobs_of_rows l.rows l.k) (state_of l.m l.k l.s) l.k (suc (max l.free l.first)) (take l.listed-index l.list) (take l.n l.holders)
