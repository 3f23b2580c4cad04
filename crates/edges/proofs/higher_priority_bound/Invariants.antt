-- The loop's invariant: `first` is the bound over the jobs before the place.
use mathlib.Core.Path.{◌≡◌}
use lib.ListN.{take}
use Rattle.jobs.specs.internal.JobRow.{jobs_of_rows}
use Rattle.states.specs.internal.Slots.{state_of}
use Rattle.edges.specs.internal.Edges.{limit_word, bound_over, Holders}
use Rattle.edges.proofs.higher_priority_bound.Given as goal

abbrev pub invariant-loop-holder : goal.invariant-loop-holder
invariant-loop-holder l = (h : Holders (jobs_of_rows l.rows l.k) (state_of l.m l.k l.s) l.k l.holders) → l.first ≡ limit_word (bound_over (jobs_of_rows l.rows l.k) (state_of l.m l.k l.s) l.i (take l.holder-index h.jobs))
