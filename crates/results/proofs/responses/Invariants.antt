use mathlib.Core.Path.{◌≡◌}
use Rattle.checking.specs.Checking.{per_job}
use Rattle.results.specs.internal.Finishes.{response_of}
use Rattle.results.proofs.responses.Given as goal

abbrev pub invariant-loop-i : goal.invariant-loop-i
invariant-loop-i l = l.words ≡ per_job l.i (response_of l.rows l.k l.finishes)
