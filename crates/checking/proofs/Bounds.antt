-- The bounds that an accepted result reports are those of the analysis. Assumes nothing.
use Prim.Native.Nat.{ℕ, ◌≤◌}
use mathlib.Core.Path.{◌≡◌, refl, ◌∙◌}
use mathlib.Core.Bool.{true, false≢true}
use mathlib.Core.List.{List}
use lib.ListN.{get_or, length}
use Rattle.model.specs.Limits.{most_jobs}
use Rattle.model.specs.Jobs.{Job}
use Rattle.model.specs.States.{Range, empty, range, is_range, earliest, latest}
use Rattle.model.specs.Exploration.{accepted}
use Rattle.words.proofs.Tabulate.{tabulate_is}
use Rattle.checking.specs.Checking.{result_of, bound_of, bounds_of}
use Rattle.checking.proofs.PerJob.{per_job_at}
use Rattle.checking.proofs.Accepted.{Reported}

from_ends : (r : Range) → is_range r ≡ true → range (earliest r) (latest r) ≡ r
from_ends empty e = absurd (false≢true e)
from_ends (range e f) q = refl

-- An accepted result's bounds are the analysis's.
pub bounds_back : (js : List Job) (d : ℕ) (bounds : List Range) (c : ℕ) → length js ≤ most_jobs → Reported js d bounds → bounds_of (result_of js (accepted bounds c)) ≡ bounds
unfolding bounds_of
bounds_back js d bounds c few given =
    tabulate_is (bound_of (result_of js (accepted bounds c))) (length js) bounds empty given.all_jobs
    (λ i b.
    (λ n.
    range (per_job_at (length js) (λ i. earliest (get_or bounds i empty)) few i b n) (per_job_at (length js) (λ i. latest (get_or bounds i empty)) few i b n))
    ∙ from_ends (get_or bounds i empty) (given.ranged i b))
