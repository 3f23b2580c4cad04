-- A range of finish times in two words; a latest of 0 where nothing was observed, since an execution takes time. Assumes nothing.
use Rattle.std.specs.Prelude.{ℕ, min, max, cond, eqb}
use Rattle.model.specs.States.{Range, empty, range}
use Rattle.ranges.specs.declared.FinishRange.{FinishRange}

abbrev pub range_in : ℕ → ℕ → Range
range_in e f = cond (eqb f 0) empty (range e f)

abbrev pub range_of : FinishRange → Range
range_of r = range_in r.earliest r.latest

-- the range once an edge finishes from e to f
unfoldable pub widened_by : FinishRange → ℕ → ℕ → FinishRange
widened_by r e f = cond (eqb r.latest 0) (record { earliest = e; latest = f }) (record { earliest = min r.earliest e; latest = max r.latest f })
