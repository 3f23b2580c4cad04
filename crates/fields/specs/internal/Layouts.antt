-- The row of a version, by the code's. Assumes nothing.
use Rattle.model.specs.Limits.{most_jobs}
use Rattle.format.specs.Layout.{Layout}
use Rattle.fields.specs.declared.layout.Layout.{Layout as Row}

abbrev pub layout_of : Row → Layout
layout_of l = record { shift_bytes = l.shift; rest_bytes = l.rest; count_bytes = 1; listed_bytes = 1; most_notes = most_jobs }
