use mathlib.Core.Path.{◌≡◌}
use Prim.Native.Nat.{◌+◌, ◌*◌, ◌≤◌}
use mathlib.Core.List.{[]}
use lib.ListN.{length, take, drop}
use Rattle.format.specs.Layout.{longest_file}
use Rattle.format.specs.Rules.{bells_rules}
use Rattle.fields.specs.internal.Layouts.{layout_of}
use Rattle.rows.specs.BellRow.{bells_of_rows}
use Rattle.rows.specs.PhraseTable.{bell_rows_at}
use Rattle.rules.specs.internal.Asking.{Sounded}
use Rattle.rules.proofs.bells.bells_from.Given as goal

abbrev pub invariant-loop-i : goal.invariant-loop-i
invariant-loop-i l = (l.at ≤ longest_file + l.i * 9)
    × (length l.sounded ≡ length l.initial.sounded)
    × Sounded (take l.i (bells_of_rows (drop bell_rows_at l.phrase) l.n)) l.sounded
    × (bells_rules (layout_of l.l) (drop l.i (bells_of_rows (drop bell_rows_at l.phrase) l.n)) l.at (take l.i (bells_of_rows (drop bell_rows_at l.phrase) l.n)) ≡ bells_rules (layout_of l.l) (bells_of_rows (drop bell_rows_at l.phrase) l.n) l.start [])
