use Prim.Native.Nat.{◌*◌, ◌≤◌}
use mathlib.Core.Path.{◌≡◌}
use lib.ListN.{length}
use Rattle.lines.specs.internal.Longest.{longest_stroke}
use Rattle.strokes.specs.internal.Rows.{strokes_text}
use Rattle.strokes.proofs.Strokes.length.Given as goal

abbrev pub invariant-loop-i : goal.invariant-loop-i
invariant-loop-i l = let s = l.self in
    (l.total ≡ length (strokes_text s.phrase.now s.earliest.now s.latest.now s.best.now s.worst.now l.i)) × (l.total ≤ l.i * longest_stroke)
