-- The lines of a report. Assumes nothing.
use Rattle.std.specs.Prelude.{ℕ, zero, suc, cond, List, [], ◌++◌, eqb}
use Rattle.model.specs.Refusals.{level_full, late_job}
use Rattle.text.specs.Bytes.{bytes}
use Rattle.text.specs.Decimal.{decimal}
use Rattle.text.specs.Keys.{key_text}
use Rattle.lines.specs.declared.lines.Stroke.{Stroke}
use Rattle.lines.specs.declared.lines.BellTotal.{BellTotal}

-- a number after its label
unfoldable pub labelled : List ℕ → ℕ → List ℕ
unfolding decimal
labelled label n = label ++ decimal n

-- the two numbers of a range after their label
unfoldable pub ranged : List ℕ → ℕ → ℕ → List ℕ
unfolding labelled
ranged label low high = labelled label low ++ labelled (bytes "..") high

-- which stroke it is: its number, the name of its key, and its bell
unfoldable pub origin_text : Stroke → List ℕ
unfolding labelled key_text
origin_text s = labelled (bytes "stroke ") s.number ++ ((bytes " key " ++ key_text s.key) ++ labelled (bytes " bell ") s.bell)

-- its times: the bounds of its finish time and of its response, and its deadline
unfoldable pub times_text : Stroke → List ℕ
unfolding labelled ranged
times_text s =
    ranged (bytes " ends ") s.earliest s.latest ++ (ranged (bytes " response ") s.best s.worst ++ (labelled (bytes " due ") s.deadline ++ bytes "\n"))

-- The line of a stroke.
unfoldable pub stroke_line : Stroke → List ℕ
unfolding origin_text times_text
stroke_line s = origin_text s ++ times_text s

-- The line of a bell: its number, the number of its strokes, and the longest time that these together hold a driver.
unfoldable pub bell_line : BellTotal → List ℕ
unfolding labelled
bell_line b = labelled (bytes "bell ") b.number ++ (labelled (bytes " strokes ") b.strokes ++ (labelled (bytes " hold ") b.hold ++ bytes "\n"))

-- the lines that f gives for 0 to n - 1, one after another
unfoldable pub lines : (ℕ → List ℕ) → ℕ → List ℕ
lines f zero = []
lines f (suc n) = lines f n ++ f n

-- The last line of a report that accepts: the number of strokes, of states stored, and the longest time that all strokes together hold a driver.
unfoldable pub accepted_line : ℕ → ℕ → ℕ → List ℕ
unfolding labelled
accepted_line jobs states hold =
    labelled (bytes "accepted strokes ") jobs ++ (labelled (bytes " states ") states ++ (labelled (bytes " hold ") hold ++ bytes "\n"))

-- a full level is refused with the level, all else but a late job with a place of the file
abbrev pub place_label : ℕ → List ℕ
place_label n = cond (eqb n level_full) (bytes " level ") (bytes " at ")

-- The line of a refusal.
unfoldable pub refused_line : ℕ → ℕ → List ℕ
unfolding labelled
refused_line n at = labelled (bytes "refused ") n ++ (labelled (place_label n) at ++ bytes "\n")

-- The line of a stroke that may be late: refusal 14.
unfoldable pub late_line : ℕ → ℕ → ℕ → List ℕ
unfolding labelled ranged
late_line i e f = labelled (bytes "refused ") late_job ++ (labelled (bytes " stroke ") i ++ (ranged (bytes " ends ") e f ++ bytes "\n"))
