-- How long the lines of a report are. Assumes nothing.
use Prim.Native.Nat.{ℕ, ◌+◌}
use mathlib.Core.Path.{◌≡◌}
use mathlib.Core.List.{List, ◌++◌}
use native.Mathlib.Omega.{arith}
use lib.ListN.{length, length-append}
use Rattle.model.specs.Refusals.{late_job}
use Rattle.text.specs.Bytes.{bytes}
use Rattle.text.specs.Decimal.{decimal}
use Rattle.text.specs.Keys.{key_text}
use Rattle.lines.specs.Lines.{labelled, ranged, origin_text, times_text, stroke_line, bell_line, accepted_line, place_label, refused_line, late_line}
use Rattle.lines.specs.declared.lines.Stroke.{Stroke}
use Rattle.lines.specs.declared.lines.BellTotal.{BellTotal}

-- how many digits a number has
abbrev size : ℕ → ℕ
size n = length (decimal n)

labelled_length : (label : List ℕ) (n : ℕ) → length (labelled label n) ≡ length label + size n
unfolding labelled
labelled_length label n = length-append label (decimal n)

ranged_length : (label : List ℕ) (low high : ℕ) → length (ranged label low high) ≡ length label + (size low + (2 + size high))
unfolding ranged
ranged_length label low high =
    omega (arith, length-append (labelled label low) (labelled (bytes "..") high), labelled_length label low, labelled_length (bytes "..") high)

module _ (s : Stroke) where
  origin_length : length (origin_text s) ≡ 18 + (size s.number + (length (key_text s.key) + size s.bell))
  unfolding origin_text
  origin_length =
      let number = labelled (bytes "stroke ") s.number in
      let key = bytes " key " ++ key_text s.key in
      let bell = labelled (bytes " bell ") s.bell in
      omega (
        arith,
        length-append number (key ++ bell),
        length-append key bell,
        length-append (bytes " key ") (key_text s.key),
        labelled_length (bytes "stroke ") s.number,
        labelled_length (bytes " bell ") s.bell,
      )

  times_length : length (times_text s) ≡ 26 + ((size s.earliest + size s.latest) + ((size s.best + size s.worst) + size s.deadline))
  unfolding times_text
  times_length =
      let ends = ranged (bytes " ends ") s.earliest s.latest in
      let response = ranged (bytes " response ") s.best s.worst in
      let due = labelled (bytes " due ") s.deadline in
      omega (
        arith,
        length-append ends (response ++ (due ++ bytes "\n")),
        length-append response (due ++ bytes "\n"),
        length-append due (bytes "\n"),
        ranged_length (bytes " ends ") s.earliest s.latest,
        ranged_length (bytes " response ") s.best s.worst,
        labelled_length (bytes " due ") s.deadline,
      )

  -- The line of a stroke: its fixed bytes, its numbers and the name of its key.
  pub stroke_length : length (stroke_line s)
      ≡ 44
      + ((size s.number + (length (key_text s.key) + size s.bell))
      + ((size s.earliest + size s.latest) + ((size s.best + size s.worst) + size s.deadline)))
  unfolding stroke_line
  stroke_length = omega (arith, length-append (origin_text s) (times_text s), origin_length, times_length)

-- three numbers, each after its label, and the line end
three_length : (a b c : List ℕ) (i j k : ℕ)
    → length (labelled a i ++ (labelled b j ++ (labelled c k ++ bytes "\n"))) ≡ (length a + (length b + (length c + 1))) + (size i + (size j + size k))
three_length a b c i j k =
    omega (
      arith,
      length-append (labelled a i) (labelled b j ++ (labelled c k ++ bytes "\n")),
      length-append (labelled b j) (labelled c k ++ bytes "\n"),
      length-append (labelled c k) (bytes "\n"),
      labelled_length a i,
      labelled_length b j,
      labelled_length c k,
    )

-- The line of a bell: its fixed bytes, and its numbers.
pub bell_length : (b : BellTotal) → length (bell_line b) ≡ 21 + (size b.number + (size b.strokes + size b.hold))
unfolding bell_line
bell_length b = three_length (bytes "bell ") (bytes " strokes ") (bytes " hold ") b.number b.strokes b.hold

-- The last line of a report that accepts: its fixed bytes, and its numbers.
pub accepted_length : (jobs states hold : ℕ) → length (accepted_line jobs states hold) ≡ 32 + (size jobs + (size states + size hold))
unfolding accepted_line
accepted_length jobs states hold = three_length (bytes "accepted strokes ") (bytes " states ") (bytes " hold ") jobs states hold

-- The line of a refusal: its fixed bytes, its number, and the label and number of its place.
pub refused_length : (n at : ℕ) → length (refused_line n at) ≡ 9 + (size n + (length (place_label n) + size at))
unfolding refused_line
refused_length n at =
    let number = labelled (bytes "refused ") n in
    let place = labelled (place_label n) at in
    omega (
      arith,
      length-append number (place ++ bytes "\n"),
      length-append place (bytes "\n"),
      labelled_length (bytes "refused ") n,
      labelled_length (place_label n) at,
    )

-- The line of a late stroke: its fixed bytes, and its numbers.
pub late_length : (i e f : ℕ) → length (late_line i e f) ≡ 25 + (size late_job + (size i + (size e + size f)))
unfolding late_line
late_length i e f =
    let number = labelled (bytes "refused ") late_job in
    let stroke = labelled (bytes " stroke ") i in
    let ends = ranged (bytes " ends ") e f in
    omega (
      arith,
      length-append number (stroke ++ (ends ++ bytes "\n")),
      length-append stroke (ends ++ bytes "\n"),
      length-append ends (bytes "\n"),
      labelled_length (bytes "refused ") late_job,
      labelled_length (bytes " stroke ") i,
      ranged_length (bytes " ends ") e f,
    )
