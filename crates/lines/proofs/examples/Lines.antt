-- Lines of documents 01 and 02, and of what they leave open, computed. Assumes nothing.
use Rattle.std.specs.Prelude.{ℕ, zero, suc, ◌+◌, ◌≡◌, refl, List, [], ◌∷◌, ◌++◌}
use Rattle.text.specs.Bytes.{bytes}
use Rattle.text.specs.Decimal.{decimal, decimal_within}
use Rattle.text.specs.Keys.{key_text}
use Rattle.lines.specs.Lines.{labelled, ranged, origin_text, times_text, stroke_line, bell_line, lines, accepted_line, refused_line, late_line}
use Rattle.lines.specs.declared.lines.Stroke.{Stroke}

-- a line that the definitions give, and the line that is due
pub record Example : Type 0 where
  pub given : List ℕ
  pub due : List ℕ

abbrev stroke : ℕ → ℕ → ℕ → ℕ → ℕ → ℕ → ℕ → ℕ → Stroke
stroke i key bell e f b w d =
    record { number = i; key = key; bell = bell; earliest = e; latest = f; best = b; worst = w; deadline = d }

-- the two strokes of phrase P
abbrev of_p : ℕ → List ℕ
of_p zero = stroke_line (stroke 0 60 0 2 7 2 7 7)
of_p (suc i) = stroke_line (stroke 1 74 1 4 6 4 6 6)

abbrev pub examples : List Example
examples =
    record {
      given = lines of_p 2 ++ accepted_line 2 4 6;
      due = bytes "stroke 0 key C4 bell 0 ends 2..7 response 2..7 due 7\nstroke 1 key D5 bell 1 ends 4..6 response 4..6 due 6\naccepted strokes 2 states 4 hold 6\n";
    }
    ∷ record { given = refused_line 4 5; due = bytes "refused 4 at 5\n" }
    ∷ record { given = refused_line 13 1; due = bytes "refused 13 level 1\n" }
    ∷ record { given = late_line 0 6 7; due = bytes "refused 14 stroke 0 ends 6..7\n" }
    ∷ record { given = accepted_line 0 1 0; due = bytes "accepted strokes 0 states 1 hold 0\n" }
    ∷ record {
      given = stroke_line (stroke 63 119 95 3599999 3600000 0 10 3600000);
      due = bytes "stroke 63 key B8 bell 95 ends 3599999..3600000 response 0..10 due 3600000\n";
    }
    ∷ record { given = bell_line (record { number = 3; strokes = 4; hold = 88 }); due = bytes "bell 3 strokes 4 hold 88\n" }
    ∷ record { given = bell_line (record { number = 95; strokes = 64; hold = 320000 }); due = bytes "bell 95 strokes 64 hold 320000\n" }
    ∷ record { given = key_text 12; due = bytes "C0" }
    ∷ record { given = key_text 61; due = bytes "C#4" }
    ∷ record { given = key_text 70; due = bytes "A#4" }
    -- the keys 60 to 72
    ∷ record { given = lines (λ i. key_text (60 + i)) 13; due = bytes "C4C#4D4D#4E4F4F#4G4G#4A4A#4B4C5" }
    ∷ record { given = decimal 18446744073709551615; due = bytes "18446744073709551615" }
    ∷ []

abbrev given : List Example → List (List ℕ)
given [] = []
given (x ∷ xs) = x.given ∷ given xs

abbrev due : List Example → List (List ℕ)
due [] = []
due (x ∷ xs) = x.due ∷ due xs

pub as_due : given examples ≡ due examples
unfolding decimal decimal_within key_text labelled ranged origin_text times_text stroke_line bell_line lines accepted_line refused_line late_line
as_due = refl
