-- The texts of files, what a report leaves in a buffer, and its result, at the borders: a buffer that the text fills, one a byte shorter, and one of none.
-- Worked out by hand. Assumes nothing.
use Rattle.std.specs.Prelude.{ℕ, ◌≡◌, refl, List, [], ◌∷◌, ◌++◌, map, set, replicate}
use Rattle.model.specs.Folds.{sum}
use Rattle.model.specs.Exploration.{analysis}
use Rattle.format.specs.Reading.{reading}
use Rattle.format.proofs.examples.Files.{file_p}
use Rattle.format.proofs.examples.Shifts.{file_s}
use Rattle.text.specs.Bytes.{bytes}
use Rattle.text.specs.Decimal.{decimal_within}
use Rattle.checking.specs.Checking.{per_job, Values, values_of}
use Rattle.checking.proofs.examples.Checks.{version_nine, late_phrase, called_later, exchanged, no_stroke, Case, lent, dues, given, alone, both, values}
use Rattle.checking.specs.declared.Answer.TheVariants.{Accepted, Refused, Late}
use Rattle.checking.specs.declared.Checked.{Checked}
use Rattle.lines.specs.Lines.{stroke_line, bell_line, lines, accepted_line, refused_line, late_line}
use Rattle.report.specs.Report.{text_of, delivered, length_in, reported_in, reported_of, answer_in}
use Rattle.report.specs.declared.Reported.{Reported}

-- ---- texts

-- P's text: 189 bytes
abbrev text_p : List ℕ
text_p =
    bytes "stroke 0 key C4 bell 0 ends 2..7 response 2..7 due 7\nstroke 1 key D5 bell 1 ends 4..6 response 4..6 due 6\nbell 0 strokes 1 hold 2\nbell 1 strokes 1 hold 4\naccepted strokes 2 states 4 hold 6\n"

-- P with bell 0 holding for 2 or 3, and due times of 8 and 9. Level 0: twc 0; job 0 ends 2..3: {0} [2,3]; job 1, thigh 5, ends 4..4: {1} [4,4]. Level 1:
-- {0}: twc 3; job 1 ends 6..7: [6,7]; {1}: twc 5; job 0 ends 6..8: [6,8]. They merge.
abbrev longer_hold : List ℕ
longer_hold = set (set (set file_p 12 0x03) 35 0x08) 49 0x09

-- Four bells, of keys 60, 62, 63 and 64, which hold for 1..2, 1..9, 1..9 and 3..4; strokes on bells 3, 0 and 3, called at 0, 10 and 20 and due at 10, 20 and
-- 30. Each is done before the next is called: they end at 3..4, 11..12 and 23..24, and every level has one state.
abbrev falling_bells : List ℕ
falling_bells =
    0x01
    ∷ 0x00 ∷ 0x00 ∷ 0x00 ∷ 0x49
    ∷ 0x01
    ∷ 0x04
    ∷ 0x3C ∷ 0x00 ∷ 0x00 ∷ 0x01 ∷ 0x00 ∷ 0x02 ∷ 0x01
    ∷ 0x3E ∷ 0x00 ∷ 0x00 ∷ 0x01 ∷ 0x00 ∷ 0x09 ∷ 0x01
    ∷ 0x3F ∷ 0x00 ∷ 0x00 ∷ 0x01 ∷ 0x00 ∷ 0x09 ∷ 0x01
    ∷ 0x40 ∷ 0x00 ∷ 0x00 ∷ 0x03 ∷ 0x00 ∷ 0x04 ∷ 0x01
    ∷ 0x03
    ∷ 0x0D ∷ 0x40 ∷ 0x00 ∷ 0x00 ∷ 0x00 ∷ 0x00 ∷ 0x00 ∷ 0x00 ∷ 0x00 ∷ 0x00 ∷ 0x00 ∷ 0x00 ∷ 0x00 ∷ 0x0A
    ∷ 0x0D ∷ 0x3C ∷ 0x00 ∷ 0x00 ∷ 0x00 ∷ 0x0A ∷ 0x00 ∷ 0x00 ∷ 0x00 ∷ 0x0A ∷ 0x00 ∷ 0x00 ∷ 0x00 ∷ 0x14
    ∷ 0x0D ∷ 0x40 ∷ 0x00 ∷ 0x00 ∷ 0x00 ∷ 0x14 ∷ 0x00 ∷ 0x00 ∷ 0x00 ∷ 0x14 ∷ 0x00 ∷ 0x00 ∷ 0x00 ∷ 0x1E
    ∷ []

abbrev strokes_of_them : List ℕ
strokes_of_them =
    bytes "stroke 0 key E4 bell 3 ends 3..4 response 3..4 due 10\nstroke 1 key C4 bell 0 ends 11..12 response 1..2 due 20\nstroke 2 key E4 bell 3 ends 23..24 response 3..4 due 30\n"

abbrev pub texts : List (Case (List ℕ))
texts =
    lent file_p 32 text_p
    ∷ lent file_p 31 (bytes "refused 13 level 1\n")
    ∷ lent late_phrase 32 (bytes "refused 14 stroke 0 ends 6..7\n")
    ∷ lent version_nine 32 (bytes "refused 1 at 0\n")
    -- stroke 0 is called from 1 on
    ∷ lent called_later 32
    (bytes "stroke 0 key C4 bell 0 ends 6..7 response 5..6 due 7\nstroke 1 key D5 bell 1 ends 4..4 response 4..4 due 6\nbell 0 strokes 1 hold 2\nbell 1 strokes 1 hold 4\naccepted strokes 2 states 3 hold 6\n")
    -- the last line adds up the longest holds
    ∷ lent longer_hold 32
    (bytes "stroke 0 key C4 bell 0 ends 2..8 response 2..8 due 8\nstroke 1 key D5 bell 1 ends 4..7 response 4..7 due 9\nbell 0 strokes 1 hold 3\nbell 1 strokes 1 hold 4\naccepted strokes 2 states 4 hold 7\n")
    -- S: keys 64 and 78 as written (E4 and F#5), with a shift of -4: heard as those of P
    ∷ lent file_s 32 text_p
    -- keys 60 and 46 (C4 and A#2), with a shift of 14
    ∷ lent exchanged 32
    (bytes "stroke 0 key D5 bell 1 ends 6..9 response 6..9 due 9\nstroke 1 key C4 bell 0 ends 2..2 response 2..2 due 6\nbell 0 strokes 1 hold 2\nbell 1 strokes 1 hold 4\naccepted strokes 2 states 3 hold 6\n")
    ∷ lent (set file_s 6 0x19) 32 (bytes "refused 19 at 6\n")
    -- bells rising, and none for those without strokes
    ∷ lent falling_bells 32 (strokes_of_them ++ bytes "bell 0 strokes 1 hold 2\nbell 3 strokes 2 hold 8\naccepted strokes 3 states 4 hold 10\n")
    -- bells, and no stroke
    ∷ lent no_stroke 8 (bytes "accepted strokes 0 states 1 hold 0\n")
    ∷ []

pub as_written : given text_of texts ≡ dues texts
unfolding reading analysis stroke_line bell_line lines accepted_line refused_line late_line sum decimal_within
as_written = refl

-- ---- buffers

-- a text of three bytes, and buffers of five, three, two and none
abbrev three : List ℕ
three = 1 ∷ 2 ∷ 3 ∷ []

abbrev buffers : List (List ℕ)
buffers = (9 ∷ 9 ∷ 9 ∷ 9 ∷ 9 ∷ []) ∷ (9 ∷ 9 ∷ 9 ∷ []) ∷ (9 ∷ 9 ∷ []) ∷ [] ∷ []

pub left_in_them : map (delivered three) buffers ≡ (1 ∷ 2 ∷ 3 ∷ 9 ∷ 9 ∷ []) ∷ (1 ∷ 2 ∷ 3 ∷ []) ∷ (9 ∷ 9 ∷ []) ∷ [] ∷ []
left_in_them = refl

pub lengths_in_them : map (length_in three) buffers ≡ 3 ∷ 3 ∷ 0 ∷ 0 ∷ []
lengths_in_them = refl

-- the check's result with the length, or refusal 15 with none
abbrev reported : Checked → ℕ → Reported
reported r n = record { checked = r; length = n }

pub results_of_them :
    map (reported_in (alone (Late 3 6 7)) three) buffers
    ≡ reported (alone (Late 3 6 7)) 3 ∷ reported (alone (Late 3 6 7)) 3 ∷ reported (alone (Refused 15 0)) 0 ∷ reported (alone (Refused 15 0)) 0 ∷ []
results_of_them = refl

-- ---- reports

-- a file, the length of the table and of the buffer; the result, what document 01 writes of it, and the buffer, whose bytes were 7
pub record Report : Type 0 where
  pub file : List ℕ
  pub words : ℕ
  pub room : ℕ
  pub result : Reported
  pub values : Values
  pub left : List ℕ

abbrev report : List ℕ → ℕ → ℕ → Reported → Values → List ℕ → Report
report f n m r w l = record { file = f; words = n; room = m; result = r; values = w; left = l }

abbrev short : List ℕ → ℕ → ℕ → Report
short f n m = report f n m (reported (alone (Refused 15 0)) 0) (values 15 0 0 0) (replicate m 7)

abbrev accepting : Checked
accepting = record { answer = Accepted; jobs = 2; earliest = both 2 4; latest = both 7 6; best = both 2 4; worst = both 7 6; states = 4 }

abbrev pub reports : List Report
reports =
    report file_p 32 191 (reported accepting 189) (values 0 0 0 0) (text_p ++ 7 ∷ 7 ∷ [])
    ∷ report file_p 32 189 (reported accepting 189) (values 0 0 0 0) text_p
    ∷ short file_p 32 188
    -- room for the strokes' lines and the last, but not for those of the bells
    ∷ short file_p 32 141
    ∷ short file_p 32 10
    ∷ short file_p 32 0
    -- the line of a refusal, and the same in a buffer a byte shorter
    ∷ report file_p 31 19 (reported (alone (Refused 13 1)) 19) (values 13 1 0 0) (bytes "refused 13 level 1\n")
    ∷ short file_p 31 18
    ∷ report late_phrase 32 30 (reported (alone (Late 0 6 7)) 30) (values 14 0 6 7) (bytes "refused 14 stroke 0 ends 6..7\n")
    ∷ short late_phrase 32 29
    ∷ report version_nine 0 15 (reported (alone (Refused 1 0)) 15) (values 1 0 0 0) (bytes "refused 1 at 0\n")
    ∷ short version_nine 0 14
    ∷ []

pub as_reported : map (λ (x : Report). reported_of (reading x.file) x.words (replicate x.room 7)) reports ≡ map (λ (x : Report). x.result) reports
unfolding reading analysis per_job stroke_line bell_line lines accepted_line refused_line late_line sum decimal_within
as_reported = refl

pub as_valued : map (λ (x : Report). values_of (answer_in (reading x.file) x.words (replicate x.room 7))) reports ≡ map (λ (x : Report). x.values) reports
unfolding reading analysis stroke_line bell_line lines accepted_line refused_line late_line sum decimal_within
as_valued = refl

pub as_left :
    map (λ (x : Report). delivered (text_of (reading x.file) x.words) (replicate x.room 7)) reports ≡ map (λ (x : Report). x.left) reports
unfolding reading analysis stroke_line bell_line lines accepted_line refused_line late_line sum decimal_within
as_left = refl
