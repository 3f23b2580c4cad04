-- The file of a phrase, and the writing of a phrase: its file, or the number and the place of the first refusal. Assumes nothing.
use Rattle.std.specs.Prelude.{ℕ, ◌+◌, List, [], ◌∷◌, ◌++◌, leb, length, drop}
use Rattle.model.specs.Refusals.{short_file}
use Rattle.format.specs.Bytes.{digits, fields_file, records}
use Rattle.format.specs.Layout.{Layout, layout, head_widths, bell_widths, note_widths, note_length}
use Rattle.format.specs.Outcome.{Outcome, ok, refused, ◌>>◌, require}
use Rattle.format.specs.Phrase.{Bell, Note, Phrase}
use Rattle.format.specs.Rules.{rules}

abbrev pub bell_fields : Bell → List ℕ
bell_fields b = b.written ∷ b.transposition ∷ b.least_execution ∷ b.most_execution ∷ b.rest ∷ b.priority ∷ []

unfoldable pub bell_file : Layout → Bell → List ℕ
unfolding fields_file
bell_file l b = fields_file (bell_widths l) (bell_fields b)

abbrev pub note_fields : Layout → Note → List ℕ
note_fields l n = note_length l (length n.listed) ∷ n.key ∷ n.earliest_release ∷ n.latest_release ∷ n.deadline ∷ n.listed

unfoldable pub note_file : Layout → Note → List ℕ
unfolding note_length fields_file
note_file l n = fields_file (note_widths l (length n.listed)) (note_fields l n)

-- what follows the header: the bells, the number of notes, the notes
unfoldable pub body : Layout → Phrase → List ℕ
unfolding digits records bell_file note_file
body l x = records (bell_file l) x.bells ++ (digits l.count_bytes (length x.notes) ++ records (note_file l) x.notes)

-- the count counts the cores, the shift, the number of bells, and the body
abbrev pub head_fields : Layout → Phrase → List ℕ
head_fields l x = x.version ∷ (1 + l.shift_bytes + 1 + length (body l x)) ∷ x.cores ∷ x.shift ∷ length x.bells ∷ []

unfoldable pub written_by : Layout → Phrase → List ℕ
unfolding fields_file body
written_by l x = fields_file (head_widths l) (head_fields l x) ++ body l x

unfoldable pub written : Phrase → List ℕ
unfolding layout written_by
written x = written_by (layout x.version) x

-- Into so many bytes of room: the rules of reading in its own order, on fields that may be wider than their bytes, and then the room.
unfoldable pub writing : Phrase → ℕ → Outcome (List ℕ)
unfolding rules written
writing x room = do
  rules x
  require (leb (length (written x)) room) short_file 0
  ok (written x)

-- what a buffer holds afterwards: the file, and after it what was there; all that was there on a refusal
abbrev pub leaves : Outcome (List ℕ) → List ℕ → List ℕ
leaves (ok s) before = s ++ drop (length s) before
leaves (refused n at) before = before
