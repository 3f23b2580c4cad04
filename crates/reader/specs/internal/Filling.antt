-- The table of a phrase with the rows of what was read, and once it is complete. Assumes nothing.
use Rattle.std.specs.Prelude.{ℕ, ◌-◌, ◌*◌, ◌≤◌, List, [], ◌∷◌, ◌++◌, length, take, drop, replicate}
use Rattle.model.specs.Limits.{most_jobs}
use Rattle.format.specs.Bytes.{number}
use Rattle.format.specs.Layout.{Layout, cores_at, bell_count_at, note_count_at, most_bells}
use Rattle.format.specs.Outcome.{Outcome, ok, refused}
use Rattle.format.specs.Phrase.{Bell, Note, Phrase}
use Rattle.format.specs.Reading.{shift_in}
use Rattle.rows.specs.BellRow.{bell_words}
use Rattle.rows.specs.NoteRow.{note_words}
use Rattle.rows.specs.PhraseTable.{bell_rows_at, note_rows_at}
use Rattle.records.specs.internal.Filling.{HoldsBells, HoldsNotes}
use Rattle.reader.specs.declared.Counts.{Counts}

abbrev pub bells_read : Outcome Phrase → List Bell
bells_read (ok x) = x.bells
bells_read (refused n at) = []

abbrev pub notes_read : Outcome Phrase → List Note
notes_read (ok x) = x.notes
notes_read (refused n at) = []

abbrev pub shift_read : Outcome Phrase → ℕ
shift_read (ok x) = x.shift
shift_read (refused n at) = 0

-- the table has the rows of the phrase that was read, and room for them
pub record Filled (o : Outcome Phrase) (t : List ℕ) : Type 0 where
  pub few_bells : length (bells_read o) ≤ most_bells
  pub few_notes : length (notes_read o) ≤ most_jobs
  pub bells_there : HoldsBells (bells_read o) t
  pub notes_there : HoldsNotes (shift_read o) (bells_read o) (notes_read o) t

-- ---- the header, and zeros after the rows

-- the counts that a file gives, and its shift
abbrev pub counts_in : Layout → List ℕ → Counts
counts_in l s =
    record {
      version = number 1 0 s;
      cores = number 1 cores_at s;
      shift = shift_in l s;
      bells = number 1 (bell_count_at l) s;
      notes = number 1 (note_count_at l (number 1 (bell_count_at l) s)) s;
    }

abbrev pub headed : Counts → List ℕ
headed c = c.version ∷ c.cores ∷ c.bells ∷ c.notes ∷ c.shift ∷ []

-- the first n rows of a part of the table for so many, and zeros after them
abbrev pub rows_kept : ℕ → ℕ → ℕ → List ℕ → List ℕ
rows_kept n most w t = take (n * w) t ++ replicate (most * w - n * w) 0

-- the table with this header, and the rows that it counts
abbrev pub completed : Counts → List ℕ → List ℕ
completed c t = headed c ++ (rows_kept c.bells most_bells bell_words (drop bell_rows_at t) ++ rows_kept c.notes most_jobs note_words (drop note_rows_at t))
