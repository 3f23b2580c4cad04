-- The lines of strokes, from the table of their phrase and arrays of their bounds. Assumes nothing.
use Rattle.std.specs.Prelude.{ℕ, ◌≤◌, ◌<◌, List, get_or}
use Rattle.format.specs.Rules.{lowest_key}
use Rattle.format.specs.Layout.{most_bells}
use Rattle.format.specs.Phrase.{transposed}
use Rattle.rows.specs.NoteRow.{key_word, deadline_word, struck_word}
use Rattle.rows.specs.PhraseTable.{shift_word}
use Rattle.rows.specs.internal.Handed.{note_word}
use Rattle.lines.specs.Lines.{stroke_line, lines}
use Rattle.lines.specs.declared.lines.Stroke.{Stroke}

-- the key of note i, moved by the shift
abbrev pub key_in : List ℕ → ℕ → ℕ
key_in t i = transposed (note_word t i key_word) (get_or t shift_word 0)

-- the stroke of note i, with the bounds that these arrays hold
abbrev pub stroke_in : List ℕ → List ℕ → List ℕ → List ℕ → List ℕ → ℕ → Stroke
stroke_in t earliest latest best worst i =
    record {
      number = i;
      key = key_in t i;
      bell = note_word t i struck_word;
      earliest = get_or earliest i 0;
      latest = get_or latest i 0;
      best = get_or best i 0;
      worst = get_or worst i 0;
      deadline = note_word t i deadline_word;
    }

-- the lines of k strokes
abbrev pub strokes_text : List ℕ → List ℕ → List ℕ → List ℕ → List ℕ → ℕ → List ℕ
strokes_text t earliest latest best worst = lines (λ i. stroke_line (stroke_in t earliest latest best worst i))

-- the key of note i and the shift are bytes
abbrev pub SmallKey : List ℕ → ℕ → Type 0
SmallKey t i = (note_word t i key_word < 256) × (get_or t shift_word 0 < 256)

-- no key is below the lowest that a bell sounds for, every bell that is struck has a row, and keys and shift are bytes
abbrev pub Keyed : List ℕ → ℕ → Type 0
Keyed t k = (i : ℕ) → i < k → (lowest_key ≤ key_in t i) × (note_word t i struck_word < most_bells) × SmallKey t i
