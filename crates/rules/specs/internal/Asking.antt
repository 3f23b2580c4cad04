-- What the writer asks of a phrase, in the parts in which it asks it, and what it keeps in hand meanwhile. Assumes nothing.
use Rattle.std.specs.Prelude.{ℕ, ◌+◌, ◌≡◌, Bool, false, List, leb, length, get_or}
use Rattle.model.specs.Refusals.{wrong_note_length}
use Rattle.format.specs.Bytes.{records}
use Rattle.format.specs.Layout.{Layout, first, most_listed, note_count_at}
use Rattle.format.specs.Outcome.{Outcome, ◌>>=◌, ◌>>◌, require}
use Rattle.format.specs.Phrase.{Bell, Note, Phrase, find_sounding, is_some}
use Rattle.format.specs.Rules.{note_rules, all_bells, all_notes}
use Rattle.format.specs.Writing.{note_file}

-- each key has a mark whether the bells sound for it
abbrev pub Sounded : List Bell → List Bool → Type 0
Sounded bells marks = (key : ℕ) → get_or marks key false ≡ is_some (find_sounding key bells)

-- what the rules ask of one note, at its place, with its own number, under a shift
abbrev pub note_asked : ℕ → List Bell → ℕ → ℕ → Note → Outcome Note
note_asked shift bells own at n = ◌>>◌ (require (leb (length n.listed) most_listed) wrong_note_length at) (note_rules shift bells own at n)

-- what they ask of the bells and of the notes
abbrev pub body_asked : Layout → Phrase → Outcome (List Note)
body_asked l x = ◌>>=◌ (all_bells l x.bells) (λ bells. all_notes l x.shift bells x.notes (note_count_at l (length x.bells)))

-- where notes end that begin at a place; they are the same in every version
abbrev pub notes_end : ℕ → List Note → ℕ
notes_end start notes = start + length (records (note_file first) notes)

-- where the file of a phrase ends
abbrev pub body_end : Layout → Phrase → ℕ
body_end l x = notes_end (note_count_at l (length x.bells) + l.count_bytes) x.notes
