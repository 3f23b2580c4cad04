use mathlib.Core.Path.{◌≡◌}
use Prim.Native.Nat.{◌+◌, ◌*◌, ◌≤◌}
use mathlib.Core.List.{[]}
use lib.ListN.{length, take, drop}
use Rattle.format.specs.Bytes.{records}
use Rattle.format.specs.Layout.{first}
use Rattle.format.specs.Rules.{notes_rules}
use Rattle.format.specs.Writing.{note_file}
use Rattle.rows.specs.NoteRow.{notes_of_rows}
use Rattle.rows.specs.PhraseTable.{note_rows_at, phrase_of}
use Rattle.rules.proofs.notes.notes_from.Given as goal

abbrev pub invariant-loop-i : goal.invariant-loop-i
invariant-loop-i l = (l.at ≡ l.start + length (records (note_file first) (take l.i (notes_of_rows (drop note_rows_at l.phrase) l.count))))
    × (l.at ≤ l.start + l.i * 18)
    × (notes_rules first (phrase_of l.phrase).shift (phrase_of l.phrase).bells (drop l.i (notes_of_rows (drop note_rows_at l.phrase) l.count)) l.at (take l.i (notes_of_rows (drop note_rows_at l.phrase) l.count))
    ≡ notes_rules first (phrase_of l.phrase).shift (phrase_of l.phrase).bells (notes_of_rows (drop note_rows_at l.phrase) l.count) l.start [])
