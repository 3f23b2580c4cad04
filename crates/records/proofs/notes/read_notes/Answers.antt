-- Each way out is a case of `notes_in`.
use mathlib.Core.Path.{◌≡◌, sym, ap, ◌∙◌}
use Prim.Native.Nat.{◌+◌}
use native.Mathlib.Omega.{arith}
use mathlib.Core.List.{[]}
use Rattle.model.specs.Refusals.{wrong_end, too_many_notes}
use Rattle.format.specs.Bytes.{number}
use Rattle.format.specs.Layout.{first, note_count_at}
use Rattle.format.specs.Outcome.{refused}
use Rattle.format.specs.Reading.{notes_from}
use Rattle.fields.specs.internal.Layouts.{layout_of}
use Rattle.rows.proofs.BellRow.{table_begins}
use Rattle.rows.proofs.NoteRow.{begins_none}
use Rattle.records.specs.internal.Filling.{list_of, bells_held, HoldsNotes}
use Rattle.records.proofs.Outcomes.{carried}
use Rattle.records.proofs.NoteReading.{no_count, bad_count, right_count}
use Rattle.records.proofs.notes.read_notes.Goals as goal

pub returns-then-file-at : goal.returns-then-file-at
returns-then-file-at c = let a = c.args in
    let pre = c.requires in
    let t = a.phrase.now in
    let s = a.file.now in
    let bs = bells_held t a.n in
    let e = c.note_count_at-at.ensures in
    let r = carried (λ o. HoldsNotes a.shift bs (list_of o) t) (no_count a.l s a.shift bs (note_count_at (layout_of a.l) a.n) (omega (arith, e)) ∙ ap (refused wrong_end) (sym e)) (begins_none a.shift bs t) in
    record { value = c.refuse.ensures ∙ r.0; holds_bells = table_begins t a.n pre.4; holds_notes = r.1 }

pub returns-then-count-gt-MOST_JOBS : goal.returns-then-count-gt-MOST_JOBS
returns-then-count-gt-MOST_JOBS c = let a = c.args in
    let pre = c.requires in
    let t = a.phrase.now in
    let s = a.file.now in
    let bs = bells_held t a.n in
    let e = c.note_count_at-at.ensures in
    let k = c.byte-count.ensures.0 ∙ ap (λ at. number 1 at s) e in
    let r = carried (λ o. HoldsNotes a.shift bs (list_of o) t) (bad_count a.l s a.shift bs (note_count_at (layout_of a.l) a.n) (omega (arith, e)) (omega (arith, k)) ∙ ap (refused too_many_notes) (sym e)) (begins_none a.shift bs t) in
    record { value = c.refuse-then-count-gt-MOST_JOBS.ensures ∙ r.0; holds_bells = table_begins t a.n pre.4; holds_notes = r.1 }

pub returns : goal.returns
returns c = let a = c.args in
    let s = a.file.now in
    let bs = bells_held a.phrase.now a.n in
    let at = note_count_at (layout_of a.l) a.n in
    let e = c.note_count_at-at.ensures in
    let k = c.byte-count.ensures.0 ∙ ap (λ m. number 1 m s) e in
    let w : notes_from first s a.shift bs (number 1 at s) (at + 1) [] ≡ notes_from first s a.shift bs c.byte-count.result (c.note_count_at-at.result + 1) [] =
    λ i. notes_from first s a.shift bs (sym k i) (sym e i + 1) [] in
    let q = carried (λ o. HoldsNotes a.shift bs (list_of o) c.notes_from.new.phrase) (right_count a.l s a.shift bs at (omega (arith, e)) (omega (arith, k)) ∙ w) c.notes_from.ensures.holds_notes in
    record { value = c.notes_from.ensures.value ∙ q.0; holds_bells = c.notes_from.ensures.holds_bells; holds_notes = q.1 }
