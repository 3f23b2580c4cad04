-- The rows are read into their places, and the table is completed, or cleared on a refusal.
use mathlib.Core.Path.{◌≡◌, refl, sym, ap, subst, ◌∙◌}
use Prim.Native.Nat.{◌≤◌, ◌<◌}
use native.Mathlib.Omega.{arith}
use mathlib.Core.Bool.{true}
use lib.ListN.{length, replicate}
use Rattle.model.specs.Limits.{most_jobs}
use Rattle.format.specs.Bytes.{number}
use Rattle.format.specs.Layout.{is_version, layout, cores_at, most_bells}
use Rattle.format.specs.Outcome.{ok}
use Rattle.format.specs.Phrase.{Phrase}
use Rattle.format.specs.Reading.{reading}
use Rattle.fields.specs.internal.Layouts.{layout_of}
use Rattle.rows.specs.PhraseTable.{phrase_words, phrase_table}
use Rattle.reader.specs.internal.Filling.{Filled, completed}
use Rattle.records.proofs.Outcomes.{was_ok, was_refused}
use Rattle.reader.proofs.FileReading.{header_says, parts_of_read, CountsRead, counts_read}
use Rattle.reader.proofs.Completing.{completed_table}
use Rattle.reader.proofs.read.Goals as goal
use Rattle.reader.proofs.read.Goals.{After-of-l, After-read_rows, In_default}

-- the table still has its length
room : (c : After-read_rows) → length c.read_rows.new.phrase ≡ phrase_words
room c = c.read_rows.auto.phrase ∙ omega arith

-- the phrase that was read
was_read : (c : In_default) → (x : Phrase) × (reading c.args.file.now ≡ ok x)
was_read c = was_ok (reading c.args.file.now) (sym c.read_rows.ensures.value ∙ c.in_default.is)

-- the file has a version, and reaches past its cores
begins : (c : In_default) → (is_version (number 1 0 c.args.file.now) ≡ true) × (cores_at < length c.args.file.now)
begins c =
    let x = was_read c in
    let (u, head, body) = parts_of_read c.args.file.now (layout (number 1 0 c.args.file.now)) refl x.0 x.1 in
    header_says c.args.file.now u head

-- the layout is that of the version
laid : (c : After-of-l) → layout_of c.of-l.result ≡ layout (number 1 0 c.args.file.now)
laid c = c.of-l.ensures ∙ ap layout c.byte.ensures.0

-- what the file says of its counts
numbers : (c : After-of-l) → CountsRead c.of-l.result c.args.file.now (was_ok (reading c.args.file.now) (sym c.read_rows.ensures.value ∙ c.in_default.is)).0
numbers c =
    let x = (was_ok (reading c.args.file.now) (sym c.read_rows.ensures.value ∙ c.in_default.is)) in
    let (u, head, body) = parts_of_read c.args.file.now (layout_of c.of-l.result) (laid c) x.0 x.1 in
    counts_read c.of-l.result c.args.file.now x.0 body

pub returns-in-Err : goal.returns-in-Err
returns-in-Err c = let s = c.args.file.now in
    let rows = c.read_rows in
    let e = was_refused (reading s) _ (sym rows.ensures.value ∙ c.in-Err.is) in
    record { value = sym c.in-Err.is ∙ rows.ensures.value; phrase_after = c.fill.ensures.after (λ y e. e) ∙ ap (λ n. replicate n 0) (room (goal.at.returns-in-Err c).After-read_rows) ∙ sym (ap phrase_table e) }

pub byte-requires : goal.byte-requires
byte-requires c = omega (arith, (begins c).1)

pub of-l-requires : goal.of-l-requires
of-l-requires c = ap is_version c.byte.ensures.0 ∙ (begins (goal.at.of-l-requires c).In_default).0

pub counts_in-requires : goal.counts_in-requires
counts_in-requires c = let n = numbers (goal.at.counts_in-requires c).After-of-l in
    (n.bells.0, n.bells.1, n.notes.0)

pub complete-requires : goal.complete-requires
complete-requires c = let n = numbers (goal.at.complete-requires c).After-of-l in
    let e = sym c.counts_in.ensures in
    (room (goal.at.complete-requires c).After-read_rows, subst (λ k. k.bells ≤ most_bells) e n.bells.1, subst (λ k. k.notes ≤ most_jobs) e n.notes.1)

pub returns : goal.returns
unfolding was_read
returns c = let rows = c.read_rows in
    let t = rows.new.phrase in
    let x = was_read (goal.at.returns c).In_default in
    let filled = subst (λ o. Filled o t) x.1 rows.ensures.filled in
    let table = completed_table x.0 t (room (goal.at.returns c).After-read_rows) filled in
    let counts = c.counts_in.ensures ∙ (numbers (goal.at.returns c).After-of-l).counts in
    record { value = sym c.in_default.is ∙ rows.ensures.value; phrase_after = c.complete.ensures ∙ ap (λ k. completed k t) counts ∙ table ∙ sym (ap phrase_table x.1) }
