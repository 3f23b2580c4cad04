-- Each way out is a case of `shift_of`.
use mathlib.Core.Path.{◌≡◌, sym, ap, ◌∙◌}
use Rattle.format.specs.Rules.{is_shift}
use Rattle.format.specs.Reading.{shift_in}
use Rattle.fields.specs.internal.Layouts.{layout_of}
use Rattle.records.specs.internal.Answers.{reading_of}
use Rattle.reader.proofs.FileReading.{no_shift, bad_shift, shift_read_holds}
use Rattle.reader.proofs.read_shift.Goals as goal
use Rattle.reader.proofs.read_shift.Goals.{After-is_shift}

tested : (c : After-is_shift) → let a = c.args in let l = layout_of a.l in c.is_shift.result ≡ is_shift l (shift_in l a.file.now)
tested c = c.is_shift.ensures ∙ ap (is_shift (layout_of c.args.l)) c.shift_in.ensures.0

pub returns-then-file-l : goal.returns-then-file-l
returns-then-file-l c = let a = c.args in
    c.refuse.ensures ∙ ap reading_of (sym (no_shift (layout_of a.l) a.file.now c.if-file-l.true))

pub returns-then-not-is_shift : goal.returns-then-not-is_shift
returns-then-not-is_shift c = let a = c.args in
    let wrong = sym (tested (goal.at.returns-then-not-is_shift c).After-is_shift) ∙ c.if-not-is_shift.true in
    c.refuse-then-not-is_shift.ensures ∙ ap reading_of (sym (bad_shift (layout_of a.l) a.file.now c.if-file-l.false wrong))

pub returns : goal.returns
returns c = let a = c.args in
    let right = sym (tested (goal.at.returns c).After-is_shift) ∙ c.if-not-is_shift.false in
    ap reading_of (sym (shift_read_holds (layout_of a.l) a.file.now c.if-file-l.false right))
