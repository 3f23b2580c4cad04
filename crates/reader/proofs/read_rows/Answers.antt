-- The header, then the shift, then the body.
use mathlib.Core.Path.{◌≡◌, refl, sym, ap, subst, ◌∙◌}
use native.Mathlib.Omega.{arith}
use Rattle.format.specs.Bytes.{number}
use Rattle.format.specs.Layout.{is_version, layout}
use Rattle.format.specs.Outcome.{ok}
use Rattle.format.specs.Reading.{reading}
use Rattle.fields.specs.internal.Layouts.{layout_of}
use Rattle.records.specs.internal.Answers.{reading_of}
use Rattle.reader.specs.internal.Parts.{header_of, shift_of}
use Rattle.reader.specs.internal.Filling.{Filled}
use Rattle.records.proofs.Outcomes.{was_ok, was_refused, passed_on}
use Rattle.reader.proofs.FileReading.{header_says, shift_says, header_stops, shift_stops, shift_passed, refused_filled}
use Rattle.reader.proofs.read_rows.Goals as goal
use Rattle.reader.proofs.read_rows.Goals.{After-of-l, In_ok-read_header, In_ok-read_shift}

-- the header passes, and says so much
passed : (c : In_ok-read_header) → (u : Unit {0}) × (header_of c.args.file.now ≡ ok u)
passed c = was_ok (header_of c.args.file.now) (sym c.read_header.ensures ∙ c.in_ok-read_header.was)

-- the layout is that of the file's version
laid : (c : After-of-l) → (layout_of c.of-l.result) ≡ layout (number 1 0 c.args.file.now)
laid c = c.of-l.ensures ∙ ap layout c.byte.ensures.0

-- the shift passes
shifted : (c : In_ok-read_shift) → (u : Unit {0}) × (shift_of (layout_of c.of-l.result) c.args.file.now ≡ ok u)
shifted c =
    was_ok (shift_of (layout_of c.of-l.result) c.args.file.now) (sym c.read_shift.ensures ∙ c.in_ok-read_shift.was)

pub returns-in_err-read_header : goal.returns-in_err-read_header
returns-in_err-read_header c = let a = c.args in
    let s = a.file.now in
    let e = was_refused (header_of s) _ (sym c.read_header.ensures ∙ c.in_err-read_header.was) in
    let r = refused_filled (reading s) _ _ a.phrase.now (header_stops s (layout (number 1 0 s)) refl _ _ e) in
    record { value = passed_on c.from_residual.ensures.1 ∙ r.0; filled = r.1 }

pub byte-requires : goal.byte-requires
byte-requires c = omega (arith, (header_says c.args.file.now (passed c).0 (passed c).1).1)

pub of-l-requires : goal.of-l-requires
of-l-requires c = ap is_version c.byte.ensures.0 ∙ (header_says c.args.file.now (passed (goal.at.of-l-requires c).In_ok-read_header).0 (passed (goal.at.of-l-requires c).In_ok-read_header).1).0

pub returns-in_err-read_shift : goal.returns-in_err-read_shift
returns-in_err-read_shift c = let a = c.args in
    let l = (layout_of c.of-l.result) in
    let e = was_refused (shift_of l c.args.file.now) _ (sym c.read_shift.ensures ∙ c.in_err-read_shift.was) in
    let stops = shift_stops c.args.file.now l (laid (goal.at.returns-in_err-read_shift c).After-of-l) (passed (goal.at.returns-in_err-read_shift c).In_ok-read_header).0 (passed (goal.at.returns-in_err-read_shift c).In_ok-read_header).1 _ _ e in
    let r = refused_filled (reading c.args.file.now) _ _ a.phrase.now stops in
    record { value = passed_on c.from_residual-in_err-read_shift.ensures.1 ∙ r.0; filled = r.1 }

pub read_body-requires : goal.read_body-requires
read_body-requires c = let s = shifted (goal.at.read_body-requires c).In_ok-read_shift in
    (shift_says (layout_of c.of-l.result) c.args.file.now s.0 s.1, c.requires)

pub returns : goal.returns
returns c = let body = c.read_body in
    let s = shifted (goal.at.returns c).In_ok-read_shift in
    let q = shift_passed c.args.file.now (layout_of c.of-l.result) (laid (goal.at.returns c).After-of-l) (passed (goal.at.returns c).In_ok-read_header).0 (passed (goal.at.returns c).In_ok-read_header).1 s.0 s.1 in
    record { value = body.ensures.value ∙ ap reading_of (sym q); filled = subst (λ o. Filled o body.new.phrase) (sym q) body.ensures.filled }
