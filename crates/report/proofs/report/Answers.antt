-- `report` meets its contract: the file is checked, its text written where it has room.
use Prim.Native.Nat.{ℕ}
use mathlib.Core.Path.{ap, ◌∙◌}
use mathlib.Core.List.{List}
use native.Mathlib.Omega.{arith}
use lib.ListN.{length}
use Rattle.format.specs.Reading.{reading}
use Rattle.format.specs.Bytes.{AreBytes}
use Rattle.checking.specs.Checking.{verdict, answer_for, values_of}
use Rattle.checking.specs.declared.Checked.{Checked}
use Rattle.checking.proofs.Promise.{runs_kept, answer_is}
use Rattle.report.specs.Report.{fits, text_of, delivered, reported_in}
use Rattle.report.specs.declared.Reported.{Reported}
use Rattle.report.proofs.Delivery.{reported_answer, reported_accepted}
use Rattle.report.proofs.Texts.{Composed, composed}
use Rattle.report.proofs.report.Goals as goal
use Rattle.report.proofs.report.Goals.{After-check_phrase-checked}

can : (c : After-check_phrase-checked)
    → Composed c.check_phrase-checked.result c.check_phrase-checked.new.phrase (text_of (reading c.args.file.now) (length c.args.table.now))
can c =
    let bytes : AreBytes c.args.file.now = λ i b. omega (arith, c.type_inv.file i) in
    composed c.args.file.now bytes (length c.args.table.now) _ _ c.check_phrase-checked.ensures.answer c.check_phrase-checked.ensures.phrase

pub deliver-requires : goal.deliver-requires
deliver-requires c = (can (goal.at.deliver-requires c).After-check_phrase-checked).can

pub returns-clause-result : goal.returns-clause-result
returns-clause-result c =
    let is = (can (goal.at.returns-clause-result c).After-check_phrase-checked).text_is in
    let buffer = c.args.text.now in
    let file = c.args.file.now in
    let words = length c.args.table.now in
    let r = c.check_phrase-checked.result in
    let checked = c.check_phrase-checked.ensures.answer in
    c.deliver.ensures.value ∙ (λ n. reported_in (checked n) (is n) buffer)

pub returns-clause-number : goal.returns-clause-number
returns-clause-number c =
    let is = (can (goal.at.returns-clause-number c).After-check_phrase-checked).text_is in
    let buffer = c.args.text.now in
    let file = c.args.file.now in
    let words = length c.args.table.now in
    let r = c.check_phrase-checked.result in
    let checked = c.check_phrase-checked.ensures.answer in
    let answer = ap (λ (s : Reported). s.checked) (c.deliver.ensures.value ∙ (λ n. reported_in r (is n) buffer)) in
    ap values_of (
    ap (λ (s : Checked). s.answer) answer
    ∙ reported_answer r (answer_for (verdict (reading file) words)) (fits (text_of (reading file) words) buffer) (answer_is (reading file) words _ checked)
    )

pub returns-clause-text : goal.returns-clause-text
returns-clause-text c =
    let is = (can (goal.at.returns-clause-text c).After-check_phrase-checked).text_is in
    let buffer = c.args.text.now in
    c.deliver.ensures.text_after ∙ ap (λ (t : List ℕ). delivered t buffer) is

pub returns-clause-runs : goal.returns-clause-runs
returns-clause-runs c =
    let is = (can (goal.at.returns-clause-runs c).After-check_phrase-checked).text_is in
    let buffer = c.args.text.now in
    let file = c.args.file.now in
    let words = length c.args.table.now in
    let r = c.check_phrase-checked.result in
    let checked = c.check_phrase-checked.ensures.answer in
    let bytes : AreBytes file = λ i b. omega (arith, c.type_inv.file i) in
    let answer = ap (λ (s : Reported). s.checked) (c.deliver.ensures.value ∙ (λ n. reported_in r (is n) buffer)) in
    λ a. runs_kept file bytes words _ (reported_accepted r _ (fits (text_of (reading file) words) buffer) answer a ∙ checked) a
