use Prim.Native.Nat.{ℕ}
use mathlib.Core.Path.{◌≡◌, sym, ap, ◌∙◌}
use mathlib.Core.List.{List, ◌++◌}
use native.Mathlib.Omega.{arith}
use Rattle.std.specs.Prelude.{Ok}
use lib.ListN.{length, drop}
use lib.Seq.{length-take-le}
use Rattle.format.specs.Outcome.{Outcome, ok, refused}
use Rattle.format.specs.Phrase.{Phrase}
use Rattle.format.specs.Rules.{rules}
use Rattle.format.specs.Writing.{written, writing, leaves}
use Rattle.format.proofs.Allowed.{rules_passed}
use Rattle.rows.specs.PhraseTable.{phrase_of}
use Rattle.records.proofs.Outcomes.{passed_on}
use Rattle.rules.proofs.Outcomes.{has_ended, has_stopped}
use Rattle.writer.specs.internal.Answers.{writing_of}
use Rattle.writer.proofs.Writes.{rules_refuse, too_long, long_enough}
use Rattle.writer.proofs.write.Goals as goal
use Rattle.writer.proofs.write.Goals.{In_ok-size}

-- what a refusal, or a file, leaves
settled : (o p : Outcome (List ℕ)) (before : List ℕ) → o ≡ p → (writing_of p ≡ writing_of o) × (leaves p before ≡ leaves o before)
settled o p before e = (ap writing_of (sym e), ap (λ q. leaves q before) (sym e))

-- the rules let the phrase pass, and the answer is the file's length
passed : (c : In_ok-size) → (y : Phrase) × (rules (phrase_of c.args.phrase.now) ≡ ok y) × (length (written (phrase_of c.args.phrase.now)) ≡ c.in_ok-size.size)
passed c =
    has_ended (rules (phrase_of c.args.phrase.now)) (length (written (phrase_of c.args.phrase.now))) _ (sym c.ask.ensures ∙ c.in_ok-size.was)

pub returns-in_err-size : goal.returns-in_err-size
returns-in_err-size c = let x = (phrase_of c.args.phrase.now) in
    let stop = has_stopped (rules x) (length (written x)) _ (sym c.ask.ensures ∙ c.in_err-size.was) in
    let w = settled (writing x (length c.args.file.now)) (refused _ _) c.args.file.now (rules_refuse x (length c.args.file.now) _ _ stop) in
    record { answer = passed_on c.from_residual.ensures.1 ∙ w.0; file = w.1 }

pub returns-then-file-size : goal.returns-then-file-size
returns-then-file-size c = let x = (phrase_of c.args.phrase.now) in
    let p = passed (goal.at.returns-then-file-size c).In_ok-size in
    let short = too_long x (length c.args.file.now) p.0 p.1 (omega (arith, c.if-file-size.true, p.2)) in
    let both = settled (writing x (length c.args.file.now)) (refused _ _) c.args.file.now short in record { answer = c.refuse.ensures ∙ both.0; file = both.1 }

pub put_file-requires : goal.put_file-requires
put_file-requires c = let p = passed (goal.at.put_file-requires c).In_ok-size in
    ((rules_passed (phrase_of c.args.phrase.now) p.0 p.1).0, length-take-le _ _ (omega (arith, c.if-file-size.false)) ∙ sym p.2)

pub returns : goal.returns
returns c = let x = (phrase_of c.args.phrase.now) in
    let p = passed (goal.at.returns c).In_ok-size in
    let whole = long_enough x (length c.args.file.now) p.0 p.1 (omega (arith, c.if-file-size.false, p.2)) in
    let w = settled (writing x (length c.args.file.now)) (ok (written x)) c.args.file.now whole in
    record { answer = ap Ok (sym p.2) ∙ w.0; file = (λ i. c.put_file.ensures i ++ drop (sym p.2 i) c.args.file.now) ∙ w.1 }
