-- Asking on from here gives the whole, and the marks tell of the bells before.
use mathlib.Core.Path.{◌≡◌, sym, ap, subst, ◌∙◌}
use Prim.Native.Nat.{suc, ◌+◌, ◌-◌, ◌*◌, ◌≤◌, ◌<◌}
use native.Mathlib.Omega.{arith}
use mathlib.Core.List.{[], ◌∷◌, ◌++◌}
use lib.ListN.{length, get_or, take, drop}
use lib.Seq.{take-suc, take_all}
use Rattle.fields.proofs.Sizes.{sized}
use Rattle.format.specs.Jobs.{no_bell}
use Rattle.format.specs.Outcome.{ok}
use Rattle.format.specs.Phrase.{Bell}
use Rattle.format.specs.Rules.{bell_rules, bells_rules}
use Rattle.format.proofs.Layouts.{rest_small}
use Rattle.fields.specs.internal.Layouts.{layout_of}
use Rattle.rows.specs.BellRow.{bell_words, bell_of_row, bells_of_rows}
use Rattle.rows.specs.PhraseTable.{bell_rows_at}
use Rattle.rows.proofs.BellRow.{bells_length}
use Rattle.rows.proofs.RowsRead.{bell_lent}
use Rattle.records.specs.internal.Answers.{reading_of}
use Rattle.records.proofs.Outcomes.{was_ok, was_refused, passed_on}
use Rattle.rules.specs.internal.Asking.{Sounded}
use Rattle.rules.proofs.Turns.{next_bell, stop_bell, last_bell}
use Rattle.rules.proofs.bells.bells_from.Goals as goal
use Rattle.rules.proofs.bells.bells_from.Goals.{After-ask_bell, In_ok-ask_bell}

-- the row that is lent is that of the bell
row : (c : After-ask_bell)
    → let from = bell_rows_at + c.loop-i.i * bell_words in
    bell_of_row (take (from + bell_words - from) (drop from c.args.phrase.now)) ≡ get_or (bells_of_rows (drop bell_rows_at c.args.phrase.now) c.args.n) c.loop-i.i no_bell
row c =
    let i = c.loop-i.i in
    let from = bell_rows_at + i * bell_words in
    let t = c.args.phrase.now in
    let width : from + bell_words - from ≡ bell_words = omega arith in
    ap (λ k. bell_of_row (take k (drop from t))) width ∙ bell_lent t c.args.n i c.loop-i-test.true

answer : (c : After-ask_bell) → c.ask_bell.result ≡ reading_of (let v = c.loop-i in bell_rules (layout_of c.args.l) (take v.i (bells_of_rows (drop bell_rows_at c.args.phrase.now) c.args.n)) v.at (get_or (bells_of_rows (drop bell_rows_at c.args.phrase.now) c.args.n) v.i no_bell))
answer c =
    let v = c.loop-i in
    c.ask_bell.ensures.value (take v.i (bells_of_rows (drop bell_rows_at c.args.phrase.now) c.args.n)) v.invariant.2 ∙ ap (λ b. reading_of (bell_rules (layout_of c.args.l) (take v.i (bells_of_rows (drop bell_rows_at c.args.phrase.now) c.args.n)) v.at b)) (row c)

taken : (c : In_ok-ask_bell) → (b : Bell) × ((let v = c.loop-i in bell_rules (layout_of c.args.l) (take v.i (bells_of_rows (drop bell_rows_at c.args.phrase.now) c.args.n)) v.at (get_or (bells_of_rows (drop bell_rows_at c.args.phrase.now) c.args.n) v.i no_bell)) ≡ ok b)
taken c = was_ok _ (sym (let v = c.loop-i in c.ask_bell.ensures.value (take v.i (bells_of_rows (drop bell_rows_at c.args.phrase.now) c.args.n)) v.invariant.2 ∙ ap (λ b. reading_of (bell_rules (layout_of c.args.l) (take v.i (bells_of_rows (drop bell_rows_at c.args.phrase.now) c.args.n)) v.at b)) (let i = c.loop-i.i in let from = bell_rows_at + i * bell_words in let t = c.args.phrase.now in let width : from + bell_words - from ≡ bell_words = omega arith in ap (λ k. bell_of_row (take k (drop from t))) width ∙ bell_lent t c.args.n i c.loop-i-test.true)) ∙ c.in_ok-ask_bell.was)

-- a record takes at most nine bytes
nine : (c : After-ask_bell) → c.bell_bytes-width.result ≤ 9
nine c = omega (arith, c.bell_bytes-width.ensures, rest_small (layout_of c.args.l) (sized c.args.l))

-- one bell more is done
more : (c : After-ask_bell)
    → let i = c.loop-i.i in
    let from = bell_rows_at + i * bell_words in
    take i (bells_of_rows (drop bell_rows_at c.args.phrase.now) c.args.n) ++ bell_of_row (take (from + bell_words - from) (drop from c.args.phrase.now)) ∷ [] ≡ take (i + 1) (bells_of_rows (drop bell_rows_at c.args.phrase.now) c.args.n)
more c =
    let i = c.loop-i.i in
    let one : suc i ≡ i + 1 = omega arith in
    let test = c.loop-i-test.true in
    let short : i < length (bells_of_rows (drop bell_rows_at c.args.phrase.now) c.args.n) = omega (arith, bells_length c.args.phrase.now c.args.n) in
    ap (λ b. take i (bells_of_rows (drop bell_rows_at c.args.phrase.now) c.args.n) ++ b ∷ []) (row c) ∙ sym (take-suc (bells_of_rows (drop bell_rows_at c.args.phrase.now) c.args.n) i no_bell short) ∙ ap (λ k. take k (bells_of_rows (drop bell_rows_at c.args.phrase.now) c.args.n)) one

pub returns-in_err-ask_bell-clause-value : goal.returns-in_err-ask_bell-clause-value
returns-in_err-ask_bell-clause-value c = let v = c.loop-i in
    let q = was_refused (let v = c.loop-i in bell_rules (layout_of c.args.l) (take v.i (bells_of_rows (drop bell_rows_at c.args.phrase.now) c.args.n)) v.at (get_or (bells_of_rows (drop bell_rows_at c.args.phrase.now) c.args.n) v.i no_bell)) _ (sym (answer (goal.at.returns-in_err-ask_bell-clause-value c).After-ask_bell) ∙ c.in_err-ask_bell.was) in
    let short : v.i < length (bells_of_rows (drop bell_rows_at c.args.phrase.now) c.args.n) = omega (arith, bells_length c.args.phrase.now c.args.n) in
    let w = stop_bell (layout_of c.args.l) (bells_of_rows (drop bell_rows_at c.args.phrase.now) c.args.n) v.i v.at short _ _ q in
    passed_on c.from_residual.ensures.1 ∙ ap reading_of (sym w ∙ v.invariant.3)

pub loop-i-preserved : goal.loop-i-preserved
loop-i-preserved c = let v = c.loop-i in
    let b = taken c in
    let short : v.i < length (bells_of_rows (drop bell_rows_at c.args.phrase.now) c.args.n) = omega (arith, bells_length c.args.phrase.now c.args.n) in (
      omega (arith, nine (goal.at.loop-i-preserved c).After-ask_bell),
      c.ask_bell.auto.sounded ∙ v.invariant.1,
      subst (λ l. Sounded l c.ask_bell.new.sounded) (more (goal.at.loop-i-preserved c).After-ask_bell) (c.ask_bell.ensures.sounded c.in_ok-ask_bell.was (take v.i (bells_of_rows (drop bell_rows_at c.args.phrase.now) c.args.n)) v.invariant.2),
      ap (λ k. bells_rules (layout_of c.args.l) (drop (v.i + 1) (bells_of_rows (drop bell_rows_at c.args.phrase.now) c.args.n)) (v.at + k) (take (v.i + 1) (bells_of_rows (drop bell_rows_at c.args.phrase.now) c.args.n))) c.bell_bytes-width.ensures
          ∙ sym (next_bell (layout_of c.args.l) (bells_of_rows (drop bell_rows_at c.args.phrase.now) c.args.n) v.i v.at short b.0 b.1)
          ∙ v.invariant.3,
    )

pub returns : goal.returns
returns c = let a = c.args in
    let v = c.loop-i in
    let t = bells_of_rows (drop bell_rows_at a.phrase.now) a.n in
    let end : length t ≤ v.i = omega (arith, bells_length a.phrase.now a.n) in
    let w = last_bell (layout_of a.l) t v.i v.at end in
    record { value = ap reading_of (sym w ∙ v.invariant.3); sounded = (λ e. subst (λ l. Sounded l v.sounded) (take_all v.i t end) v.invariant.2) }
