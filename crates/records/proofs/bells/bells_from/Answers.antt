-- The table holds the bells before i, and reading on from here gives the whole.
use mathlib.Core.Path.{◌≡◌, refl, sym, ap, subst, ◌∙◌}
use Prim.Native.Nat.{◌+◌, ◌-◌, ◌*◌, ◌≤◌}
use native.Mathlib.Omega.{arith}
use lib.ListN.{length, drop, length-drop}
use Rattle.format.specs.Layout.{bell_bytes}
use Rattle.format.specs.Outcome.{ok}
use Rattle.format.specs.Phrase.{Bell}
use Rattle.format.specs.Reading.{bell_record, bells_from}
use Rattle.fields.specs.internal.Layouts.{layout_of}
use Rattle.rows.specs.BellRow.{bell_words, bell_row}
use Rattle.rows.specs.PhraseTable.{bell_rows_at}
use Rattle.records.specs.internal.Answers.{reading_of}
use Rattle.words.specs.internal.Placed.{placed}
use Rattle.records.specs.internal.Filling.{list_of, bells_held, BellTable, bell_put, HoldsBells}
use Rattle.words.proofs.Placing.{tail_is}
use Rattle.records.proofs.Outcomes.{was_ok, was_refused, passed_on, carried}
use Rattle.rows.proofs.BellRow.{table_none, begins_none, table_begins, table_more}
use Rattle.records.proofs.BellReading.{is_long, none_read, turn, done}
use Rattle.format.proofs.Steps.{stop_bells}
use Rattle.records.proofs.bells.bells_from.Goals as goal
use Rattle.records.proofs.bells.bells_from.Goals.{After-read_bell, In_ok-read_bell}

-- what the record's answer says of it
answer : (c : After-read_bell) → c.read_bell.result ≡ reading_of (let v = c.loop-i in bell_record (layout_of c.args.l) (bells_held v.phrase v.i) v.at (drop v.at c.args.file.now))
answer c =
    let v = c.loop-i in
    c.read_bell.ensures.value ∙ ap (λ p. reading_of (bell_record (layout_of c.args.l) (bells_held v.phrase v.i) v.at p)) (tail_is c.args.file.now v.at)

taken : (c : In_ok-read_bell) → (b : Bell) × ((let v = c.loop-i in bell_record (layout_of c.args.l) (bells_held v.phrase v.i) v.at (drop v.at c.args.file.now)) ≡ ok b)
taken c = was_ok _ (sym (let v = c.loop-i in c.read_bell.ensures.value ∙ ap (λ p. reading_of (bell_record (layout_of c.args.l) (bells_held v.phrase v.i) v.at p)) (tail_is c.args.file.now v.at)) ∙ c.in_ok-read_bell.was)

fits : (c : In_ok-read_bell) → c.loop-i.at + bell_bytes (layout_of c.args.l) ≤ length c.args.file.now
fits c = omega (arith, is_long _ _ _ _ _ (taken c).1, length-drop c.loop-i.at c.args.file.now)

-- the bytes of a record
sized : (c : In_ok-read_bell) → c.bell_bytes-size.result ≡ bell_bytes (layout_of c.args.l)
sized c = c.bell_bytes-size.ensures

pub loop-i-init : goal.loop-i-init
loop-i-init c = let a = c.args in
    (omega arith, refl, table_none a.phrase.now, none_read (layout_of a.l) a.file.now a.n a.start a.phrase.now)

pub returns-in_err-read_bell : goal.returns-in_err-read_bell
returns-in_err-read_bell c = let a = c.args in
    let v = c.loop-i in
    let t = c.read_bell.new.phrase in
    let q = was_refused (let v = c.loop-i in bell_record (layout_of c.args.l) (bells_held v.phrase v.i) v.at (drop v.at c.args.file.now)) _ (sym (answer (goal.at.returns-in_err-read_bell c).After-read_bell) ∙ c.in_err-read_bell.was) in
    let w = stop_bells (layout_of c.args.l) a.file.now a.n v.i v.at (bells_held v.phrase v.i) (omega arith) _ _ q in
    let r = carried (λ o. HoldsBells (list_of o) t) (sym v.invariant.3 ∙ w) (begins_none t) in
    record { value = passed_on c.from_residual.ensures.1 ∙ r.0; holds_bells = r.1 }

pub loop-i-preserved : goal.loop-i-preserved
loop-i-preserved c = let a = c.args in
    let v = c.loop-i in
    let b = taken c in
    let l : bell_rows_at + (v.i + 1) * bell_words ≤ length v.phrase = omega arith in
    let put : c.read_bell.new.phrase ≡ placed v.phrase (bell_rows_at + v.i * bell_words) (bell_row b.0) =
    c.read_bell.ensures.phrase_after
    ∙ ap (λ p. bell_put (bell_record (layout_of c.args.l) (bells_held v.phrase v.i) v.at p) v.phrase v.i) (tail_is a.file.now v.at)
    ∙ ap (λ o. bell_put o v.phrase v.i) b.1 in (
      omega (arith, fits c, sized c),
      c.read_bell.auto.phrase ∙ v.invariant.1,
      subst (λ t. BellTable t (v.i + 1)) (sym put) (table_more v.phrase v.i b.0 v.invariant.2 l),
      (λ k. bells_from (layout_of c.args.l) a.file.now (a.n - (v.i + 1)) (v.at + sized c k) (bells_held (put k) (v.i + 1)))
          ∙ sym (turn (layout_of c.args.l) a.file.now a.n v.i v.at v.phrase (omega arith) v.invariant.2 l b.0 b.1) ∙ v.invariant.3,
    )

pub returns : goal.returns
returns c = let a = c.args in
    let v = c.loop-i in
    let w = done (layout_of a.l) a.file.now a.n v.i v.at (bells_held v.phrase v.i) (omega arith) in
    let both = carried (λ o. HoldsBells (list_of o) v.phrase) (sym v.invariant.3 ∙ w) (table_begins v.phrase v.i v.invariant.2) in record { value = both.0; holds_bells = both.1 }
