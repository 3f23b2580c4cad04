-- What is asked of the note decides its rules, and a note that they let pass has its row.
use mathlib.Core.Path.{◌≡◌, sym, ap, ◌∙◌}
use mathlib.Core.Bool.{false≢true}
use Prim.Native.Nat.{◌+◌, ◌*◌}
use native.Mathlib.Omega.{arith}
use Rattle.words.specs.internal.Placed.{placed}
use Rattle.format.specs.Layout.{first}
use Rattle.format.specs.Outcome.{ok}
use Rattle.format.specs.Phrase.{is_some}
use Rattle.format.specs.Jobs.{or_first}
use Rattle.format.specs.Rules.{note_rules}
use Rattle.format.specs.Reading.{note_in}
use Rattle.format.proofs.Given.{note_passed}
use Rattle.rows.specs.NoteRow.{note_words, note_row_on}
use Rattle.rows.specs.PhraseTable.{note_rows_at}
use Rattle.fields.proofs.ListedJobs.{there}
use Rattle.fields.proofs.Numbers.{own_numbers}
use Rattle.records.specs.internal.Answers.{reading_of}
use Rattle.records.specs.internal.Filling.{bells_held, note_put}
use Rattle.records.proofs.NoteReading.{times_read, key_found}
use Rattle.records.proofs.Outcomes.{was_ok, was_refused, passed_on, carried, kept_unless, was_some, was_none}
use Rattle.records.proofs.notes.note_fields.Goals as goal
use Rattle.records.proofs.notes.note_fields.Goals.{After-first_broken, After-first_broken-2}

-- without a bell, and with one
answer : (c : After-first_broken) → let a = c.args in
    c.first_broken.result ≡ reading_of (note_rules a.shift (bells_held a.phrase.now a.n) a.own a.at (note_in first a.part.now))
answer c =
    let a = c.args in
    let p = a.part.now in
    let misses = was_none _ (key_found p a.shift (bells_held a.phrase.now a.n) c.byte-key.ensures.0 c.find_bell.ensures ∙ c.in_default.is) in
    c.first_broken.ensures a.shift (bells_held a.phrase.now a.n) a.own (note_in first p)
    (c.are_times-timely.ensures ∙ times_read p c.be_32-earliest.ensures c.be_32-latest.ensures c.be_32-deadline.ensures)
    (ap is_some (sym misses))
    (c.do_rise-rising.ensures (note_in first p).listed (own_numbers _ _ c.listed_jobs.ensures))

answer_2 : (c : After-first_broken-2) → let a = c.args in
    c.first_broken-2.result ≡ reading_of (note_rules a.shift (bells_held a.phrase.now a.n) a.own a.at (note_in first a.part.now))
answer_2 c =
    let a = c.args in
    let p = a.part.now in
    let strikes = was_some _ _ (key_found p a.shift (bells_held a.phrase.now a.n) c.byte-key.ensures.0 c.find_bell.ensures ∙ c.in-Some.is) in
    c.first_broken-2.ensures a.shift (bells_held a.phrase.now a.n) a.own (note_in first p)
    (c.are_times-timely.ensures ∙ times_read p c.be_32-earliest.ensures c.be_32-latest.ensures c.be_32-deadline.ensures)
    (ap is_some (sym strikes))
    (c.do_rise-rising.ensures (note_in first p).listed (own_numbers _ _ c.listed_jobs.ensures))

pub be_32-earliest-requires : goal.be_32-earliest-requires
be_32-earliest-requires c = omega (arith, there c.args.part.now c.requires.0)

pub be_32-latest-requires : goal.be_32-latest-requires
be_32-latest-requires c = omega (arith, there c.args.part.now c.requires.0)

pub be_32-deadline-requires : goal.be_32-deadline-requires
be_32-deadline-requires c = omega (arith, there c.args.part.now c.requires.0)

pub byte-key-requires : goal.byte-key-requires
byte-key-requires c = omega (arith, there c.args.part.now c.requires.0)

pub returns-in_default : goal.returns-in_default
returns-in_default c = let a = c.args in
    let bs = bells_held a.phrase.now a.n in
    let note = note_in first a.part.now in
    let misses = was_none _ (key_found a.part.now a.shift bs c.byte-key.ensures.0 c.find_bell.ensures ∙ c.in_default.is) in
    let kept = kept_unless a.shift bs (note_rules a.shift bs a.own a.at note) a.phrase.now a.own
    (λ n is. false≢true (ap is_some (sym misses) ∙ (note_passed a.shift bs a.own a.at note n is).0)) in
    record { value = answer c; phrase_after = kept }

pub returns-in_err-first_broken : goal.returns-in_err-first_broken
returns-in_err-first_broken c = let a = c.args in
    let bs = bells_held a.phrase.now a.n in
    let told = answer_2 (goal.at.returns-in_err-first_broken c).After-first_broken-2 in
    let is = was_refused (note_rules a.shift bs a.own a.at (note_in first a.part.now)) _ (sym told ∙ c.in_err-first_broken.was) in
    record {
      value = passed_on c.from_residual.ensures.1 ∙ sym c.in_err-first_broken.was ∙ told;
      phrase_after = ap (λ o. note_put a.shift bs o a.phrase.now a.own) (sym is);
    }

pub returns : goal.returns
returns c = let a = c.args in
    let bs = bells_held a.phrase.now a.n in
    let note = note_in first a.part.now in
    let told = answer_2 (goal.at.returns c).After-first_broken-2 in
    let (n, is) = was_ok (note_rules a.shift bs a.own a.at note) (sym told ∙ c.in_ok-first_broken.was) in
    let passes = is ∙ ap ok (sym (note_passed a.shift bs a.own a.at note n is).3) in
    let strikes = was_some _ _ (key_found a.part.now a.shift bs c.byte-key.ensures.0 c.find_bell.ensures ∙ c.in-Some.is) in
    let put = c.put_note.ensures
    ∙ ap (λ o. placed a.phrase.now (note_rows_at + a.own * note_words) (note_row_on (or_first o) note)) (sym strikes) in
    let both = carried (λ o. c.put_note.new.phrase ≡ note_put a.shift bs o a.phrase.now a.own) passes put in
    record { value = both.0; phrase_after = both.1 }
