use mathlib.Core.Path.{◌≡◌, sym, ap, ◌∙◌}
use mathlib.Core.List.{List}
use native.Mathlib.Omega.{arith}
use Rattle.format.specs.Outcome.{ok}
use Rattle.format.specs.Phrase.{Bell}
use Rattle.format.specs.Rules.{all_bells}
use Rattle.format.proofs.Ranges.{shift_fits}
use Rattle.fields.specs.internal.Layouts.{layout_of}
use Rattle.rows.specs.PhraseTable.{phrase_of}
use Rattle.records.proofs.Outcomes.{was_ok}
use Rattle.rules.specs.internal.Answers.{end_of}
use Rattle.rules.specs.internal.Asking.{body_end}
use Rattle.rules.proofs.Marks.{sounded_none}
use Rattle.rules.proofs.Wholes.{bells_stay, bells_done}
use Rattle.rules.proofs.ask_body.Goals as goal
use Rattle.rules.proofs.ask_body.Goals.{In_ok-ask_bells}

-- the bells that passed
whole : (c : In_ok-ask_bells) → (bells : List Bell) × (all_bells (layout_of c.args.l) (phrase_of c.args.phrase.now).bells ≡ ok bells)
whole c = was_ok (all_bells (layout_of c.args.l) (phrase_of c.args.phrase.now).bells) (sym c.ask_bells.ensures.value ∙ c.in_ok-ask_bells.was)

pub ask_bells-requires : goal.ask_bells-requires
ask_bells-requires c = (omega arith, sounded_none 120)

pub ask_notes-requires : goal.ask_notes-requires
ask_notes-requires c = let w = whole (goal.at.ask_notes-requires c).In_ok-ask_bells in (
  (bells_stay (layout_of c.args.l) (phrase_of c.args.phrase.now) w.0 w.1).0,
  (shift_fits (layout_of c.args.l) (phrase_of c.args.phrase.now).shift c.requires).0,
  c.ask_bells.auto.sounded,
  c.ask_bells.ensures.sounded c.in_ok-ask_bells.was,
)

pub returns : goal.returns
returns c = let w = whole (goal.at.returns c).In_ok-ask_bells in
    let x = (phrase_of c.args.phrase.now) in
    c.ask_notes.ensures ∙ ap (λ o. end_of o (body_end (layout_of c.args.l) x)) (sym (bells_done (layout_of c.args.l) x w.0 w.1))
