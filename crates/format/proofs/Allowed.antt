-- The rules let a phrase pass exactly if it is valid, and then as it is. Assumes nothing.
use Prim.Native.Nat.{ℕ, ◌+◌}
use mathlib.Core.Path.{◌≡◌, sym, ap, ◌∙◌, subst}
use mathlib.Core.List.{List, [], ◌∷◌, ◌++◌, append_assoc, append-nil}
use lib.Dec.{leb}
use lib.ListN.{length}
use borrow.Author.Tests.{leb-true, le-leb}
use Rattle.model.specs.Limits.{most_cores}
use Rattle.model.specs.Refusals.{wrong_version, wrong_cores, wrong_bell_count, too_many_notes, wrong_note_length, wrong_shift}
use Rattle.format.specs.Bytes.{within}
use Rattle.format.specs.Layout.{Layout, is_version, layout, cores_at, shift_at, bell_count_at, bells_at, bell_bytes, note_count_at, most_bells, most_listed, note_length}
use Rattle.format.specs.Outcome.{ok}
use Rattle.format.specs.Phrase.{Bell, Note, Phrase}
use Rattle.format.specs.Rules.{is_shift, bell_rules, note_rules, bells_rules, notes_rules, all_bells, all_notes, rules_by, rules}
use Rattle.format.specs.Valid.{Each, ValidBell, ValidNote, ValidBy, Valid}
use Rattle.format.proofs.Passed.{within_true, true_within, is_none_holds, required, bound}
use Rattle.format.proofs.Given.{bell_passed, note_passed}

module _ (l : Layout) where
  -- Bells that pass are valid, and stand after those before.
  pub bells_passed : (rest : List Bell) (at : ℕ) (before bells : List Bell) → bells_rules l rest at before ≡ ok bells
      → Each (ValidBell l) before rest × (before ++ rest ≡ bells)
  unfolding bells_rules Each
  bells_passed [] at before bells e = (tt, append-nil before ∙ cc e)
  bells_passed (b ∷ bs) at before bells e =
      let step = bound (bell_rules l before at b) e in
      let this = bell_passed l before at b step.0 step.1 in
      let next : bells_rules l bs (at + bell_bytes l) (before ++ b ∷ []) ≡ ok bells =
      ap (λ (c : Bell). bells_rules l bs (at + bell_bytes l) (before ++ c ∷ [])) this.2 ∙ step.2 in
      let those = bells_passed bs (at + bell_bytes l) (before ++ b ∷ []) bells next in
      ((record { in_range = this.0; alone = is_none_holds _ this.1 }, those.0), sym (append_assoc before (b ∷ []) bs) ∙ those.1)

  bells_pass : (rest : List Bell) (at : ℕ) (before : List Bell) → Each (ValidBell l) before rest → bells_rules l rest at before ≡ ok (before ++ rest)
  unfolding bells_rules bell_rules Each
  bells_pass [] at before v = ap ok (sym (append-nil before))
  bells_pass (b ∷ bs) at before v =
      simp (v.0.in_range, v.0.alone) (bells_pass bs (at + bell_bytes l) (before ++ b ∷ []) v.1 ∙ ap ok (append_assoc before (b ∷ []) bs))

  module _ (shift : ℕ) (bells : List Bell) where
    notes_passed : (rest : List Note) (at : ℕ) (before notes : List Note) → notes_rules l shift bells rest at before ≡ ok notes
        → Each (ValidNote shift bells) before rest × (before ++ rest ≡ notes)
    unfolding notes_rules Each
    notes_passed [] at before notes e = (tt, append-nil before ∙ cc e)
    notes_passed (n ∷ ns) at before notes e =
        let few = required (leb (length n.listed) most_listed) wrong_note_length at e in
        let step = bound (note_rules shift bells (length before) at n) few.1 in
        let this = note_passed shift bells (length before) at n step.0 step.1 in
        let to : ℕ = at + (1 + note_length l (length n.listed)) in
        let next : notes_rules l shift bells ns to (before ++ n ∷ []) ≡ ok notes = ap (λ (c : Note). notes_rules l shift bells ns to (before ++ c ∷ [])) this.3 ∙ step.2 in
        let those = notes_passed ns to (before ++ n ∷ []) notes next in (
          (record { sounds = this.0; times = this.1; few = leb-true (length n.listed) most_listed few.0; rising = this.2 }, those.0),
          sym (append_assoc before (n ∷ []) ns) ∙ those.1,
        )

    notes_pass : (rest : List Note) (at : ℕ) (before : List Note) → Each (ValidNote shift bells) before rest → notes_rules l shift bells rest at before ≡ ok (before ++ rest)
    unfolding notes_rules note_rules Each
    notes_pass [] at before v = ap ok (sym (append-nil before))
    notes_pass (n ∷ ns) at before v =
        let to : ℕ = at + (1 + note_length l (length n.listed)) in
        simp (le-leb (length n.listed) most_listed v.0.few, v.0.sounds, v.0.times, v.0.rising)
        (notes_pass ns to (before ++ n ∷ []) v.1 ∙ ap ok (append_assoc before (n ∷ []) ns))

  passed_by : (x y : Phrase) → rules_by l x ≡ ok y → ValidBy l x × (x ≡ y)
  unfolding rules_by all_bells all_notes
  passed_by x y e =
      let k : ℕ = note_count_at l (length x.bells) in
      let cores = required (within 1 most_cores x.cores) wrong_cores cores_at e in
      let shift = required (is_shift l x.shift) wrong_shift shift_at cores.1 in
      let bells = bound (all_bells l x.bells) shift.1 in
      let notes = bound (all_notes l x.shift bells.0 x.notes k) bells.2 in
      let a = required (within 1 most_bells (length x.bells)) wrong_bell_count (bell_count_at l) bells.1 in
      let c = required (leb (length x.notes) l.most_notes) too_many_notes k notes.1 in
      let bs = bells_passed x.bells (bells_at l) [] bells.0 a.1 in
      let ns = notes_passed x.shift bells.0 x.notes (k + l.count_bytes) [] notes.0 c.1 in
      let same : record { version = x.version; cores = x.cores; shift = x.shift; bells = bells.0; notes = notes.0 } ≡ y = cc notes.2 in
      let put : x ≡ record { version = x.version; cores = x.cores; shift = x.shift; bells = bells.0; notes = notes.0 } =
      λ i. record { version = x.version; cores = x.cores; shift = x.shift; bells = bs.1 i; notes = ns.1 i } in (
        record {
          cores = within_true 1 most_cores x.cores cores.0;
          shift = shift.0;
          bell_count = within_true 1 most_bells (length x.bells) a.0;
          bells = bs.0;
          note_count = leb-true (length x.notes) l.most_notes c.0;
          notes = subst (λ (b : List Bell). Each (ValidNote x.shift b) [] x.notes) (sym bs.1) ns.0;
        },
        put ∙ same,
      )

  pass_by : (x : Phrase) → ValidBy l x → rules_by l x ≡ ok x
  unfolding rules_by all_bells all_notes
  pass_by x v =
      simp (
        true_within 1 most_cores x.cores v.cores,
        v.shift,
        true_within 1 most_bells (length x.bells) v.bell_count,
        bells_pass x.bells (bells_at l) [] v.bells,
        le-leb (length x.notes) l.most_notes v.note_count,
        notes_pass x.shift x.bells x.notes (note_count_at l (length x.bells) + l.count_bytes) [] v.notes,
      )

-- What the rules let pass is valid, and is what was asked.
pub rules_passed : (x y : Phrase) → rules x ≡ ok y → Valid x × (x ≡ y)
unfolding rules
rules_passed x y e =
    let version = required (is_version x.version) wrong_version 0 e in
    let r = passed_by (layout x.version) x y version.1 in
    (record { version = version.0; fields = r.0 }, r.1)

-- A valid phrase passes.
pub rules_pass : (x : Phrase) → Valid x → rules x ≡ ok x
unfolding rules
rules_pass x v = simp (v.version, pass_by (layout x.version) x v.fields)
