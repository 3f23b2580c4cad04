-- The rules of a whole phrase, by the parts in which they are asked. Assumes nothing.
use Prim.Native.Nat.{ℕ, ◌+◌, ◌≤◌}
use mathlib.Core.Path.{◌≡◌, refl, sym, ap, ◌∙◌}
use mathlib.Core.Bool.{Bool, true, false}
use mathlib.Core.List.{List, []}
use lib.ListN.{length}
use Rattle.model.specs.Limits.{most_cores}
use Rattle.model.specs.Refusals.{wrong_version, wrong_cores, wrong_bell_count, wrong_shift}
use Rattle.format.specs.Bytes.{within, records}
use Rattle.format.specs.Layout.{Layout, first, is_version, layout, cores_at, shift_at, bell_count_at, bells_at, most_bells, note_count_at}
use Rattle.format.specs.Outcome.{Outcome, ok, refused, ◌>>=◌, ◌>>◌, require}
use Rattle.format.specs.Phrase.{Bell, Note, Phrase}
use Rattle.format.specs.Rules.{is_shift, all_bells, all_notes, rules_by, rules}
use Rattle.format.specs.Writing.{written_by, written}
use Rattle.format.proofs.Passed.{within_true, required}
use Rattle.format.proofs.Allowed.{bells_passed}
use Rattle.format.proofs.Sizes.{file_size}
use Rattle.format.proofs.Versions.{note_file_holds}
use Rattle.rules.specs.internal.Answers.{end_of}
use Rattle.rules.specs.internal.Asking.{body_asked, body_end}

module _ (l : Layout) (x : Phrase) where
  -- ---- bells and notes

  -- Bells that pass are no more than there may be, and stay as they are.
  pub bells_stay : (c : List Bell) → all_bells l x.bells ≡ ok c → (length x.bells ≤ most_bells) × (x.bells ≡ c)
  unfolding all_bells
  bells_stay c e =
      let (count, rest) = required (within 1 most_bells (length x.bells)) wrong_bell_count (bell_count_at l) e in
      ((within_true 1 most_bells (length x.bells) count).1, (bells_passed l x.bells (bells_at l) [] c rest).1)

  -- the rules of the notes, after bells that passed
  notes_asked : List Bell → Outcome (List Note)
  notes_asked bells = all_notes l x.shift bells x.notes (note_count_at l (length x.bells))

  -- After bells that pass the notes are asked.
  pub bells_done : (c : List Bell) → all_bells l x.bells ≡ ok c
      → body_asked l x ≡ all_notes l x.shift x.bells x.notes (note_count_at l (length x.bells))
  unfolding notes_asked
  bells_done c e = ap (λ (o : Outcome (List Bell)). ◌>>=◌ o notes_asked) e ∙ ap notes_asked (sym (bells_stay c e).1)

-- A wrong version is refused.
pub wrong_version_holds : (x : Phrase) → is_version x.version ≡ false → rules x ≡ refused wrong_version 0
unfolding rules
wrong_version_holds x e = ap (λ (t : Bool). ◌>>◌ (require t wrong_version 0) (rules_by (layout x.version) x)) e

-- ---- all of it, by the layout of its version

module _ (l : Layout) (x : Phrase) (same : layout x.version ≡ l) where
  -- The file ends where its notes end, which versions with numbers of one byte have alike.
  pub ends : first.listed_bytes ≡ l.listed_bytes → length (written x) ≡ body_end l x
  unfolding written
  ends one =
      ap (λ (k : Layout). length (written_by k x)) same
      ∙ file_size l x
      ∙ ap (λ (f : Note → List ℕ). note_count_at l (length x.bells) + l.count_bytes + length (records f x.notes)) (sym (note_file_holds l one))

  module _ (v : is_version x.version ≡ true) where
    made : List Bell → List Note → Phrase
    made bells notes = record { version = x.version; cores = x.cores; shift = x.shift; bells = bells; notes = notes }

    body : Outcome Phrase
    body =
        ◌>>=◌ (all_bells l x.bells)
        (λ bells. ◌>>=◌ (all_notes l x.shift bells x.notes (note_count_at l (length x.bells))) (λ notes. ok (made bells notes)))

    shifted : Outcome Phrase
    shifted = ◌>>◌ (require (is_shift l x.shift) wrong_shift shift_at) body

    opened : rules x ≡ ◌>>◌ (require (within 1 most_cores x.cores) wrong_cores cores_at) shifted
    unfolding rules rules_by shifted body made
    opened =
        ap (λ (t : Bool). ◌>>◌ (require t wrong_version 0) (rules_by (layout x.version) x)) v ∙ ap (λ (k : Layout). rules_by k x) same

    -- A wrong number of cores is refused.
    pub wrong_cores_holds : within 1 most_cores x.cores ≡ false → rules x ≡ refused wrong_cores cores_at
    wrong_cores_holds e = opened ∙ ap (λ (t : Bool). ◌>>◌ (require t wrong_cores cores_at) shifted) e

    module _ (m : within 1 most_cores x.cores ≡ true) where
      -- with the cores right, the shift and what follows
      after : rules x ≡ shifted
      after = opened ∙ ap (λ (t : Bool). ◌>>◌ (require t wrong_cores cores_at) shifted) m

      -- A wrong shift is refused.
      pub wrong_shift_holds : is_shift l x.shift ≡ false → rules x ≡ refused wrong_shift shift_at
      unfolding shifted
      wrong_shift_holds e = after ∙ ap (λ (t : Bool). ◌>>◌ (require t wrong_shift shift_at) body) e

      same_end : (o : Outcome (List Bell)) (p : List Bell → Outcome (List Note)) (end : ℕ)
          → end_of (◌>>=◌ o (λ bells. ◌>>=◌ (p bells) (λ notes. ok (made bells notes)))) end ≡ end_of (◌>>=◌ o p) end
      same_end (ok b) p end = go (p b)
        where
          go : (q : Outcome (List Note)) → end_of (◌>>=◌ q (λ notes. ok (made b notes))) end ≡ end_of q end
          go (ok n) = refl
          go (refused n at) = refl
      same_end (refused n at) p end = refl

      -- A right one leaves the bells and the notes.
      pub right_shift : is_shift l x.shift ≡ true → (end : ℕ) → end_of (rules x) end ≡ end_of (body_asked l x) end
      unfolding shifted body
      right_shift e end =
          ap (λ (o : Outcome Phrase). end_of o end) (after ∙ ap (λ (t : Bool). ◌>>◌ (require t wrong_shift shift_at) body) e)
          ∙ same_end (all_bells l x.bells) (λ bells. all_notes l x.shift bells x.notes (note_count_at l (length x.bells))) end
