-- The rules over lists, one bell or note at a time, with those before it done. Assumes nothing.
use Prim.Native.Nat.{ℕ, suc, ◌+◌, ◌≤◌, ◌<◌}
use mathlib.Core.Path.{◌≡◌, refl, sym, ap, ◌∙◌}
use mathlib.Core.Bool.{Bool, true, false}
use mathlib.Core.List.{List, [], ◌∷◌, ◌++◌}
use native.Mathlib.Omega.{arith}
use lib.Dec.{leb}
use lib.ListN.{length, get_or, take, drop, drop_of_length-le}
use lib.Seq.{take-suc, take_all, drop-cons, length-take-le}
use Rattle.model.specs.Refusals.{wrong_bell, doubled_key, wrong_note_length, silent_key, wrong_times, wrong_listed}
use Rattle.format.specs.Layout.{Layout, bell_bytes, note_length, most_listed}
use Rattle.format.specs.Outcome.{Outcome, ok, refused, ◌>>=◌, ◌>>◌, require}
use Rattle.format.specs.Phrase.{Bell, Note, sounding, find_sounding, find, is_none, is_some}
use Rattle.format.specs.Rules.{bell_in_range, bell_rules, are_times, rises, note_rules, bells_rules, notes_rules}
use Rattle.format.specs.Jobs.{no_bell, no_note}
use Rattle.format.proofs.Passed.{required}
use Rattle.rules.specs.internal.Asking.{note_asked}

-- A bell passes as it is.
pub same_bell : (l : Layout) (before : List Bell) (at : ℕ) (b c : Bell) → bell_rules l before at b ≡ ok c → bell_rules l before at b ≡ ok b
unfolding bell_rules
same_bell l before at b c e =
    let (_, f) = required (bell_in_range l b) wrong_bell at e in
    let (_, g) = required (is_none (find_sounding (sounding b) before)) doubled_key at f in
    e ∙ sym g

-- A note passes as it is, and lists no more than it may.
pub same_note : (shift : ℕ) (bells : List Bell) (own at : ℕ) (n c : Note) → note_asked shift bells own at n ≡ ok c
    → (leb (length n.listed) most_listed ≡ true) × (note_rules shift bells own at n ≡ ok n)
unfolding note_rules
same_note shift bells own at n c e =
    let (few, e1) = required (leb (length n.listed) most_listed) wrong_note_length at e in
    let (_, e2) = required (are_times n.earliest_release n.latest_release n.deadline) wrong_times at e1 in
    let (_, e3) = required (is_some (find n.key shift bells)) silent_key at e2 in
    let (_, e4) = required (rises own 0 n.listed) wrong_listed at e3 in
    (few, e1 ∙ sym e4)

module _ (l : Layout) where
  -- ---- bells, with i of them done
  module _ (bells : List Bell) (i at : ℕ) where
    -- After the last all have passed.
    pub last_bell : length bells ≤ i → bells_rules l (drop i bells) at (take i bells) ≡ ok bells
    unfolding bells_rules
    last_bell h =
        ap (λ (d : List Bell). bells_rules l d at (take i bells)) (drop_of_length-le bells {i = i} h) ∙ ap ok (take_all i bells h)

    module _ (h : i < length bells) where
      step : Outcome Bell → Outcome (List Bell)
      step o = ◌>>=◌ o (λ c. bells_rules l (drop (suc i) bells) (at + bell_bytes l) (take i bells ++ c ∷ []))

      opened : bells_rules l (drop i bells) at (take i bells) ≡ step (bell_rules l (take i bells) at (get_or bells i no_bell))
      unfolding bells_rules step
      opened = ap (λ (d : List Bell). bells_rules l d at (take i bells)) (drop-cons bells i no_bell h)

      -- A bell that passes is done, and the next has its place after it.
      pub next_bell : (c : Bell) → bell_rules l (take i bells) at (get_or bells i no_bell) ≡ ok c
          → bells_rules l (drop i bells) at (take i bells) ≡ bells_rules l (drop (i + 1) bells) (at + bell_bytes l) (take (i + 1) bells)
      unfolding step
      next_bell c e =
          let one : suc i ≡ i + 1 = omega arith in
          opened
          ∙ ap step (same_bell l (take i bells) at (get_or bells i no_bell) c e)
          ∙ ap (λ (t : List Bell). bells_rules l (drop (suc i) bells) (at + bell_bytes l) t) (sym (take-suc bells i no_bell h))
          ∙ ap (λ (k : ℕ). bells_rules l (drop k bells) (at + bell_bytes l) (take k bells)) one

      -- A bell that is refused ends it.
      pub stop_bell : (n to : ℕ) → bell_rules l (take i bells) at (get_or bells i no_bell) ≡ refused n to → bells_rules l (drop i bells) at (take i bells) ≡ refused n to
      unfolding step
      stop_bell n to e = opened ∙ ap step e

  -- ---- notes, with i of them done
  module _ (shift : ℕ) (bells : List Bell) (notes : List Note) (i at : ℕ) where
    -- After the last all have passed.
    pub last_note_holds : length notes ≤ i → notes_rules l shift bells (drop i notes) at (take i notes) ≡ ok notes
    unfolding notes_rules
    last_note_holds h =
        ap (λ (d : List Note). notes_rules l shift bells d at (take i notes)) (drop_of_length-le notes {i = i} h) ∙ ap ok (take_all i notes h)

    module _ (h : i < length notes) where
      note : Note
      note = get_or notes i no_note

      on : Note → Outcome (List Note)
      on c = notes_rules l shift bells (drop (suc i) notes) (at + (1 + note_length l (length note.listed))) (take i notes ++ c ∷ [])

      shunt : (t : Bool) (o : Outcome Note) → ◌>>◌ (require t wrong_note_length at) (◌>>=◌ o on) ≡ ◌>>=◌ (◌>>◌ (require t wrong_note_length at) o) on
      shunt true o = refl
      shunt false o = refl

      opened_note : notes_rules l shift bells (drop i notes) at (take i notes) ≡ ◌>>=◌ (note_asked shift bells i at note) on
      unfolding notes_rules on note
      opened_note =
          let own : length (take i notes) ≡ i = length-take-le i notes (omega arith) in
          let few : Bool = leb (length note.listed) most_listed in
          ap (λ (d : List Note). notes_rules l shift bells d at (take i notes)) (drop-cons notes i no_note h)
          ∙ ap (λ (k : ℕ). ◌>>◌ (require few wrong_note_length at) (◌>>=◌ (note_rules shift bells k at note) on)) own
          ∙ shunt few (note_rules shift bells i at note)

      -- A note that passes is done, and the next has its place after it.
      pub next_note : (c : Note) → note_asked shift bells i at (get_or notes i no_note) ≡ ok c
          → notes_rules l shift bells (drop i notes) at (take i notes)
          ≡ notes_rules l shift bells (drop (i + 1) notes) (at + (1 + note_length l (length (get_or notes i no_note).listed))) (take (i + 1) notes)
      unfolding on note
      next_note c e =
          let one : suc i ≡ i + 1 = omega arith in
          let to : ℕ = at + (1 + note_length l (length (get_or notes i no_note).listed)) in
          let (few, same) = same_note shift bells i at note c e in
          let passes : note_asked shift bells i at note ≡ ok note =
          (λ k. ◌>>◌ (require (few k) wrong_note_length at) (same k)) in
          opened_note
          ∙ ap (λ (o : Outcome Note). ◌>>=◌ o on) passes
          ∙ ap (λ (t : List Note). notes_rules l shift bells (drop (suc i) notes) to t) (sym (take-suc notes i no_note h))
          ∙ ap (λ (k : ℕ). notes_rules l shift bells (drop k notes) to (take k notes)) one

      -- A note that is refused ends it.
      pub stop_note : (n to : ℕ) → note_asked shift bells i at (get_or notes i no_note) ≡ refused n to → notes_rules l shift bells (drop i notes) at (take i notes) ≡ refused n to
      unfolding note
      stop_note n to e = opened_note ∙ ap (λ (o : Outcome Note). ◌>>=◌ o on) e
