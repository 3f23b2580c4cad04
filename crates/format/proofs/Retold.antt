-- Rules of a note that answer as others do, but that one number became another, make the reading and the rules of a phrase do so. Assumes nothing.
use Prim.Native.Nat.{ℕ, zero, suc, ◌+◌, ◌-◌, ◌≤◌}
use mathlib.Core.Path.{◌≡◌, refl, sym, ap, ◌∙◌, subst}
use mathlib.Core.Bool.{Bool, true, false, not, cond, ◌&&◌, ◌||◌}
use mathlib.Core.List.{List, [], ◌∷◌, ◌++◌}
use native.Mathlib.Omega.{arith}
use lib.Dec.{leb, ltb, eqb}
use lib.ListN.{length, drop}
use borrow.Author.Tests.{eq-eqb, ne_eqb}
use Rattle.model.specs.Limits.{most_cores}
use Rattle.model.specs.Refusals.{wrong_version, wrong_count, wrong_end, wrong_cores, wrong_bell_count, wrong_bell, doubled_key, too_many_notes, wrong_note_length, silent_key, wrong_times, wrong_shift}
use Rattle.format.specs.Bytes.{number, within}
use Rattle.format.specs.Layout.{Layout, is_version, layout, byte_count_at, uncounted_bytes, cores_at, shift_at, bell_count_at, bells_at, bell_bytes, note_count_at, most_bells, most_listed, note_length, is_note_length}
use Rattle.format.specs.Outcome.{Outcome, ok, refused, ◌>>=◌, ◌>>◌, require}
use Rattle.format.specs.Phrase.{Bell, Note, Phrase, sounding, find_sounding, is_none}
use Rattle.format.specs.Rules.{is_shift, bell_in_range, bell_rules, bells_rules, all_bells}
use Rattle.format.specs.Reading.{bell_in, bell_record, note_in, bells_from, shift_in, bells_in}
use Rattle.format.specs.Jobs.{no_note}
use Rattle.format.proofs.Passed.{required}
use Rattle.format.proofs.Allowed.{bells_passed}
use Rattle.format.proofs.AnyRules.{NoteRules, note_record_with, notes_from_with, notes_in_with, reading_by_with, reading_with, notes_rules_with, all_notes_with, rules_by_with, rules_with}

-- ---- what is asked of a note at a place

-- a question about a note, under a shift and with the bells
abbrev pub Test : Type 0
Test = ℕ → List Bell → Note → Bool

abbrev or_none : Outcome (List Bell) → List Bell
or_none (ok bells) = bells
or_none (refused n at) = []

-- of the note that begins at a place of a file
unfoldable pub in_file : Test → List ℕ → ℕ → Bool
in_file t s at = let l : Layout = layout (number 1 0 s) in t (shift_in l s) (or_none (bells_in l s)) (note_in l (drop at s))

-- the one of these notes, whose records lie one after the other from a place on, that begins at another
unfoldable pub note_at : Layout → List Note → ℕ → ℕ → Note
note_at l [] from at = no_note
note_at l (n ∷ ns) from at = cond (eqb from at) n (note_at l ns (from + (1 + note_length l (length n.listed))) at)

-- of the note of a phrase whose record would begin at a place
unfoldable pub in_phrase : Test → Phrase → ℕ → Bool
in_phrase t x at = let l : Layout = layout x.version in t x.shift x.bells (note_at l x.notes (note_count_at l (length x.bells) + l.count_bytes) at)

-- an outcome, but that a refusal of the one number is one of the other where the test of its place fails
abbrev pub retold : {A : Type 0} → ℕ → ℕ → (ℕ → Bool) → Outcome A → Outcome A
retold old new right (ok a) = ok a
retold old new right (refused n at) = refused (cond (eqb n old && not (right at)) new n) at

-- ---- the congruences

-- The one outcome is the other, told anew.
pub record Told {A : Type 0} (old new : ℕ) (right : ℕ → Bool) (was is : Outcome A) : Type 0 where
  pub told : is ≡ retold old new right was

module _ (old new : ℕ) (other : (n : ℕ) → within silent_key wrong_times n ≡ false → eqb n old ≡ false) where
  module _ (right : ℕ → Bool) where
    -- ---- what has no such number

    module _ {A : Type 0} where
      -- A value stays.
      pub told_value : (a : A) → Told old new right (ok a) (ok a)
      told_value a = record { told = refl }

      -- So does a test with another number.
      pub told_require : (b : Bool) (n at : ℕ) {f g : Outcome A} → within silent_key wrong_times n ≡ false → Told old new right f g
          → Told old new right (◌>>◌ (require b n at) f) (◌>>◌ (require b n at) g)
      told_require true n at o e = e
      told_require false n at o e = record { told = sym (ap (λ (b : Bool). refused (cond (b && not (right at)) new n) at) (other n o)) }

      told_then : {B : Type 0} (p o : Outcome B) {f g : B → Outcome A} → Told old new right p o → ((b : B) → p ≡ ok b → Told old new right (f b) (g b))
          → Told old new right (◌>>=◌ p f) (◌>>=◌ o g)
      told_then {B} (ok b) o {f} {g} e h = record { told = ap (λ (q : Outcome B). ◌>>=◌ q g) e.told ∙ (h b refl).told }
      told_then {B} (refused n at) o {f} {g} e h = record { told = ap (λ (q : Outcome B). ◌>>=◌ q g) e.told }

    module _ (l : Layout) where
      bell_rules_told : (before : List Bell) (at : ℕ) (b : Bell) → Told old new right (bell_rules l before at b) (bell_rules l before at b)
      unfolding bell_rules within
      bell_rules_told before at b =
          told_require (bell_in_range l b) wrong_bell at refl (told_require (is_none (find_sounding (sounding b) before)) doubled_key at refl (told_value b))

      bell_record_told : (before : List Bell) (at : ℕ) (p : List ℕ) → Told old new right (bell_record l before at p) (bell_record l before at p)
      unfolding bell_record within
      bell_record_told before at p = told_require (leb (bell_bytes l) (length p)) wrong_end at refl (bell_rules_told before at (bell_in l p))

      bells_from_told : (s : List ℕ) (n at : ℕ) (before : List Bell) → Told old new right (bells_from l s n at before) (bells_from l s n at before)
      unfolding bells_from
      bells_from_told s zero at before = told_value before
      bells_from_told s (suc n) at before =
          let o : Outcome Bell = bell_record l before at (drop at s) in
          told_then o o (bell_record_told before at (drop at s)) (λ b e. bells_from_told s n (at + bell_bytes l) (before ++ b ∷ []))

      bells_in_told : (s : List ℕ) → Told old new right (bells_in l s) (bells_in l s)
      unfolding bells_in within
      bells_in_told s =
          told_require (ltb (bell_count_at l) (length s)) wrong_end (bell_count_at l) refl
          (told_require (within 1 most_bells (number 1 (bell_count_at l) s)) wrong_bell_count (bell_count_at l) refl (bells_from_told s (number 1 (bell_count_at l) s) (bells_at l) []))

      bells_rules_told : (bells : List Bell) (at : ℕ) (before : List Bell) → Told old new right (bells_rules l bells at before) (bells_rules l bells at before)
      unfolding bells_rules
      bells_rules_told [] at before = told_value before
      bells_rules_told (b ∷ bs) at before =
          told_then (bell_rules l before at b) (bell_rules l before at b) (bell_rules_told before at b) (λ c e. bells_rules_told bs (at + bell_bytes l) (before ++ c ∷ []))

      all_bells_told : (bells : List Bell) → Told old new right (all_bells l bells) (all_bells l bells)
      unfolding all_bells within
      all_bells_told bells = told_require (within 1 most_bells (length bells)) wrong_bell_count (bell_count_at l) refl (bells_rules_told bells (bells_at l) [])

  -- ---- the notes, whose rules tell by a question

  module _ (q : Test) (from to : NoteRules)
      (turns : (right : ℕ → Bool) (shift : ℕ) (bells : List Bell) (own at : ℕ) (n : Note) → right at ≡ q shift bells n
      → Told old new right (from shift bells own at n) (to shift bells own at n)) where
    module _ (right : ℕ → Bool) (l : Layout) (shift : ℕ) (bells : List Bell) where
      module _ (s : List ℕ) (asked : (at : ℕ) → right at ≡ q shift bells (note_in l (drop at s))) where
        record_told : (own at : ℕ) → Told old new right (note_record_with from l shift bells own at (drop at s)) (note_record_with to l shift bells own at (drop at s))
        unfolding note_record_with within
        record_told own at =
            let p : List ℕ = drop at s in
            told_require right (leb 1 (length p)) wrong_end at refl
            (told_require right (is_note_length l (number 1 0 p)) wrong_note_length at refl
            (told_require right (ltb (number 1 0 p) (length p)) wrong_end at refl (turns right shift bells own at (note_in l p) (asked at))))

        notes_from_told : (n at : ℕ) (before : List Note) → Told old new right (notes_from_with from l s shift bells n at before) (notes_from_with to l s shift bells n at before)
        unfolding notes_from_with within
        notes_from_told zero at before = told_require right (leb (length s) at) wrong_end at refl (told_value right before)
        notes_from_told (suc n) at before =
            told_then right (note_record_with from l shift bells (length before) at (drop at s)) (note_record_with to l shift bells (length before) at (drop at s))
            (record_told (length before) at) (λ a e. notes_from_told n (at + (1 + number 1 at s)) (before ++ a ∷ []))

        notes_in_told : (at : ℕ) → Told old new right (notes_in_with from l s shift bells at) (notes_in_with to l s shift bells at)
        unfolding notes_in_with within
        notes_in_told at =
            let k : ℕ = number l.count_bytes at s in
            told_require right (leb (at + l.count_bytes) (length s)) wrong_end at refl
            (told_require right (leb k l.most_notes) too_many_notes at refl (notes_from_told k (at + l.count_bytes) []))

      -- the test answers for each of these notes, at its place
      Answers : List Note → ℕ → Type 0
      Answers [] at = Unit {0}
      Answers (n ∷ ns) at = (right at ≡ q shift bells n) × Answers ns (at + (1 + note_length l (length n.listed)))

      notes_rules_told : (ns : List Note) (at : ℕ) → Answers ns at → (before : List Note)
          → Told old new right (notes_rules_with from l shift bells ns at before) (notes_rules_with to l shift bells ns at before)
      unfolding notes_rules_with Answers within
      notes_rules_told [] at h before = told_value right before
      notes_rules_told (n ∷ ns) at h before =
          told_require right (leb (length n.listed) most_listed) wrong_note_length at refl
          (told_then right (from shift bells (length before) at n) (to shift bells (length before) at n) (turns right shift bells (length before) at n h.0)
          (λ c e. notes_rules_told ns (at + (1 + note_length l (length n.listed))) h.1 (before ++ c ∷ [])))

      all_notes_told : (ns : List Note) (at : ℕ) → Answers ns (at + l.count_bytes) → Told old new right (all_notes_with from l shift bells ns at) (all_notes_with to l shift bells ns at)
      unfolding all_notes_with within
      all_notes_told ns at h = told_require right (leb (length ns) l.most_notes) too_many_notes at refl (notes_rules_told ns (at + l.count_bytes) h [])

    -- a test that asks of the note at a place answers for each
    answers : (l : Layout) (shift : ℕ) (bells : List Bell) (f : ℕ → Note) (ns : List Note) (at : ℕ)
        → ((p : ℕ) → at ≤ p → f p ≡ note_at l ns at p) → Answers (λ p. q shift bells (f p)) l shift bells ns at
    unfolding Answers note_at
    answers l shift bells f [] at same = tt
    answers l shift bells f (n ∷ ns) at same =
        let next : ℕ = at + (1 + note_length l (length n.listed)) in
        let rest : ℕ → Note = note_at l ns next in (
          ap (q shift bells) (same at (omega arith) ∙ ap (λ (b : Bool). cond b n (rest at)) (eq-eqb at at refl)),
          answers l shift bells f ns next (λ p h. same p (omega arith) ∙ ap (λ (b : Bool). cond b n (rest p)) (ne_eqb at p (λ e. omega arith))),
        )

    -- ---- the file, and the phrase

    -- So the reading tells.
    pub reading_told : (s : List ℕ) → Told old new (in_file q s) (reading_with from s) (reading_with to s)
    unfolding reading_with reading_by_with in_file within
    reading_told s =
        let l : Layout = layout (number 1 0 s) in
        let right : ℕ → Bool = in_file q s in
        let shift : ℕ = shift_in l s in
        let k : ℕ = note_count_at l (number 1 (bell_count_at l) s) in
        told_require right (leb (length s) 0 || is_version (number 1 0 s)) wrong_version 0 refl
        (told_require right (leb uncounted_bytes (length s) && eqb (number 4 byte_count_at s) (length s - uncounted_bytes)) wrong_count 0 refl
        (told_require right (ltb cores_at (length s)) wrong_end cores_at refl
        (told_require right (within 1 most_cores (number 1 cores_at s)) wrong_cores cores_at refl
        (told_require right (leb (shift_at + l.shift_bytes) (length s)) wrong_end shift_at refl
        (told_require right (is_shift l shift) wrong_shift shift_at refl
        (told_then right (bells_in l s) (bells_in l s) (bells_in_told right l s)
        (λ bells e.
        let asked : (at : ℕ) → right at ≡ q shift bells (note_in l (drop at s)) = λ at. ap (λ (o : Outcome (List Bell)). q shift (or_none o) (note_in l (drop at s))) e in
        told_then right (notes_in_with from l s shift bells k) (notes_in_with to l s shift bells k) (notes_in_told right l shift bells s asked k) (λ notes f. told_value right _))))))))

    -- So the rules of a phrase tell.
    pub rules_told : (x : Phrase) → Told old new (in_phrase q x) (rules_with from x) (rules_with to x)
    unfolding rules_with rules_by_with in_phrase all_bells within
    rules_told x =
        let l : Layout = layout x.version in
        let right : ℕ → Bool = in_phrase q x in
        let k : ℕ = note_count_at l (length x.bells) in
        told_require right (is_version x.version) wrong_version 0 refl
        (told_require right (within 1 most_cores x.cores) wrong_cores cores_at refl
        (told_require right (is_shift l x.shift) wrong_shift shift_at refl
        (told_then right (all_bells l x.bells) (all_bells l x.bells) (all_bells_told right l x.bells)
        (λ bells e.
        let same : x.bells ≡ bells = (bells_passed l x.bells (bells_at l) [] bells (required (within 1 most_bells (length x.bells)) wrong_bell_count (bell_count_at l) e).1).1 in
        let h : Answers right l x.shift x.bells x.notes (k + l.count_bytes) =
        answers l x.shift x.bells (note_at l x.notes (k + l.count_bytes)) x.notes (k + l.count_bytes) (λ p b. refl) in
        told_then right (all_notes_with from l x.shift bells x.notes k) (all_notes_with to l x.shift bells x.notes k)
        (all_notes_told right l x.shift bells x.notes k (subst (λ (bs : List Bell). Answers right l x.shift bs x.notes (k + l.count_bytes)) same h))
        (λ notes f. told_value right _)))))
