-- The reading as it was before version 2: but for the order of a note's rules, a file of any version but 2 and 3 has the answer that it had; its jobs and its keys are the same.
-- Assumes nothing.
use Prim.Native.Nat.{ℕ, zero, suc, ◌+◌, ◌-◌, ◌*◌}
use mathlib.Core.Path.{◌≡◌, refl, sym, ap, ◌∙◌}
use mathlib.Core.Bool.{Bool, true, false, ◌&&◌, ◌||◌}
use mathlib.Core.List.{List, [], ◌∷◌, ◌++◌, map}
use native.Mathlib.Nat.{add-zero}
use native.Mathlib.Omega.{arith}
use lib.Dec.{leb, ltb, eqb}
use lib.ListN.{length, get_or, drop}
use borrow.Author.Tests.{ltb-true, le-leb}
use Rattle.model.specs.Refusals.{wrong_version, wrong_count, wrong_end, wrong_cores, wrong_bell_count, too_many_notes, wrong_note_length, silent_key, wrong_times, wrong_listed}
use Rattle.model.specs.Jobs.{Job}
use Rattle.format.specs.Bytes.{number, within}
use Rattle.format.specs.Layout.{Layout, first, versions, is_version, layout, is_note_length}
use Rattle.format.specs.Outcome.{Outcome, ok, refused, ◌>>=◌, ◌>>◌, require}
use Rattle.format.specs.Phrase.{Bell, Note, Phrase, transposed, find_sounding, is_some}
use Rattle.format.specs.Rules.{are_times, rises, is_shift}
use Rattle.format.specs.Reading.{note_in, bells_in, reading}
use Rattle.format.specs.Jobs.{no_bell, note, shifted_key, or_first, job_on, job_of, jobs_of}
use Rattle.format.proofs.Passed.{required, bound, same_then, same_require, passed}
use Rattle.format.proofs.Unrested.{former_from, bells_as_formerly, not_the_next, two_versions, beyond}
use Rattle.format.proofs.AnyRules.{note_record_with, notes_from_with, notes_in_with, reading_by_with, reading_with}
use Rattle.format.proofs.Retold.{in_file, retold}
use Rattle.format.proofs.Order.{key_first, reading_before, timely, strikes, from_before, from_now}

-- ---- the reading as it was, sentence by sentence; the records of bells are those before version 3, and the fields of notes those of version 1 now

-- a note's bell is found by the key as written
note_rules_before : List Bell → ℕ → ℕ → Note → Outcome Note
note_rules_before bells own at n = do
  require (is_some (find_sounding n.key bells)) silent_key at
  require (are_times n.earliest_release n.latest_release n.deadline) wrong_times at
  require (rises own 0 n.listed) wrong_listed at
  ok n

note_record_before : List Bell → ℕ → ℕ → List ℕ → Outcome Note
note_record_before bells own at p = do
  require (leb 1 (length p)) wrong_end at
  require (is_note_length first (number 1 0 p)) wrong_note_length at
  require (ltb (number 1 0 p) (length p)) wrong_end at
  note_rules_before bells own at (note_in first p)

notes_from_before : List ℕ → List Bell → ℕ → ℕ → List Note → Outcome (List Note)
notes_from_before s bells zero at done = do
  require (leb (length s) at) wrong_end at
  ok done
notes_from_before s bells (suc n) at done = do
  a ← note_record_before bells (length done) at (drop at s)
  notes_from_before s bells n (at + (1 + number 1 at s)) (done ++ a ∷ [])

-- the number of bells stands at 6, the bells from 7 on
bells_before : List ℕ → Outcome (List Bell)
bells_before s = do
  require (ltb 6 (length s)) wrong_end 6
  require (within 1 96 (number 1 6 s)) wrong_bell_count 6
  former_from s (number 1 6 s) 7 []

notes_before : List ℕ → List Bell → ℕ → Outcome (List Note)
notes_before s bells at = do
  require (leb (at + 1) (length s)) wrong_end at
  require (leb (number 1 at s) 64) too_many_notes at
  notes_from_before s bells (number 1 at s) (at + 1) []

-- a phrase has no shift
parts_before : List ℕ → Outcome Phrase
parts_before s = do
  require (leb 5 (length s) && eqb (number 4 1 s) (length s - 5)) wrong_count 0
  require (ltb 5 (length s)) wrong_end 5
  require (within 1 8 (number 1 5 s)) wrong_cores 5
  bells ← bells_before s
  notes ← notes_before s bells (7 + number 1 6 s * 7)
  ok (record { version = number 1 0 s; cores = number 1 5 s; shift = 0; bells = bells; notes = notes })

-- there is version 1 alone
pub before : List ℕ → Outcome Phrase
before s = do
  require (leb (length s) 0 || within 1 1 (number 1 0 s)) wrong_version 0
  parts_before s

-- ---- with a shift of 0 notes are read as before

-- A shift of 0 moves no key.
pub unmoved : (key : ℕ) → transposed key 0 ≡ key
unmoved key = add-zero key

note_rules_holds : (bells : List Bell) (own at : ℕ) (n : Note) → key_first 0 bells own at n ≡ note_rules_before bells own at n
unfolding key_first note_rules_before
note_rules_holds bells own at n = rw unmoved refl

note_record_holds : (bells : List Bell) (own at : ℕ) (p : List ℕ) → note_record_with key_first first 0 bells own at p ≡ note_record_before bells own at p
unfolding note_record_with note_record_before
note_record_holds bells own at p = rw note_rules_holds refl

notes_from_holds : (s : List ℕ) (bells : List Bell) (n at : ℕ) (done : List Note) → notes_from_with key_first first s 0 bells n at done ≡ notes_from_before s bells n at done
unfolding notes_from_with notes_from_before
notes_from_holds s bells zero at done = refl
notes_from_holds s bells (suc n) at done =
    let to : ℕ = at + (1 + number 1 at s) in
    ap (λ (o : Outcome Note). ◌>>=◌ o (λ a. notes_from_with key_first first s 0 bells n to (done ++ a ∷ []))) (note_record_holds bells (length done) at (drop at s))
    ∙ same_then (note_record_before bells (length done) at (drop at s)) _ _ (λ a. notes_from_holds s bells n to (done ++ a ∷ []))

notes_in_holds : (s : List ℕ) (bells : List Bell) (at : ℕ) → notes_in_with key_first first s 0 bells at ≡ notes_before s bells at
unfolding notes_in_with notes_before
notes_in_holds s bells at = rw notes_from_holds refl

bells_in_holds : (s : List ℕ) → bells_in first s ≡ bells_before s
unfolding bells_in bells_before
bells_in_holds s = rw (bells_as_formerly first refl) refl

-- ---- the file

-- the place of the shift is there where that of the cores is, and 0 is a shift: in version 1 both steps pass
parts : (s : List ℕ) → reading_by_with key_first first s ≡ parts_before s
unfolding reading_by_with parts_before is_shift number
parts s =
    ap (λ (k : Outcome Phrase). ◌>>◌ (require (leb 5 (length s) && eqb (number 4 1 s) (length s - 5)) wrong_count 0) k)
    (go (ltb 5 (length s)) refl
    (λ h. ap (λ (k : Outcome Phrase). ◌>>◌ (require (within 1 8 (number 1 5 s)) wrong_cores 5) k)
    (passed (leb 6 (length s)) wrong_end 6 _ (le-leb 6 (length s) (omega (arith, ltb-true 5 (length s) h))) ∙ simp (bells_in_holds, notes_in_holds))))
  where
    go : {f g : Outcome Phrase} (b : Bool) → ltb 5 (length s) ≡ b → (b ≡ true → f ≡ g) → ◌>>◌ (require b wrong_end 5) f ≡ ◌>>◌ (require b wrong_end 5) g
    go true q h = h refl
    go false q h = refl

one_version : (v : ℕ) → (v ≡ 2 → ⊥) → (v ≡ 3 → ⊥) → is_version v ≡ within 1 1 v
unfolding within
one_version v two three = two_versions v three ∙ ap (λ (b : Bool). leb 1 v && b) (not_the_next 1 v two)

one_layout : (v : ℕ) → (v ≡ 2 → ⊥) → (v ≡ 3 → ⊥) → layout v ≡ first
unfolding layout
one_layout v two three = go (v - 1) refl
  where
    go : (k : ℕ) → k ≡ v - 1 → get_or versions k first ≡ first
    go zero e = refl
    go (suc zero) e = absurd (two (omega arith))
    go (suc (suc zero)) e = absurd (three (omega arith))
    go (suc (suc (suc k))) e = refl

-- in the order that a note's rules had then
in_the_old_order : (s : List ℕ) → (number 1 0 s ≡ 2 → ⊥) → (number 1 0 s ≡ 3 → ⊥) → reading_before s ≡ before s
unfolding reading_with before
in_the_old_order s two three =
    same_require _ _ wrong_version 0 _ _ (ap (λ (b : Bool). leb (length s) 0 || b) (one_version (number 1 0 s) two three))
    (ap (λ (l : Layout). reading_by_with key_first l s) (one_layout (number 1 0 s) two three) ∙ parts s)

-- A file of any version but 2 and 3 has the answer that it had, but that 10 for a note with wrong times is 11: one of version 1, the empty one, and one of a version that there is not.
pub others_as_before : (s : List ℕ) → (number 1 0 s ≡ 2 → ⊥) → (number 1 0 s ≡ 3 → ⊥) → reading s ≡ retold silent_key wrong_times (in_file timely s) (before s)
others_as_before s two three = from_before s ∙ ap (retold silent_key wrong_times (in_file timely s)) (in_the_old_order s two three)

-- So has a file of version 1.
pub as_before : (s : List ℕ) → number 1 0 s ≡ 1 → reading s ≡ retold silent_key wrong_times (in_file timely s) (before s)
as_before s one = others_as_before s (λ two. omega arith) (λ three. omega arith)

-- a phrase that is read now was read then
was_read : (s : List ℕ) (x : Phrase) → (number 1 0 s ≡ 2 → ⊥) → (number 1 0 s ≡ 3 → ⊥) → reading s ≡ ok x → before s ≡ ok x
was_read s x two three e = sym (in_the_old_order s two three) ∙ from_now s ∙ ap (retold wrong_times silent_key (in_file strikes s)) e

-- A file of version 2 was refused.
pub second_before : (s : List ℕ) → number 1 0 s ≡ 2 → before s ≡ refused wrong_version 0
unfolding before
second_before s e = beyond 1 s (parts_before s) (omega arith)

-- So was one of version 3; so but for the order of a note's rules no other file has another answer now.
pub third_before : (s : List ℕ) → number 1 0 s ≡ 3 → before s ≡ refused wrong_version 0
unfolding before
third_before s e = beyond 1 s (parts_before s) (omega arith)

-- ---- the phrase, its jobs and its keys

-- A file of any version but 2 and 3 holds a phrase whose shift is 0.
pub unshifted : (s : List ℕ) (x : Phrase) → (number 1 0 s ≡ 2 → ⊥) → (number 1 0 s ≡ 3 → ⊥) → reading s ≡ ok x → x.shift ≡ 0
unfolding before parts_before
unshifted s x two three e =
    let version = required (leb (length s) 0 || within 1 1 (number 1 0 s)) wrong_version 0 (was_read s x two three e) in
    let count = required (leb 5 (length s) && eqb (number 4 1 s) (length s - 5)) wrong_count 0 version.1 in
    let there = required (ltb 5 (length s)) wrong_end 5 count.1 in
    let cores = required (within 1 8 (number 1 5 s)) wrong_cores 5 there.1 in
    let bells = bound (bells_before s) cores.1 in
    let notes = bound (notes_before s bells.0 (7 + number 1 6 s * 7)) bells.2 in
    let is : record { version = number 1 0 s; cores = number 1 5 s; shift = 0; bells = bells.0; notes = notes.0 } ≡ x = cc notes.2 in
    ap (λ (y : Phrase). y.shift) (sym is)

-- the job of a note as it was: its bell is found by the key as written
abbrev pub struck_before : List Bell → Note → ℕ
struck_before bells n = or_first (find_sounding n.key bells)

abbrev pub job_before : List Bell → Note → Job
job_before bells n = job_on (struck_before bells n) (get_or bells (struck_before bells n) no_bell) n

job_as_before : (bells : List Bell) (n : Note) → job_of 0 bells n ≡ job_before bells n
job_as_before bells n = rw unmoved refl

module _ (x : Phrase) (e : x.shift ≡ 0) where
  -- A phrase whose shift is 0 has the jobs that it had.
  pub jobs_as_before : jobs_of x ≡ map (job_before x.bells) x.notes
  jobs_as_before = ap (λ (t : ℕ). map (job_of t x.bells) x.notes) e ∙ λ i. map (λ n. job_as_before x.bells n i) x.notes

  -- Its keys are those that are written.
  pub keys_as_before : (i : ℕ) → shifted_key x i ≡ (note x i).key
  keys_as_before i = ap (transposed (note x i).key) e ∙ unmoved (note x i).key
