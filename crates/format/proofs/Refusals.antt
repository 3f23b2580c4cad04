-- The numbers and places of the refusals of reading and of the rules: 1 to 12 and 19, and no place beyond the longest file of the version. Assumes nothing.
use Prim.Native.Nat.{ℕ, zero, suc, ◌+◌, ◌-◌, ◌*◌, ◌≤◌}
use mathlib.Core.Path.{◌≡◌, refl, sym}
use mathlib.Core.Bool.{Bool, true, false, ◌&&◌, ◌||◌, false≢true}
use mathlib.Core.List.{List, [], ◌∷◌, ◌++◌}
use native.Mathlib.Nat.{suc-mul}
use native.Mathlib.Omega.{arith}
use lib.Dec.{leb, ltb, eqb}
use lib.ListN.{length, drop}
use borrow.Author.Tests.{leb-true}
use Rattle.model.specs.Limits.{most_cores}
use Rattle.model.specs.Refusals.{wrong_version, wrong_count, wrong_end, wrong_cores, wrong_bell_count, wrong_bell, doubled_key, too_many_notes, wrong_note_length, silent_key, wrong_times, wrong_listed, wrong_shift}
use Rattle.format.specs.Bytes.{number, within}
use Rattle.format.specs.Layout.{Layout, is_version, layout, byte_count_at, uncounted_bytes, cores_at, shift_at, bell_count_at, bells_at, bell_bytes, note_count_at, most_bells, most_listed, note_length, listed_count, is_note_length, most_bytes, longest_file}
use Rattle.format.specs.Outcome.{Outcome, ok, refused, ◌>>=◌, ◌>>◌, require}
use Rattle.format.specs.Phrase.{Bell, Note, Phrase, sounding, find_sounding, find, is_none, is_some}
use Rattle.format.specs.Rules.{is_shift, bell_in_range, bell_rules, are_times, rises, note_rules, bells_rules, notes_rules, all_bells, all_notes, rules_by, rules}
use Rattle.format.specs.Reading.{bell_in, bell_record, note_in, note_record, bells_from, notes_from, shift_in, bells_in, notes_in, reading_by, reading}
use Rattle.format.proofs.Passed.{within_true, never, required}
use Rattle.format.proofs.Digits.{number_drop}
use Rattle.format.proofs.Layouts.{longest, length_is, lengths, head_within, bells_within, notes_within}

-- a number that a refusal of reading or of the rules may have: 1 to 12, or 19
unfoldable pub is_reading_refusal : ℕ → Bool
unfolding within
is_reading_refusal n = within wrong_version wrong_listed n || eqb n wrong_shift

-- Such a number is not 0.
pub some_number : (n : ℕ) → is_reading_refusal n ≡ true → 1 ≤ n
unfolding is_reading_refusal within
some_number zero e = absurd (false≢true e)
some_number (suc n) e = omega arith

-- a number and a place that a refusal may have
abbrev Known : Layout → ℕ → ℕ → Type 0
Known l n at = (is_reading_refusal n ≡ true) × (at ≤ most_bytes l)

-- the outcome has such, if it is a refusal
abbrev Refuses : {A : Type 0} → Layout → Outcome A → Type 0
Refuses l o = (n at : ℕ) → o ≡ refused n at → Known l n at

module _ {A : Type 0} (l : Layout) where
  value_refuses : (a : A) → Refuses l (ok a)
  value_refuses a n at e = absurd (never n at (sym e))

  known_refuses : (n at : ℕ) → Known l n at → Refuses {A = A} l (refused n at)
  known_refuses n at h m to e =
      let p : n ≡ m = cc in
      let q : at ≡ to = cc in
      (rw p at h.0, omega (arith, q, h.1))

  require_refuses : (b : Bool) (n at : ℕ) {k : Outcome A} → Known l n at → (b ≡ true → Refuses l k) → Refuses l (◌>>◌ (require b n at) k)
  require_refuses true n at h f = f refl
  require_refuses false n at h f = known_refuses n at h

  then_refuses : {B : Type 0} (o : Outcome B) {k : B → Outcome A} → Refuses l o → ((b : B) → o ≡ ok b → Refuses l (k b)) → Refuses l (◌>>=◌ o k)
  then_refuses (ok b) h f = f b refl
  then_refuses (refused n at) h f = known_refuses n at (h n at refl)

-- a note that is read is not longer than one that lists the most
record_size : (l : Layout) (shift : ℕ) (bells : List Bell) (own at : ℕ) (p : List ℕ) (n : Note) → note_record l shift bells own at p ≡ ok n → number 1 0 p ≤ note_length l most_listed
unfolding note_record
record_size l shift bells own at p n e =
    let some = required (leb 1 (length p)) wrong_end at e in
    let size = required (is_note_length l (number 1 0 p)) wrong_note_length at some.1 in
    let is = length_is l (number 1 0 p) size.0 in
    omega (arith, is, lengths l (listed_count l (number 1 0 p)) is.0)

module _ (l : Layout) where
  -- ---- one record

  module _ (at : ℕ) (h : at ≤ most_bytes l) where
    bell_rules_refuse : (before : List Bell) (b : Bell) → Refuses l (bell_rules l before at b)
    unfolding bell_rules is_reading_refusal
    bell_rules_refuse before b =
        require_refuses l (bell_in_range l b) wrong_bell at (refl, h) (λ r. require_refuses l (is_none (find_sounding (sounding b) before)) doubled_key at (refl, h) (λ a. value_refuses l b))

    note_rules_refuse : (shift : ℕ) (bells : List Bell) (own : ℕ) (n : Note) → Refuses l (note_rules shift bells own at n)
    unfolding note_rules is_reading_refusal
    note_rules_refuse shift bells own n =
        require_refuses l (are_times n.earliest_release n.latest_release n.deadline) wrong_times at (refl, h)
        (λ t. require_refuses l (is_some (find n.key shift bells)) silent_key at (refl, h) (λ b. require_refuses l (rises own 0 n.listed) wrong_listed at (refl, h) (λ r. value_refuses l n)))

    bell_refuses : (before : List Bell) (p : List ℕ) → Refuses l (bell_record l before at p)
    unfolding bell_record is_reading_refusal
    bell_refuses before p = require_refuses l (leb (bell_bytes l) (length p)) wrong_end at (refl, h) (λ e. bell_rules_refuse before (bell_in l p))

    note_refuses : (shift : ℕ) (bells : List Bell) (own : ℕ) (p : List ℕ) → Refuses l (note_record l shift bells own at p)
    unfolding note_record is_reading_refusal
    note_refuses shift bells own p =
        require_refuses l (leb 1 (length p)) wrong_end at (refl, h)
        (λ e. require_refuses l (is_note_length l (number 1 0 p)) wrong_note_length at (refl, h)
        (λ w. require_refuses l (ltb (number 1 0 p) (length p)) wrong_end at (refl, h) (λ r. note_rules_refuse shift bells own (note_in l p))))

  -- ---- the rules

  bells_rules_refuse : (bells : List Bell) (at : ℕ) → at + length bells * bell_bytes l ≤ most_bytes l → (before : List Bell) → Refuses l (bells_rules l bells at before)
  unfolding bells_rules
  bells_rules_refuse [] at h before = value_refuses l before
  bells_rules_refuse (b ∷ bs) at h before =
      let k = suc-mul (length bs) (bell_bytes l) in
      then_refuses l (bell_rules l before at b) (bell_rules_refuse at (omega (arith, k)) before b)
      (λ c e. bells_rules_refuse bs (at + bell_bytes l) (omega (arith, k)) (before ++ c ∷ []))

  notes_rules_refuse : (shift : ℕ) (bells : List Bell) (notes : List Note) (at : ℕ) → at + length notes * (1 + note_length l most_listed) ≤ most_bytes l → (before : List Note)
      → Refuses l (notes_rules l shift bells notes at before)
  unfolding notes_rules is_reading_refusal
  notes_rules_refuse shift bells [] at h before = value_refuses l before
  notes_rules_refuse shift bells (n ∷ ns) at h before =
      let k = suc-mul (length ns) (1 + note_length l most_listed) in
      let here : at ≤ most_bytes l = omega (arith, k) in
      require_refuses l (leb (length n.listed) most_listed) wrong_note_length at (refl, here)
      (λ few. then_refuses l (note_rules shift bells (length before) at n) (note_rules_refuse at here shift bells (length before) n)
      (λ c e. notes_rules_refuse shift bells ns (at + (1 + note_length l (length n.listed))) (omega (arith, k, lengths l (length n.listed) (leb-true (length n.listed) most_listed few))) (before ++ c ∷ [])))

  all_bells_refuse : (bells : List Bell) → Refuses l (all_bells l bells)
  unfolding all_bells is_reading_refusal
  all_bells_refuse bells =
      require_refuses l (within 1 most_bells (length bells)) wrong_bell_count (bell_count_at l) (refl, omega (arith, head_within l))
      (λ w. bells_rules_refuse bells (bells_at l) (omega (arith, bells_within l (length bells) (within_true 1 most_bells (length bells) w).1)) [])

  all_notes_refuse : (shift : ℕ) (bells : List Bell) (notes : List Note) (n : ℕ) → n ≤ most_bells → Refuses l (all_notes l shift bells notes (note_count_at l n))
  unfolding all_notes is_reading_refusal
  all_notes_refuse shift bells notes n h =
      require_refuses l (leb (length notes) l.most_notes) too_many_notes (note_count_at l n) (refl, omega (arith, bells_within l n h))
      (λ w. notes_rules_refuse shift bells notes (note_count_at l n + l.count_bytes) (notes_within l n (length notes) h (leb-true (length notes) l.most_notes w)) [])

  few_bells_holds : (bells bs : List Bell) → all_bells l bells ≡ ok bs → length bells ≤ most_bells
  unfolding all_bells
  few_bells_holds bells bs e = (within_true 1 most_bells (length bells) (required (within 1 most_bells (length bells)) wrong_bell_count (bell_count_at l) e).0).1

  rules_by_refuse : (x : Phrase) → Refuses l (rules_by l x)
  unfolding rules_by is_reading_refusal
  rules_by_refuse x =
      require_refuses l (within 1 most_cores x.cores) wrong_cores cores_at (refl, omega (arith, head_within l))
      (λ c. require_refuses l (is_shift l x.shift) wrong_shift shift_at (refl, omega (arith, head_within l))
      (λ t. then_refuses l (all_bells l x.bells) (all_bells_refuse x.bells)
      (λ bs e. then_refuses l (all_notes l x.shift bs x.notes (note_count_at l (length x.bells))) (all_notes_refuse x.shift bs x.notes (length x.bells) (few_bells_holds x.bells bs e))
      (λ ns f. value_refuses l (record { version = x.version; cores = x.cores; shift = x.shift; bells = bs; notes = ns })))))

  -- ---- the file

  module _ (s : List ℕ) where
    bells_refuse : (n at : ℕ) → at + n * bell_bytes l ≤ most_bytes l → (before : List Bell) → Refuses l (bells_from l s n at before)
    unfolding bells_from
    bells_refuse zero at h before = value_refuses l before
    bells_refuse (suc n) at h before =
        let k = suc-mul n (bell_bytes l) in
        then_refuses l (bell_record l before at (drop at s)) (bell_refuses at (omega (arith, k)) before (drop at s))
        (λ b e. bells_refuse n (at + bell_bytes l) (omega (arith, k)) (before ++ b ∷ []))

    notes_refuse : (shift : ℕ) (bells : List Bell) (n at : ℕ) → at + n * (1 + note_length l most_listed) ≤ most_bytes l → (before : List Note)
        → Refuses l (notes_from l s shift bells n at before)
    unfolding notes_from is_reading_refusal
    notes_refuse shift bells zero at h before = require_refuses l (leb (length s) at) wrong_end at (refl, omega arith) (λ e. value_refuses l before)
    notes_refuse shift bells (suc n) at h before =
        let k = suc-mul n (1 + note_length l most_listed) in
        then_refuses l (note_record l shift bells (length before) at (drop at s)) (note_refuses at (omega (arith, k)) shift bells (length before) (drop at s))
        (λ a e.
        let size = record_size l shift bells (length before) at (drop at s) a e in
        notes_refuse shift bells n (at + (1 + number 1 at s)) (omega (arith, k, size, number_drop 1 at s)) (before ++ a ∷ []))

    bells_of_refuse : Refuses l (bells_in l s)
    unfolding bells_in is_reading_refusal
    bells_of_refuse =
        let n : ℕ = number 1 (bell_count_at l) s in
        require_refuses l (ltb (bell_count_at l) (length s)) wrong_end (bell_count_at l) (refl, omega (arith, head_within l))
        (λ e. require_refuses l (within 1 most_bells n) wrong_bell_count (bell_count_at l) (refl, omega (arith, head_within l))
        (λ w. bells_refuse n (bells_at l) (omega (arith, bells_within l n (within_true 1 most_bells n w).1)) []))

    notes_of_refuse : (shift : ℕ) (bells : List Bell) (n : ℕ) → n ≤ most_bells → Refuses l (notes_in l s shift bells (note_count_at l n))
    unfolding notes_in is_reading_refusal
    notes_of_refuse shift bells n h =
        let at : ℕ = note_count_at l n in
        let k : ℕ = number l.count_bytes at s in
        let room : at ≤ most_bytes l = omega (arith, bells_within l n h) in
        require_refuses l (leb (at + l.count_bytes) (length s)) wrong_end at (refl, room)
        (λ e. require_refuses l (leb k l.most_notes) too_many_notes at (refl, room)
        (λ w. notes_refuse shift bells k (at + l.count_bytes) (notes_within l n k h (leb-true k l.most_notes w)) []))

    bells_few : (bs : List Bell) → bells_in l s ≡ ok bs → number 1 (bell_count_at l) s ≤ most_bells
    unfolding bells_in
    bells_few bs e =
        let n : ℕ = number 1 (bell_count_at l) s in
        let a = required (ltb (bell_count_at l) (length s)) wrong_end (bell_count_at l) e in
        (within_true 1 most_bells n (required (within 1 most_bells n) wrong_bell_count (bell_count_at l) a.1).0).1

    reading_by_refuses : Refuses l (reading_by l s)
    unfolding reading_by is_reading_refusal
    reading_by_refuses =
        let n : ℕ = number 1 (bell_count_at l) s in
        require_refuses l (leb uncounted_bytes (length s) && eqb (number 4 byte_count_at s) (length s - uncounted_bytes)) wrong_count 0 (refl, omega arith)
        (λ a. require_refuses l (ltb cores_at (length s)) wrong_end cores_at (refl, omega (arith, head_within l))
        (λ b. require_refuses l (within 1 most_cores (number 1 cores_at s)) wrong_cores cores_at (refl, omega (arith, head_within l))
        (λ c. require_refuses l (leb (shift_at + l.shift_bytes) (length s)) wrong_end shift_at (refl, omega (arith, head_within l))
        (λ d. require_refuses l (is_shift l (shift_in l s)) wrong_shift shift_at (refl, omega (arith, head_within l))
        (λ t. then_refuses l (bells_in l s) bells_of_refuse
        (λ bs e. then_refuses l (notes_in l s (shift_in l s) bs (note_count_at l n)) (notes_of_refuse (shift_in l s) bs n (bells_few bs e))
        (λ ns f. value_refuses l (record { version = number 1 0 s; cores = number 1 cores_at s; shift = shift_in l s; bells = bs; notes = ns }))))))))

reading_refuses : (s : List ℕ) → Refuses (layout (number 1 0 s)) (reading s)
unfolding reading is_reading_refusal
reading_refuses s =
    require_refuses (layout (number 1 0 s)) (leb (length s) 0 || is_version (number 1 0 s)) wrong_version 0 (refl, omega arith) (λ v. reading_by_refuses (layout (number 1 0 s)) s)

rules_refuse : (x : Phrase) → Refuses (layout x.version) (rules x)
unfolding rules is_reading_refusal
rules_refuse x =
    require_refuses (layout x.version) (is_version x.version) wrong_version 0 (refl, omega arith) (λ v. rules_by_refuse (layout x.version) x)

-- A refusal of reading has a number from 1 to 12 or 19, and a place in the longest file of any version, or at its end.
pub refused_within : (s : List ℕ) (n at : ℕ) → reading s ≡ refused n at → (is_reading_refusal n ≡ true) × (at ≤ longest_file)
refused_within s n at e =
    let (known, place) = reading_refuses s n at e in
    (known, omega (arith, place, longest (number 1 0 s)))

-- So has a refusal of the rules, whatever the widths of the fields.
pub rules_refused_within : (x : Phrase) (n at : ℕ) → rules x ≡ refused n at → (is_reading_refusal n ≡ true) × (at ≤ longest_file)
rules_refused_within x n at e =
    let (known, place) = rules_refuse x n at e in
    (known, omega (arith, place, longest x.version))
