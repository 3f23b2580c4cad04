-- The reading and the rules as they were before version 3: a file of any version but 3 has the answer that it had, and so has a phrase without rests; no other version has rests.
-- Assumes nothing.
use Prim.Native.Nat.{ℕ, zero, suc, ◌+◌, ◌-◌, ◌*◌, ◌^◌, ◌<◌}
use mathlib.Core.Path.{◌≡◌, refl, sym, ap, ◌∙◌, subst}
use mathlib.Core.Bool.{Bool, true, false, ◌&&◌, ◌||◌}
use mathlib.Core.List.{List, [], ◌∷◌, ◌++◌}
use native.Mathlib.Omega.{arith}
use lib.Dec.{leb, ltb, eqb}
use lib.ListN.{length, get_or, drop}
use borrow.Author.Tests.{leb-true, leb-false, le-leb, lt-leb}
use Rattle.model.specs.Limits.{most_cores}
use Rattle.model.specs.Refusals.{wrong_version, wrong_count, wrong_end, wrong_cores, wrong_bell_count, wrong_bell, doubled_key, wrong_shift}
use Rattle.model.specs.Jobs.{Job, job}
use Rattle.format.specs.Bytes.{number, fits, within, fields_in}
use Rattle.format.specs.Layout.{Layout, first, versions, is_version, layout, byte_count_at, uncounted_bytes, cores_at, shift_at, bell_count_at, bells_at, most_bells}
use Rattle.format.specs.Outcome.{Outcome, ok, refused, ◌>>=◌, ◌>>◌, require}
use Rattle.format.specs.Phrase.{Bell, Phrase, sounding, find_sounding, is_none}
use Rattle.format.specs.Rules.{lowest_key, highest_key, is_transposition, is_shift, is_execution_range, is_rest, bell_in_range, bell_rules, bells_rules, all_bells, all_notes, rules_by, rules}
use Rattle.format.specs.Reading.{bell_in, bell_record, bells_from, shift_in, bells_in, notes_in, reading_by, reading}
use Rattle.format.specs.Valid.{Each, ValidBell, Valid}
use Rattle.format.specs.Fits.{All}
use Rattle.format.specs.Jobs.{no_bell, note, struck, jobs_of}
use Rattle.format.proofs.Passed.{required, bound, same_then, same_require}
use Rattle.format.proofs.Ranges.{bell_ranges}
use Rattle.format.proofs.Jobs.{job_is}

-- ---- bells as they were: records of seven bytes, and no rest

former_bell : List ℕ → Bell
former_bell p = record { written = number 1 0 p; transposition = number 1 1 p; least_execution = number 2 2 p; most_execution = number 2 4 p; rest = 0; priority = number 1 6 p }

former_in_range : Bell → Bool
former_in_range b =
    within lowest_key highest_key b.written
    && (is_transposition b.transposition
    && (within lowest_key highest_key (sounding b) && (is_execution_range b.least_execution b.most_execution && fits 1 b.priority)))

former_rule : List Bell → ℕ → Bell → Outcome Bell
former_rule before at b = do
  require (former_in_range b) wrong_bell at
  require (is_none (find_sounding (sounding b) before)) doubled_key at
  ok b

former_record : List Bell → ℕ → List ℕ → Outcome Bell
former_record before at p = do
  require (leb 7 (length p)) wrong_end at
  former_rule before at (former_bell p)

-- n more bells, from a place on, after those before
pub former_from : List ℕ → ℕ → ℕ → List Bell → Outcome (List Bell)
former_from s zero at before = ok before
former_from s (suc n) at before = do
  b ← former_record before at (drop at s)
  former_from s n (at + 7) (before ++ b ∷ [])

-- ---- the file as it was: of the bytes of a rest nothing is asked; the notes are as they are

former_bells : Layout → List ℕ → Outcome (List Bell)
former_bells l s = do
  require (ltb (bell_count_at l) (length s)) wrong_end (bell_count_at l)
  require (within 1 most_bells (number 1 (bell_count_at l) s)) wrong_bell_count (bell_count_at l)
  former_from s (number 1 (bell_count_at l) s) (bells_at l) []

former_by : Layout → List ℕ → Outcome Phrase
former_by l s = do
  require (leb uncounted_bytes (length s) && eqb (number 4 byte_count_at s) (length s - uncounted_bytes)) wrong_count 0
  require (ltb cores_at (length s)) wrong_end cores_at
  require (within 1 most_cores (number 1 cores_at s)) wrong_cores cores_at
  require (leb (shift_at + l.shift_bytes) (length s)) wrong_end shift_at
  require (is_shift l (shift_in l s)) wrong_shift shift_at
  bells ← former_bells l s
  notes ← notes_in l s (shift_in l s) bells (bells_at l + number 1 (bell_count_at l) s * 7)
  ok (record { version = number 1 0 s; cores = number 1 cores_at s; shift = shift_in l s; bells = bells; notes = notes })

-- the layouts of versions 1 and 2 differ in the bytes of the shift
abbrev row : ℕ → Layout
row shift = record { shift_bytes = shift; rest_bytes = 0; count_bytes = 1; listed_bytes = 1; most_notes = 64 }

former_layout : ℕ → Layout
former_layout v = get_or (row 0 ∷ row 1 ∷ []) (v - 1) (row 0)

pub former_reading : List ℕ → Outcome Phrase
former_reading s = do
  require (leb (length s) 0 || within 1 2 (number 1 0 s)) wrong_version 0
  former_by (former_layout (number 1 0 s)) s

-- ---- the rules as they were, of a phrase that is to be written

former_rules : List Bell → ℕ → List Bell → Outcome (List Bell)
former_rules [] at before = ok before
former_rules (b ∷ bs) at before = do
  c ← former_rule before at b
  former_rules bs (at + 7) (before ++ c ∷ [])

former_all : Layout → List Bell → Outcome (List Bell)
former_all l bells = do
  require (within 1 most_bells (length bells)) wrong_bell_count (bell_count_at l)
  former_rules bells (bells_at l) []

former_asked : Layout → Phrase → Outcome Phrase
former_asked l x = do
  require (within 1 most_cores x.cores) wrong_cores cores_at
  require (is_shift l x.shift) wrong_shift shift_at
  bells ← former_all l x.bells
  notes ← all_notes l x.shift bells x.notes (bells_at l + length x.bells * 7)
  ok (record { version = x.version; cores = x.cores; shift = x.shift; bells = bells; notes = notes })

pub former_asking : Phrase → Outcome Phrase
former_asking x = do
  require (within 1 2 x.version) wrong_version 0
  former_asked (former_layout x.version) x

-- the bell has no rest
abbrev pub Unrested : Bell → Type 0
Unrested b = b.rest ≡ 0

-- ---- where a rest takes no bytes, bells are read as they were, and asked

module _ (l : Layout) (none : l.rest_bytes ≡ 0) where
  bell_record_holds : (before : List Bell) (at : ℕ) (p : List ℕ) → bell_record l before at p ≡ former_record before at p
  unfolding bell_record bell_in bell_rules bell_in_range is_rest fields_in number former_record former_bell former_rule former_in_range
  bell_record_holds before at p = rw none refl

  -- Bells are read as they were, from a place on.
  pub bells_as_formerly : (s : List ℕ) (n at : ℕ) (before : List Bell) → bells_from l s n at before ≡ former_from s n at before
  unfolding bells_from former_from
  bells_as_formerly s zero at before = refl
  bells_as_formerly s (suc n) at before =
      (λ i. ◌>>=◌ (bell_record_holds before at (drop at s) i) (λ b. bells_from l s n (at + (7 + none i)) (before ++ b ∷ [])))
      ∙ same_then (former_record before at (drop at s)) _ _ (λ b. bells_as_formerly s n (at + 7) (before ++ b ∷ []))

  by_formerly : (s : List ℕ) → reading_by l s ≡ former_by l s
  unfolding reading_by former_by bells_in former_bells
  by_formerly s = rw bells_as_formerly (rw none refl)

  bell_asked : (before : List Bell) (at : ℕ) (b : Bell) → Unrested b → bell_rules l before at b ≡ former_rule before at b
  unfolding bell_rules bell_in_range is_rest former_rule former_in_range
  bell_asked before at b e = rw none (rw e refl)

  bells_asked : (bs : List Bell) → All Unrested bs → (at : ℕ) (before : List Bell) → bells_rules l bs at before ≡ former_rules bs at before
  unfolding bells_rules former_rules All
  bells_asked [] f at before = refl
  bells_asked (b ∷ bs) f at before =
      (λ i. ◌>>=◌ (bell_asked before at b f.0 i) (λ c. bells_rules l bs (at + (7 + none i)) (before ++ c ∷ [])))
      ∙ same_then (former_rule before at b) _ _ (λ c. bells_asked bs f.1 (at + 7) (before ++ c ∷ []))

  by_asked : (x : Phrase) → All Unrested x.bells → rules_by l x ≡ former_asked l x
  unfolding rules_by former_asked all_bells former_all
  by_asked x f = rw (bells_asked x.bells f) (rw none refl)

-- ---- all versions but 3

-- A number that is not the next is at most the next exactly if it is at most this.
pub not_the_next : (n v : ℕ) → (v ≡ suc n → ⊥) → leb v (suc n) ≡ leb v n
not_the_next n v other = go (leb v n) refl (leb v (suc n)) refl
  where
    go : (b : Bool) → leb v n ≡ b → (c : Bool) → leb v (suc n) ≡ c → leb v (suc n) ≡ leb v n
    go true q c r = le-leb v (suc n) (omega (arith, leb-true v n q)) ∙ sym q
    go false q true r = absurd (other (omega (arith, leb-false v n q, leb-true v (suc n) r)))
    go false q false r = r ∙ sym q

-- But for 3 there are two versions.
pub two_versions : (v : ℕ) → (v ≡ 3 → ⊥) → is_version v ≡ within 1 2 v
unfolding is_version within
two_versions v other = ap (λ (b : Bool). leb 1 v && b) (not_the_next 2 v other)

former_layout_holds : (v : ℕ) → (v ≡ 3 → ⊥) → (layout v ≡ former_layout v) × ((layout v).rest_bytes ≡ 0)
unfolding layout former_layout
former_layout_holds v other = go (v - 1) refl
  where
    go : (k : ℕ) → k ≡ v - 1 → (get_or versions k first ≡ get_or (row 0 ∷ row 1 ∷ []) k (row 0)) × ((get_or versions k first).rest_bytes ≡ 0)
    go zero e = (refl, refl)
    go (suc zero) e = (refl, refl)
    go (suc (suc zero)) e = absurd (other (omega arith))
    go (suc (suc (suc k))) e = (refl, refl)

-- A file of any version but 3 has the answer that it had: one of versions 1 and 2, the empty one, and one of a version that there is not.
pub as_formerly : (s : List ℕ) → (number 1 0 s ≡ 3 → ⊥) → reading s ≡ former_reading s
unfolding reading former_reading
as_formerly s other =
    let (same, none) = former_layout_holds (number 1 0 s) other in
    same_require _ _ wrong_version 0 _ _ (ap (λ (b : Bool). leb (length s) 0 || b) (two_versions (number 1 0 s) other))
    (by_formerly (layout (number 1 0 s)) none s ∙ ap (λ (l : Layout). former_by l s) same)

-- So has a phrase that is to be written and has no rests, whatever the widths of its fields.
pub asked_as_formerly : (x : Phrase) → (x.version ≡ 3 → ⊥) → All Unrested x.bells → rules x ≡ former_asking x
unfolding rules former_asking
asked_as_formerly x other f =
    let (same, none) = former_layout_holds x.version other in
    same_require _ _ wrong_version 0 _ _ (two_versions x.version other)
    (by_asked (layout x.version) none x f ∙ ap (λ (l : Layout). former_asked l x) same)

-- ---- version 3

filled : (n : ℕ) (s : List ℕ) → n < number 1 0 s → 0 < length s
unfolding number
filled n [] h = absurd (omega arith)
filled n (b ∷ s) h = omega arith

-- A file of a version beyond the last is refused.
pub beyond : (n : ℕ) (s : List ℕ) (o : Outcome Phrase) → n < number 1 0 s
    → ◌>>◌ (require (leb (length s) 0 || within 1 n (number 1 0 s)) wrong_version 0) o ≡ refused wrong_version 0
unfolding within
beyond n s o h =
    (λ i. ◌>>◌ (require (lt-leb (length s) 0 (filled n s h) i || leb 1 (number 1 0 s) && lt-leb (number 1 0 s) n h i) wrong_version 0) o) ∙ never (leb 1 (number 1 0 s))
  where
    never : (b : Bool) → ◌>>◌ (require (b && false) wrong_version 0) o ≡ refused wrong_version 0
    never true = refl
    never false = refl

-- A file of version 3 was refused; so no other file has another answer now.
pub third_refused : (s : List ℕ) → number 1 0 s ≡ 3 → former_reading s ≡ refused wrong_version 0
unfolding former_reading
third_refused s e = beyond 2 s (former_by (former_layout (number 1 0 s)) s) (omega arith)

-- ---- no rests but in version 3

and_one : (bs : List Bell) (b : Bell) → All Unrested bs → Unrested b → All Unrested (bs ++ b ∷ [])
unfolding All
and_one [] b f e = (e, tt)
and_one (c ∷ bs) b f e = (f.0, and_one bs b f.1 e)

former_unrested : (s : List ℕ) (n at : ℕ) (before bells : List Bell) → All Unrested before → former_from s n at before ≡ ok bells → All Unrested bells
unfolding former_from former_record former_rule former_bell
former_unrested s zero at before bells f e = subst (All Unrested) (cc e) f
former_unrested s (suc n) at before bells f e =
    let p : List ℕ = drop at s in
    let step = bound (former_record before at p) e in
    let long = required (leb 7 (length p)) wrong_end at step.1 in
    let range = required (former_in_range (former_bell p)) wrong_bell at long.1 in
    let alone = required (is_none (find_sounding (sounding (former_bell p)) before)) doubled_key at range.1 in
    let is : former_bell p ≡ step.0 = cc alone.1 in
    former_unrested s n (at + 7) (before ++ step.0 ∷ []) bells (and_one before step.0 f (ap (λ (b : Bell). b.rest) (sym is))) step.2

-- The bells of a file of any version but 3 have no rest.
pub unrested : (s : List ℕ) (x : Phrase) → (number 1 0 s ≡ 3 → ⊥) → reading s ≡ ok x → All Unrested x.bells
unfolding former_reading former_by former_bells All
unrested s x other e =
    let l : Layout = former_layout (number 1 0 s) in
    let version = required (leb (length s) 0 || within 1 2 (number 1 0 s)) wrong_version 0 (sym (as_formerly s other) ∙ e) in
    let count = required (leb uncounted_bytes (length s) && eqb (number 4 byte_count_at s) (length s - uncounted_bytes)) wrong_count 0 version.1 in
    let there = required (ltb cores_at (length s)) wrong_end cores_at count.1 in
    let cores = required (within 1 most_cores (number 1 cores_at s)) wrong_cores cores_at there.1 in
    let reach = required (leb (shift_at + l.shift_bytes) (length s)) wrong_end shift_at cores.1 in
    let shift = required (is_shift l (shift_in l s)) wrong_shift shift_at reach.1 in
    let bells = bound (former_bells l s) shift.1 in
    let notes = bound (notes_in l s (shift_in l s) bells.0 (bells_at l + number 1 (bell_count_at l) s * 7)) bells.2 in
    let some = required (ltb (bell_count_at l) (length s)) wrong_end (bell_count_at l) bells.1 in
    let few = required (within 1 most_bells (number 1 (bell_count_at l) s)) wrong_bell_count (bell_count_at l) some.1 in
    let is : record { version = number 1 0 s; cores = number 1 cores_at s; shift = shift_in l s; bells = bells.0; notes = notes.0 } ≡ x = cc notes.2 in
    subst (λ (y : Phrase). All Unrested y.bells) is (former_unrested s (number 1 (bell_count_at l) s) (bells_at l) [] bells.0 tt few.1)

no_rests : (l : Layout) → l.rest_bytes ≡ 0 → (before bells : List Bell) → Each (ValidBell l) before bells → All Unrested bells
unfolding Each All
no_rests l none before [] v = tt
no_rests l none before (b ∷ bs) v =
    let small : b.rest < 256 ^ 0 = subst (λ (w : ℕ). b.rest < 256 ^ w) none (bell_ranges l b v.0.in_range).rest.1 in
    (omega arith, no_rests l none (before ++ b ∷ []) bs v.1)

-- Nor have those of a phrase of any version but 3 that may be written.
pub valid_unrested : (x : Phrase) → (x.version ≡ 3 → ⊥) → Valid x → All Unrested x.bells
valid_unrested x other v = no_rests (layout x.version) (former_layout_holds x.version other).1 [] x.bells v.fields.bells

-- ---- its jobs

no_rest : (bells : List Bell) → All Unrested bells → (i : ℕ) → (get_or bells i no_bell).rest ≡ 0
unfolding All
no_rest [] f i = refl
no_rest (b ∷ bs) f zero = f.0
no_rest (b ∷ bs) f (suc i) = no_rest bs f.1 i

-- A phrase whose bells have no rest has jobs without one; so its runs and its analysis are those of before (model/proofs/Unrested).
pub jobs_unrested : (x : Phrase) → All Unrested x.bells → (i : ℕ) → i < length (jobs_of x) → (job (jobs_of x) i).rest ≡ 0
jobs_unrested x f i h =
    ap (λ (j : Job). j.rest) (job_is x i h)
    ∙ no_rest x.bells f (struck x.shift x.bells (note x i))
