-- The fields of a valid phrase fit their bytes. Assumes nothing.
use Prim.Native.Nat.{ℕ, ◌+◌, ◌-◌, ◌*◌, ◌^◌, ◌≤◌, ◌<◌}
use mathlib.Core.Path.{◌≡◌, refl}
use mathlib.Core.Logic.{◌⊎◌, inl, inr}
use mathlib.Core.Bool.{Bool, true, false, cond, ◌&&◌, false≢true}
use mathlib.Core.List.{List, [], ◌∷◌, ◌++◌}
use mathlib.Core.Option.{some}
use native.Mathlib.Nat.{suc-mul}
use native.Mathlib.Omega.{arith}
use lib.Dec.{leb, ltb, eqb}
use lib.ListN.{length, replicate, length-append}
use borrow.Author.Tests.{leb-true, ltb-true, ltb-false, eqb-true}
use Rattle.model.specs.Limits.{longest_execution, longest_rest, latest_time}
use Rattle.model.proofs.Booleans.{and_left, and_right, or_cases}
use Rattle.format.specs.Bytes.{digits, within, records}
use Rattle.format.specs.Layout.{Layout, versions, is_version, layout, bells_at, most_listed, note_length, most_bytes}
use Rattle.format.specs.Phrase.{Bell, Note, Phrase, sounding, transposed, find_from, is_some}
use Rattle.format.specs.Rules.{lowest_key, highest_key, is_transposition, is_shift, is_execution_range, is_rest, bell_in_range, are_times, rises}
use Rattle.format.specs.Valid.{Each, ValidBell, ValidNote, ValidBy, Valid}
use Rattle.format.specs.Writing.{bell_file, note_file, body}
use Rattle.format.specs.Fits.{FieldsFit, All, FitsBy, Fits}
use Rattle.format.specs.internal.Sized.{Sized}
use Rattle.format.proofs.Passed.{within_true}
use Rattle.format.proofs.Digits.{digits_length}
use Rattle.format.proofs.Layouts.{sized, lengths, notes_within, length_small, bytes_small}
use Rattle.format.proofs.Records.{BellFits, NoteFits}
use Rattle.format.proofs.Sizes.{note_size, bells_size}

-- ---- a bell

executions : (least most : ℕ) → is_execution_range least most ≡ true → (1 ≤ least) × (least ≤ most) × (most ≤ longest_execution)
unfolding is_execution_range
executions least most e =
    let r : leb least most && leb most longest_execution ≡ true = and_right (leb 1 least) _ e in
    let low = leb-true 1 least (and_left (leb 1 least) _ e) in
    let order = leb-true least most (and_left (leb least most) _ r) in
    (low, order, leb-true most longest_execution (and_right (leb least most) _ r))

-- A rest is at most the longest, and fits its bytes.
pub rest_fits : (l : Layout) (r : ℕ) → is_rest l r ≡ true → (r ≤ longest_rest) × (r < 256 ^ l.rest_bytes)
unfolding is_rest
rest_fits l r e = (leb-true r longest_rest (and_left (leb r longest_rest) _ e), ltb-true r (256 ^ l.rest_bytes) (and_right (leb r longest_rest) _ e))

-- A transposition is at most 24 up or down.
pub transposes : (t : ℕ) → is_transposition t ≡ true → (t ≤ 24) ⊎ ((232 ≤ t) × (t ≤ 255))
unfolding is_transposition
transposes t e = go (or_cases (leb t 24) (within 232 255 t) e)
  where
    go : (leb t 24 ≡ true) ⊎ (within 232 255 t ≡ true) → (t ≤ 24) ⊎ ((232 ≤ t) × (t ≤ 255))
    go (inl q) = inl (leb-true t 24 q)
    go (inr q) = inr (within_true 232 255 t q)

-- A transposition is a byte.
pub transposition_small : (t : ℕ) → is_transposition t ≡ true → t < 256
transposition_small t e = go (transposes t e)
  where
    go : (t ≤ 24) ⊎ ((232 ≤ t) × (t ≤ 255)) → t < 256
    go (inl q) = omega arith
    go (inr q) = omega arith

-- What a bell in range says of its fields.
pub record BellRanges (l : Layout) (b : Bell) : Type 0 where
  pub written : (lowest_key ≤ b.written) × (b.written ≤ highest_key)
  pub transposition : b.transposition < 256
  pub sounds : (lowest_key ≤ sounding b) × (sounding b ≤ highest_key)
  pub execution : (1 ≤ b.least_execution) × (b.least_execution ≤ b.most_execution) × (b.most_execution ≤ longest_execution)
  pub rest : (b.rest ≤ longest_rest) × (b.rest < 256 ^ l.rest_bytes)
  pub priority : b.priority < 256

-- A bell in range has its fields in their ranges.
pub bell_ranges : (l : Layout) (b : Bell) → bell_in_range l b ≡ true → BellRanges l b
unfolding bell_in_range
bell_ranges l b e =
    let is_key : ℕ → Bool = within lowest_key highest_key in
    let e1 = and_right (is_key b.written) _ e in
    let e2 = and_right (is_transposition b.transposition) _ e1 in
    let e3 = and_right (is_key (sounding b)) _ e2 in
    let e4 = and_right (is_execution_range b.least_execution b.most_execution) _ e3 in
    let e5 = and_right (is_rest l b.rest) _ e4 in
    record {
      written = within_true lowest_key highest_key b.written (and_left (is_key b.written) _ e);
      transposition = transposition_small b.transposition (and_left (is_transposition b.transposition) _ e1);
      sounds = within_true lowest_key highest_key (sounding b) (and_left (is_key (sounding b)) _ e2);
      execution = executions b.least_execution b.most_execution (and_left (is_execution_range b.least_execution b.most_execution) _ e3);
      rest = rest_fits l b.rest (and_left (is_rest l b.rest) _ e4);
      priority = ltb-true b.priority 256 e5;
    }

bell_fits : (l : Layout) (b : Bell) → bell_in_range l b ≡ true → BellFits l b
bell_fits l b e =
    let r = bell_ranges l b e in
    (omega (arith, r.written), (r.transposition, (omega (arith, r.execution), (omega (arith, r.execution), (r.rest.1, (r.priority, tt))))))

bells_fit_holds : (l : Layout) (before bells : List Bell) → Each (ValidBell l) before bells → All (BellFits l) bells
unfolding Each All
bells_fit_holds l before [] v = tt
bells_fit_holds l before (b ∷ bs) v = (bell_fits l b v.0.in_range, bells_fit_holds l (before ++ b ∷ []) bs v.1)

-- ---- a note

-- Times that pass are in order and at most an hour.
pub times : (ra rb d : ℕ) → are_times ra rb d ≡ true → (ra ≤ rb) × (rb ≤ latest_time) × (d ≤ latest_time)
unfolding are_times
times ra rb d e =
    let r : leb rb latest_time && leb d latest_time ≡ true = and_right (leb ra rb) _ e in
    let order = leb-true ra rb (and_left (leb ra rb) _ e) in
    (order, leb-true rb latest_time (and_left (leb rb latest_time) _ r), leb-true d latest_time (and_right (leb rb latest_time) _ r))

-- a key that valid bells sound for is one of theirs
found_key : (l : Layout) (key i : ℕ) (before bells : List Bell) → Each (ValidBell l) before bells → is_some (find_from key i bells) ≡ true → key ≤ highest_key
unfolding find_from Each
found_key l key i before [] v e = absurd (false≢true e)
found_key l key i before (b ∷ bs) v e = go (eqb (sounding b) key) refl e (found_key l key (i + 1) (before ++ b ∷ []) bs v.1)
  where
    go : (t : Bool) → eqb (sounding b) key ≡ t → is_some (cond t (some i) (find_from key (i + 1) bs)) ≡ true
        → (is_some (find_from key (i + 1) bs) ≡ true → key ≤ highest_key)
        → key ≤ highest_key
    go true q f later = omega (arith, eqb-true (sounding b) key q, (bell_ranges l b v.0.in_range).sounds)
    go false q f later = later f

-- A shift is a transposition, and fits its bytes.
pub shift_fits : (l : Layout) (t : ℕ) → is_shift l t ≡ true → (is_transposition t ≡ true) × (t < 256 ^ l.shift_bytes)
unfolding is_shift
shift_fits l t e = (and_left (is_transposition t) _ e, ltb-true t (256 ^ l.shift_bytes) (and_right (is_transposition t) _ e))

-- A key that a shift moves to one of a bell is a byte.
pub key_small : (key t : ℕ) → is_transposition t ≡ true → transposed key t ≤ highest_key → key < 256
key_small key t e h = go (transposes t e) (ltb t 128) refl h
  where
    go : (t ≤ 24) ⊎ ((232 ≤ t) × (t ≤ 255)) → (b : Bool) → ltb t 128 ≡ b → cond b (key + t) (key + t - 256) ≤ highest_key → key < 256
    go c true q f = omega arith
    go (inl c) false q f = omega (arith, ltb-false t 128 q)
    go (inr c) false q f = omega arith

listed_fit : (w own low : ℕ) (ws : List ℕ) → own ≤ 256 ^ w → rises own low ws ≡ true → FieldsFit (replicate (length ws) w) ws
unfolding rises
listed_fit w own low [] h e = tt
listed_fit w own low (x ∷ xs) h e =
    let r = and_right (leb low x) _ e in
    let below = ltb-true x own (and_left (ltb x own) _ r) in
    (omega arith, listed_fit w own (x + 1) xs h (and_right (ltb x own) _ r))

module _ (l : Layout) (shift : ℕ) (bells : List Bell) where
  module _ (z : Sized l) (v : Each (ValidBell l) [] bells) (s : is_transposition shift ≡ true) where
    note_fits : (before : List Note) (n : Note) → ValidNote shift bells before n → length before ≤ l.most_notes → NoteFits l n
    note_fits before n r h =
        let t = times n.earliest_release n.latest_release n.deadline r.times in
        let key : n.key < 256 = key_small n.key shift s (found_key l (transposed n.key shift) 0 [] bells v r.sounds) in
        let size : note_length l (length n.listed) < 256 = omega (arith, lengths l (length n.listed) r.few, length_small l z) in
        let listed = listed_fit l.listed_bytes (length before) 0 n.listed (omega (arith, z.listed)) r.rising in
        (size, (omega arith, (omega (arith, t), (omega (arith, t), (omega (arith, t), listed)))))

    notes_fit_holds : (before notes : List Note) → Each (ValidNote shift bells) before notes → length before + length notes ≤ l.most_notes → All (NoteFits l) notes
    unfolding Each All
    notes_fit_holds before [] r h = tt
    notes_fit_holds before (n ∷ ns) r h =
        (note_fits before n r.0 (omega arith), notes_fit_holds (before ++ n ∷ []) ns r.1 (omega (arith, length-append before (n ∷ []))))

  notes_length : (before notes : List Note) → Each (ValidNote shift bells) before notes → All (NoteFits l) notes
      → length (records (note_file l) notes) ≤ length notes * (1 + note_length l most_listed)
  unfolding records Each All
  notes_length before [] r f = omega arith
  notes_length before (n ∷ ns) r f =
      omega (
        arith,
        length-append (note_file l n) (records (note_file l) ns),
        note_size l n,
        lengths l (length n.listed) r.0.few,
        notes_length (before ++ n ∷ []) ns r.1 f.1,
        suc-mul (length ns) (1 + note_length l most_listed),
      )

-- ---- a phrase

version_small : (v : ℕ) → is_version v ≡ true → v < 256
unfolding is_version
version_small v e = omega (arith, within_true 1 (length versions) v e)

module _ (l : Layout) (z : Sized l) (x : Phrase) (v : ValidBy l x) where
  bells_ok : All (BellFits l) x.bells
  bells_ok = bells_fit_holds l [] x.bells v.bells

  notes_ok : All (NoteFits l) x.notes
  notes_ok = notes_fit_holds l x.shift x.bells z v.bells (shift_fits l x.shift v.shift).0 [] x.notes v.notes (omega (arith, v.note_count))

  -- What follows the header of a valid phrase leaves no more than the longest file.
  pub body_length : bells_at l + length (body l x) ≤ most_bytes l
  unfolding body
  body_length =
      let k : ℕ = length x.notes in
      let one : List ℕ = digits l.count_bytes k in
      let two : List ℕ = records (note_file l) x.notes in
      omega (
        arith,
        length-append (records (bell_file l) x.bells) (one ++ two),
        length-append one two,
        digits_length l.count_bytes k,
        bells_size l x.bells,
        notes_length l x.shift x.bells [] x.notes v.notes notes_ok,
        notes_within l (length x.bells) k v.bell_count.1 v.note_count,
      )

  fits_by : x.version < 256 → FitsBy l x
  fits_by version =
      record {
        head = (version, (omega (arith, body_length, bytes_small l z), (omega (arith, v.cores), ((shift_fits l x.shift v.shift).1, (omega (arith, v.bell_count), tt)))));
        bells = bells_ok;
        count = omega (arith, v.note_count, z.count);
        notes = notes_ok;
      }

-- Every field of a valid phrase fits its bytes.
pub valid_fits : (x : Phrase) → Valid x → Fits x
valid_fits x v =
    fits_by (layout x.version) (sized x.version) x v.fields (version_small x.version v.version)
