-- What is heard of a phrase decides its jobs; and a phrase written with a shift and its keys moved the other way is heard as before. Assumes nothing.
use Prim.Native.Nat.{ℕ, zero, suc, ◌+◌, ◌-◌, ◌^◌, max, ◌≤◌, ◌<◌}
use mathlib.Core.Path.{◌≡◌, refl, sym, ap, ◌∙◌, subst}
use mathlib.Core.Logic.{◌⊎◌, inl, inr}
use mathlib.Core.Bool.{Bool, true, false, cond, false≢true}
use mathlib.Core.List.{List, [], ◌∷◌, ◌++◌, map, map-map}
use native.Mathlib.Omega.{arith}
use lib.Dec.{leb}
use lib.ListN.{length, get_or, length-append, length-map}
use borrow.Author.Tests.{leb-true, leb-false, lt-ltb, le-ltb}
use Rattle.model.proofs.Booleans.{and_both}
use Rattle.format.specs.Bytes.{fits}
use Rattle.format.specs.Layout.{Layout, is_version, layout}
use Rattle.format.specs.Outcome.{ok}
use Rattle.format.specs.Phrase.{Bell, Note, Phrase, transposed, find_sounding, is_some}
use Rattle.format.specs.Rules.{rises, is_transposition, is_shift}
use Rattle.format.specs.Reading.{reading}
use Rattle.format.specs.Jobs.{no_note, shifted_key, jobs_of}
use Rattle.format.specs.Valid.{Each, ValidBell, ValidNote, Valid}
use Rattle.format.specs.Writing.{written}
use Rattle.format.specs.Fits.{All}
use Rattle.format.specs.Shifting.{moved, heard, opposite, shifted_by, Movable}
use Rattle.format.proofs.Passed.{within_true}
use Rattle.format.proofs.Versions.{bell_in_range_holds}
use Rattle.format.proofs.Ranges.{transposes, transposition_small}
use Rattle.format.proofs.Jobs.{get_or_map}
use Rattle.format.proofs.Theorems.{round_trip}
use Rattle.format.proofs.Before.{unmoved, job_before}

-- ---- what is heard

-- the job of a note is that of the note as it is heard, by its key
jobs_heard : (x : Phrase) → map (job_before x.bells) (heard x) ≡ jobs_of x
jobs_heard x = map-map (job_before x.bells) (moved x.shift) x.notes

module _ (x y : Phrase) (same : heard x ≡ heard y) where
  -- Phrases with the same bells of which the same is heard have the same jobs.
  pub heard_jobs : x.bells ≡ y.bells → jobs_of x ≡ jobs_of y
  heard_jobs bells = sym (jobs_heard x) ∙ (λ i. map (job_before (bells i)) (same i)) ∙ jobs_heard y

  -- Phrases of which the same is heard have the same number of notes.
  pub heard_length : length x.notes ≡ length y.notes
  heard_length = sym (length-map x.notes (moved x.shift)) ∙ ap length same ∙ length-map y.notes (moved y.shift)

  -- Phrases of which the same is heard have the same keys, moved by the shift of each.
  pub heard_keys : (i : ℕ) → i < length x.notes → shifted_key x i ≡ shifted_key y i
  heard_keys i h =
      ap (λ (n : Note). n.key) (sym (get_or_map (moved x.shift) x.notes i no_note no_note h))
      ∙ ap (λ (ns : List Note). (get_or ns i no_note).key) same
      ∙ ap (λ (n : Note). n.key) (get_or_map (moved y.shift) y.notes i no_note no_note (omega (arith, heard_length)))

-- ---- there and back

up_by : (key t : ℕ) → t < 128 → transposed key t ≡ key + t
up_by key t h = ap (λ (b : Bool). cond b (key + t) (key + t - 256)) (lt-ltb t 128 h)

down_by : (key t : ℕ) → 128 ≤ t → transposed key t ≡ key + t - 256
down_by key t h = ap (λ (b : Bool). cond b (key + t) (key + t - 256)) (le-ltb t 128 h)

-- A key moved by the opposite of a shift, and then by the shift, is the key, unless it fell below zero.
pub there_and_back : (t key : ℕ) → is_transposition t ≡ true → (t < 128 → t ≤ key) → transposed (transposed key (opposite t)) t ≡ key
there_and_back t key e above = go (transposes t e) (leb t 0) refl
  where
    written : ℕ
    written = transposed key (opposite t)

    go : (t ≤ 24) ⊎ ((232 ≤ t) × (t ≤ 255)) → (b : Bool) → leb t 0 ≡ b → transposed written t ≡ key
    go (inl up) true q =
        let small : opposite t < 128 = omega (arith, leb-true t 0 q) in
        omega (arith, leb-true t 0 q, up_by written t (omega arith), up_by key (opposite t) small)
    go (inl up) false q =
        let large : 128 ≤ opposite t = omega (arith, leb-false t 0 q) in
        omega (arith, leb-false t 0 q, above (omega arith), up_by written t (omega arith), down_by key (opposite t) large)
    go (inr down) b q =
        let small : opposite t < 128 = omega arith in
        omega (arith, down_by written t (omega arith), up_by key (opposite t) small)

-- ---- a phrase with a shift of 0, written with another

-- the version of a phrase that is written with a shift: a rest takes the bytes that it took, and there may be as many notes
with_a_shift : (v : ℕ) → is_version v ≡ true
    → (is_version (max 2 v) ≡ true) × ((layout (max 2 v)).shift_bytes ≡ 1) × ((layout v).rest_bytes ≡ (layout (max 2 v)).rest_bytes) × ((layout v).most_notes ≡ (layout (max 2 v)).most_notes)
unfolding is_version layout
with_a_shift zero e = absurd (false≢true e)
with_a_shift (suc zero) e = (refl, refl, refl, refl)
with_a_shift (suc (suc zero)) e = (refl, refl, refl, refl)
with_a_shift (suc (suc (suc zero))) e = (refl, refl, refl, refl)
with_a_shift (suc (suc (suc (suc v)))) e = absurd (omega (arith, within_true 1 3 (suc (suc (suc (suc v)))) e))

bells_valid : (k l : Layout) → k.rest_bytes ≡ l.rest_bytes → (before bells : List Bell) → Each (ValidBell k) before bells → Each (ValidBell l) before bells
unfolding Each
bells_valid k l same before [] v = tt
bells_valid k l same before (b ∷ bs) v =
    (record { in_range = sym (bell_in_range_holds k l same b) ∙ v.0.in_range; alone = v.0.alone }, bells_valid k l same (before ++ b ∷ []) bs v.1)

module _ (t : ℕ) (e : is_transposition t ≡ true) where
  sounds_alike : (n : Note) → (t < 128 → t ≤ n.key) → transposed (moved (opposite t) n).key t ≡ transposed n.key 0
  sounds_alike n above = there_and_back t n.key e above ∙ sym (unmoved n.key)

  back : (ns : List Note) → (t < 128 → All (λ n. t ≤ n.key) ns) → map (moved t) (map (moved (opposite t)) ns) ≡ map (moved 0) ns
  unfolding All
  back [] above = refl
  back (n ∷ ns) above =
      let key = sounds_alike n (λ h. (above h).0) in
      let rest = back ns (λ h. (above h).1) in
      λ i. record { key = key i; earliest_release = n.earliest_release; latest_release = n.latest_release; deadline = n.deadline; listed = n.listed } ∷ rest i

  -- only the number of the notes before counts
  notes_valid : (bells : List Bell) (done others : List Note) → length done ≡ length others → (ns : List Note) → (t < 128 → All (λ n. t ≤ n.key) ns)
      → Each (ValidNote 0 bells) done ns → Each (ValidNote t bells) others (map (moved (opposite t)) ns)
  unfolding All Each
  notes_valid bells done others same [] above v = tt
  notes_valid bells done others same (n ∷ ns) above v =
      let key : transposed (transposed n.key (opposite t)) t ≡ transposed n.key 0 = sounds_alike n (λ h. (above h).0) in
      let this : Note = moved (opposite t) n in
      let longer : length (done ++ n ∷ []) ≡ length (others ++ this ∷ []) = omega (arith, length-append done (n ∷ []), length-append others (this ∷ [])) in (
        record {
          sounds = ap (λ (k : ℕ). is_some (find_sounding k bells)) key ∙ v.0.sounds;
          times = v.0.times;
          few = v.0.few;
          rising = subst (λ (own : ℕ). rises own 0 n.listed ≡ true) same v.0.rising;
        },
        notes_valid bells (done ++ n ∷ []) (others ++ this ∷ []) longer ns (λ h. (above h).1) v.1,
      )

  module _ (x : Phrase) (none : x.shift ≡ 0) (movable : Movable t x) where
    -- The same is heard of the phrase so written.
    pub shifted_heard : heard (shifted_by t x) ≡ heard x
    shifted_heard = back x.notes movable ∙ ap (λ (u : ℕ). map (moved u) x.notes) (sym none)

    -- The phrase so written has the same jobs.
    pub shifted_jobs : jobs_of (shifted_by t x) ≡ jobs_of x
    shifted_jobs = heard_jobs (shifted_by t x) x shifted_heard refl

    -- Its keys, moved by its shift, are the same.
    pub shifted_keys : (i : ℕ) → i < length x.notes → shifted_key (shifted_by t x) i ≡ shifted_key x i
    shifted_keys i h = heard_keys (shifted_by t x) x shifted_heard i (omega (arith, length-map x.notes (moved (opposite t))))

    -- It is valid where the phrase was.
    pub shifted_valid : Valid x → Valid (shifted_by t x)
    unfolding is_shift
    shifted_valid valid =
        let v = valid.fields in
        let l : Layout = layout (max 2 x.version) in
        let (version, shift, rest, most) = with_a_shift x.version valid.version in
        let small : t < 256 ^ l.shift_bytes = subst (λ (w : ℕ). t < 256 ^ w) (sym shift) (transposition_small t e) in
        record {
          version = version;
          fields = record {
            cores = v.cores;
            shift = and_both (is_transposition t) (fits l.shift_bytes t) e (lt-ltb t (256 ^ l.shift_bytes) small);
            bell_count = v.bell_count;
            bells = bells_valid (layout x.version) l rest [] x.bells v.bells;
            note_count = omega (arith, v.note_count, most, length-map x.notes (moved (opposite t)));
            notes = notes_valid x.bells [] [] refl x.notes movable (subst (λ (u : ℕ). Each (ValidNote u x.bells) [] x.notes) none v.notes);
          };
        }

    -- Its file is read, and as that phrase.
    pub shifted_read : Valid x → reading (written (shifted_by t x)) ≡ ok (shifted_by t x)
    shifted_read valid = round_trip (shifted_by t x) (shifted_valid valid)
