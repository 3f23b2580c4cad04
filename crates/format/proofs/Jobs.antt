-- A valid phrase is what the analysis relies on. Assumes nothing.
use Prim.Native.Nat.{ℕ, zero, suc, ◌+◌, ◌≤◌, ◌<◌}
use mathlib.Core.Path.{◌≡◌, refl, sym, ap, ◌∙◌, subst}
use mathlib.Core.Logic.{⊎_elim}
use mathlib.Core.Bool.{Bool, true, false, cond, false≢true}
use mathlib.Core.List.{List, [], ◌∷◌, ◌++◌, map, append_assoc, append-nil}
use mathlib.Core.Option.{Option, none, some}
use native.Mathlib.Omega.{arith}
use native.Mathlib.Nat.{not-suc-le-zero, le_of_suc-le-suc}
use lib.Dec.{leb, ltb, eqb}
use lib.ListN.{length, get_or, take, length-append, length-map}
use lib.Seq.{length-take-le}
use borrow.Author.Tests.{ltb-true, eqb-true}
use Rattle.model.specs.Folds.{member}
use Rattle.model.specs.Jobs.{job, nearest, as_list, predecessors}
use Rattle.model.specs.Guarantee.{WellFormed}
use Rattle.model.proofs.Booleans.{and_left, and_right}
use Rattle.model.proofs.Folds.{not_in_nil, member_cases}
use Rattle.model.proofs.Predecessors.{predecessor_earlier}
use Rattle.format.specs.Layout.{Layout, layout, most_listed}
use Rattle.format.specs.Phrase.{Bell, Note, Phrase, transposed, sounding, find_from, find, is_some}
use Rattle.format.specs.Rules.{lowest_key, bell_in_range, rises}
use Rattle.format.specs.Valid.{Each, ValidBell, ValidNote, ValidBy, Valid}
use Rattle.format.specs.Jobs.{no_bell, no_note, note, shifted_key, or_first, struck, job_of, jobs_of}
use Rattle.format.specs.internal.Analysable.{InRanges, most_predecessors, Analysable}
use Rattle.format.proofs.Ranges.{BellRanges, bell_ranges, times}

-- The element at a place of a list has the property, after the elements before it.
pub each_at : {A : Type 0} (P : List A → A → Type 0) (before xs : List A) → Each P before xs → (i : ℕ) (d : A) → i < length xs
    → P (before ++ take i xs) (get_or xs i d)
unfolding Each
each_at P before [] each i d h = absurd (not-suc-le-zero h)
each_at P before (x ∷ xs) each zero d h = rw append-nil each.0
each_at P before (x ∷ xs) each (suc i) d h = rw append_assoc at (each_at P (before ++ x ∷ []) xs each.1 i d (le_of_suc-le-suc h))

-- The number of a bell, counted on from i: the bell is there, and sounds for the key.
pub record Found (key i : ℕ) (bells : List Bell) (number : ℕ) : Type 0 where
  pub place : ℕ
  pub numbered : number ≡ i + place
  pub there : place < length bells
  pub sounds : sounding (get_or bells place no_bell) ≡ key

-- The number that the look-up finds is that of a bell which sounds for the key.
pub found_from : (key i : ℕ) (bells : List Bell) (number : ℕ) → find_from key i bells ≡ some number → Found key i bells number
unfolding find_from
found_from key i [] number e = let z : ◌≡◌ {A = ℕ} 0 1 = cc in absurd (omega arith)
found_from key i (b ∷ bs) number e = go (eqb (sounding b) key) refl e (found_from key (i + 1) bs number)
  where
    go : (t : Bool) → eqb (sounding b) key ≡ t → cond t (some i) (find_from key (i + 1) bs) ≡ some number
        → (find_from key (i + 1) bs ≡ some number → Found key (i + 1) bs number)
        → Found key i (b ∷ bs) number
    go true q f later =
        let same : i ≡ number = cc f in
        record { place = 0; numbered = omega arith; there = omega arith; sounds = eqb-true (sounding b) key q }
    go false q f later =
        let r = later f in
        record { place = suc r.place; numbered = omega (arith, r.numbered); there = omega (arith, r.there); sounds = r.sounds }

was_some : (o : Option ℕ) → is_some o ≡ true → o ≡ some (or_first o)
was_some (some x) e = refl
was_some none e = absurd (false≢true e)

-- The bell that a note strikes is there, is in range, and sounds for the key moved by the shift.
pub strikes : (l : Layout) (shift : ℕ) (bells : List Bell) (n : Note) → Each (ValidBell l) [] bells → is_some (find n.key shift bells) ≡ true
    → (struck shift bells n < length bells) × (bell_in_range l (get_or bells (struck shift bells n) no_bell) ≡ true) × (sounding (get_or bells (struck shift bells n) no_bell) ≡ transposed n.key shift)
strikes l shift bells n v e =
    let k : ℕ = struck shift bells n in
    let f = found_from (transposed n.key shift) 0 bells k (was_some (find n.key shift bells) e) in
    let same : f.place ≡ k = omega (arith, f.numbered) in
    let there : k < length bells = omega (arith, f.there) in
    (there, (each_at (ValidBell l) [] bells v k no_bell there).in_range, ap (λ (i : ℕ). sounding (get_or bells i no_bell)) (sym same) ∙ f.sounds)

-- An element of a mapped list is the image of the element.
pub get_or_map : {A B : Type 0} (f : A → B) (xs : List A) (i : ℕ) (d : A) (e : B) → i < length xs → get_or (map f xs) i e ≡ f (get_or xs i d)
get_or_map f [] i d e h = absurd (not-suc-le-zero h)
get_or_map f (x ∷ xs) zero d e h = refl
get_or_map f (x ∷ xs) (suc i) d e h = get_or_map f xs i d e (le_of_suc-le-suc h)

-- ---- predecessors are smaller than the job, and few

rises_below : (own low : ℕ) (ws : List ℕ) → rises own low ws ≡ true → (w : ℕ) → member w ws ≡ true → w < own
unfolding rises
rises_below own low [] e w m = absurd (not_in_nil w m)
rises_below own low (x ∷ xs) e w m =
    let rest = and_right (leb low x) _ e in
    ⊎_elim
    (λ q. omega (arith, ltb-true x own (and_left (ltb x own) _ rest)))
    (λ h. rises_below own (x + 1) xs (and_right (ltb x own) _ rest) w h)
    (member_cases w x xs m)

few_near : (o : Option ℕ) → length (as_list o) ≤ 1
few_near none = omega arith
few_near (some x) = omega arith

-- ---- the jobs

-- A phrase has a job for each note.
pub jobs_length : (x : Phrase) → length (jobs_of x) ≡ length x.notes
jobs_length x = length-map x.notes (job_of x.shift x.bells)

-- It is the note's.
pub job_is : (x : Phrase) (i : ℕ) → i < length (jobs_of x) → job (jobs_of x) i ≡ job_of x.shift x.bells (note x i)
job_is x i h = get_or_map (job_of x.shift x.bells) x.notes i no_note _ (omega (arith, jobs_length x))

module _ (l : Layout) (x : Phrase) (v : ValidBy l x) (i : ℕ) (h : i < length (jobs_of x)) where
  inside : i < length x.notes
  inside = omega (arith, jobs_length x)

  is_job : job (jobs_of x) i ≡ job_of x.shift x.bells (note x i)
  is_job = job_is x i h

  rule : ValidNote x.shift x.bells (take i x.notes) (note x i)
  rule = each_at (ValidNote x.shift x.bells) [] x.notes v.notes i no_note inside

  own : length (take i x.notes) ≡ i
  own = length-take-le i x.notes (omega (arith, inside))

  struck_bell : Bell
  struck_bell = get_or x.bells (struck x.shift x.bells (note x i)) no_bell

  sounds : (bell_in_range l struck_bell ≡ true) × (sounding struck_bell ≡ shifted_key x i)
  unfolding struck_bell
  sounds =
      let s = strikes l x.shift x.bells (note x i) v.bells rule.sounds in
      (s.1, s.2)

  bell : BellRanges l struck_bell
  bell = bell_ranges l struck_bell sounds.0

  key : lowest_key ≤ shifted_key x i
  key = rw sounds.1 at bell.sounds.0

  ranges : InRanges (job (jobs_of x) i)
  unfolding struck_bell
  ranges =
      let t = times (note x i).earliest_release (note x i).latest_release (note x i).deadline rule.times in
      subst InRanges (sym is_job) record { execution = bell.execution; release = (t.0, t.1); deadline = t.2; rest = bell.rest.0 }

  listed_earlier : (w : ℕ) → member w (job (jobs_of x) i).listed ≡ true → w < i
  listed_earlier w m = rises_below i 0 (note x i).listed (rw own at rule.rising) w (rw is_job at m)

  few : length (predecessors (jobs_of x) i) ≤ most_predecessors
  unfolding predecessors
  few =
      let listed : length (job (jobs_of x) i).listed ≤ most_listed = rw is_job rule.few in
      let near : Option ℕ = nearest (jobs_of x) (job (jobs_of x) i).bell i in
      omega (arith, length-append (job (jobs_of x) i).listed (as_list near), few_near near)

well_formed_holds : (l : Layout) (x : Phrase) → ValidBy l x → WellFormed (jobs_of x) x.cores
well_formed_holds l x v = record { cores = v.cores.0; lasts = λ i h. (ranges l x v i h).execution.0; earlier = listed_earlier l x v }

-- A valid phrase is what the analysis and the report rely on.
pub analysable : (x : Phrase) → Valid x → Analysable x
analysable x valid =
    let l : Layout = layout x.version in
    let v = valid.fields in
    record {
      cores = v.cores;
      job_count = omega (arith, v.note_count, jobs_length x);
      ranges = ranges l x v;
      earlier = predecessor_earlier (jobs_of x) x.cores (well_formed_holds l x v);
      few = few l x v;
      keys = key l x v;
      well_formed = well_formed_holds l x v;
    }
