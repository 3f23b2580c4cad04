-- Reading and the rules, by the tests that led there: a law for each way out and for each turn of a loop. Assumes nothing.
use Prim.Native.Nat.{ℕ, suc, ◌+◌, ◌-◌, ◌≤◌, ◌<◌}
use mathlib.Core.Path.{◌≡◌}
use mathlib.Core.Bool.{true, false}
use mathlib.Core.List.{List, [], ◌∷◌, ◌++◌}
use mathlib.Core.Option.{none, some}
use native.Mathlib.Omega.{arith}
use lib.ListN.{length, drop}
use borrow.Author.Tests.{le-leb, lt-leb, lt-ltb, le-ltb}
use Rattle.model.specs.Refusals.{wrong_end, wrong_bell, doubled_key, wrong_note_length, silent_key, wrong_times, wrong_listed}
use Rattle.format.specs.Bytes.{number}
use Rattle.format.specs.Layout.{Layout, bell_bytes, is_note_length}
use Rattle.format.specs.Outcome.{ok, refused}
use Rattle.format.specs.Phrase.{Bell, Note, sounding, find_sounding, find, is_some}
use Rattle.format.specs.Rules.{bell_in_range, bell_rules, are_times, rises, note_rules}
use Rattle.format.specs.Reading.{bell_in, bell_record, note_in, note_record, bells_from, notes_from}

-- ---- the rules of a bell and of a note

module _ (l : Layout) (bs : List Bell) (at : ℕ) (b : Bell) where
  -- A bell out of its ranges is refused.
  pub outside : bell_in_range l b ≡ false → bell_rules l bs at b ≡ refused wrong_bell at
  unfolding bell_rules
  outside e = simp e

  module _ (e : bell_in_range l b ≡ true) where
    -- A bell in range is refused where one before sounds for its key.
    pub doubled : (k : ℕ) → find_sounding (sounding b) bs ≡ some k → bell_rules l bs at b ≡ refused doubled_key at
    unfolding bell_rules
    doubled k f = simp (e, f)

    -- A bell in range passes where none before sounds for its key.
    pub whole : find_sounding (sounding b) bs ≡ none → bell_rules l bs at b ≡ ok b
    unfolding bell_rules
    whole f = simp (e, f)

module _ (shift : ℕ) (bs : List Bell) (own at : ℕ) (n : Note) where
  -- A note is refused for wrong times.
  pub bad_times : are_times n.earliest_release n.latest_release n.deadline ≡ false → note_rules shift bs own at n ≡ refused wrong_times at
  unfolding note_rules
  bad_times e = simp e

  module _ (e : are_times n.earliest_release n.latest_release n.deadline ≡ true) where
    -- A note with right times is refused where no bell sounds for its key.
    pub no_bell_holds : is_some (find n.key shift bs) ≡ false → note_rules shift bs own at n ≡ refused silent_key at
    unfolding note_rules
    no_bell_holds f = simp (e, f)

    module _ (f : is_some (find n.key shift bs) ≡ true) where
      -- A note with right times and a bell is refused for numbers that do not rise below its own.
      pub bad_listed : rises own 0 n.listed ≡ false → note_rules shift bs own at n ≡ refused wrong_listed at
      unfolding note_rules
      bad_listed g = simp (e, f, g)

      -- Any other note passes.
      pub right : rises own 0 n.listed ≡ true → note_rules shift bs own at n ≡ ok n
      unfolding note_rules
      right g = simp (e, f, g)

-- ---- the records of a file

module _ (l : Layout) (bs : List Bell) (at : ℕ) (p : List ℕ) where
  -- A record that ends too early is no bell.
  pub short : length p < bell_bytes l → bell_record l bs at p ≡ refused wrong_end at
  unfolding bell_record
  short h = simp (lt-leb _ _ h)

  -- A record that is long enough is read by the rules of a bell.
  pub long : bell_bytes l ≤ length p → bell_record l bs at p ≡ bell_rules l bs at (bell_in l p)
  unfolding bell_record
  long h = simp (le-leb _ _ h)

module _ (l : Layout) (shift : ℕ) (bs : List Bell) (own at : ℕ) (p : List ℕ) where
  -- A record without a length byte is no note.
  pub no_length : length p < 1 → note_record l shift bs own at p ≡ refused wrong_end at
  unfolding note_record
  no_length h = simp (lt-leb _ _ h)

  module _ (h : 1 ≤ length p) where
    -- A record with a wrong length is no note.
    pub bad_length : is_note_length l (number 1 0 p) ≡ false → note_record l shift bs own at p ≡ refused wrong_note_length at
    unfolding note_record
    bad_length e = simp (le-leb _ _ h, e)

    module _ (e : is_note_length l (number 1 0 p) ≡ true) where
      -- A record that ends too early is no note.
      pub cut : length p ≤ number 1 0 p → note_record l shift bs own at p ≡ refused wrong_end at
      unfolding note_record
      cut g = simp (le-leb _ _ h, e, le-ltb _ _ g)

      -- A record of a right length that is there is read by the rules of a note.
      pub there : number 1 0 p < length p → note_record l shift bs own at p ≡ note_rules shift bs own at (note_in l p)
      unfolding note_record
      there g = simp (le-leb _ _ h, e, lt-ltb _ _ g)

-- ---- a turn of a loop, with i of n done

module _ (l : Layout) (s : List ℕ) (n i at : ℕ) (bs : List Bell) (h : i < n) where
  left : n - i ≡ suc (n - (i + 1))
  left = omega arith

  -- A bell that is read is put after those before, and the next is read after its record.
  pub more_bells : (b : Bell) → bell_record l bs at (drop at s) ≡ ok b → bells_from l s (n - i) at bs ≡ bells_from l s (n - (i + 1)) (at + bell_bytes l) (bs ++ b ∷ [])
  unfolding bells_from
  more_bells b e = rw left (simp e)

  -- A bell that is refused ends the reading of bells.
  pub stop_bells : (r to : ℕ) → bell_record l bs at (drop at s) ≡ refused r to → bells_from l s (n - i) at bs ≡ refused r to
  unfolding bells_from
  stop_bells r to e = rw left (simp e)

  module _ (shift : ℕ) (ns : List Note) where
    -- A note that is read is put after those before, and the next is read after its record.
    pub more_notes : (a : Note) → note_record l shift bs (length ns) at (drop at s) ≡ ok a
        → notes_from l s shift bs (n - i) at ns ≡ notes_from l s shift bs (n - (i + 1)) (at + (1 + number 1 at s)) (ns ++ a ∷ [])
    unfolding notes_from
    more_notes a e = rw left (simp e)

    -- A note that is refused ends the reading of notes.
    pub stop_notes : (r to : ℕ) → note_record l shift bs (length ns) at (drop at s) ≡ refused r to → notes_from l s shift bs (n - i) at ns ≡ refused r to
    unfolding notes_from
    stop_notes r to e = rw left (simp e)
