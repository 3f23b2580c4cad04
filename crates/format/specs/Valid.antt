-- What the rules of the file ask of a phrase. Assumes nothing.
use Rattle.std.specs.Prelude.{ℕ, ◌≤◌, ◌≡◌, true, List, [], ◌∷◌, ◌++◌, length}
use Rattle.std.proofs.Math.Option.{none}
use Rattle.model.specs.Limits.{most_cores}
use Rattle.format.specs.Layout.{Layout, is_version, layout, most_bells, most_listed}
use Rattle.format.specs.Phrase.{Bell, sounding, Note, Phrase, find_sounding, find, is_some}
use Rattle.format.specs.Rules.{is_shift, bell_in_range, are_times, rises}

-- every element of a list has the property, which may speak of the elements before it; the first has `before` before it
unfoldable pub Each : {A : Type 0} → (List A → A → Type 0) → List A → List A → Type 0
Each P before [] = Unit {0}
Each P before (x ∷ xs) = P before x × Each P (before ++ x ∷ []) xs

-- A bell after those before it: its fields are in range, and no bell before sounds for its key.
pub record ValidBell (l : Layout) (before : List Bell) (b : Bell) : Type 0 where
  pub in_range : bell_in_range l b ≡ true
  pub alone : find_sounding (sounding b) before ≡ none

-- A note after those before it, under a shift: a bell sounds for its key so moved, its times are right, and it lists at most four numbers, strictly rising, below its own.
pub record ValidNote (shift : ℕ) (bells : List Bell) (before : List Note) (n : Note) : Type 0 where
  pub sounds : is_some (find n.key shift bells) ≡ true
  pub times : are_times n.earliest_release n.latest_release n.deadline ≡ true
  pub few : length n.listed ≤ most_listed
  pub rising : rises (length before) 0 n.listed ≡ true

pub record ValidBy (l : Layout) (x : Phrase) : Type 0 where
  pub cores : (1 ≤ x.cores) × (x.cores ≤ most_cores)
  pub shift : is_shift l x.shift ≡ true
  pub bell_count : (1 ≤ length x.bells) × (length x.bells ≤ most_bells)
  pub bells : Each (ValidBell l) [] x.bells
  pub note_count : length x.notes ≤ l.most_notes
  pub notes : Each (ValidNote x.shift x.bells) [] x.notes

-- A phrase that a file may hold.
pub record Valid (x : Phrase) : Type 0 where
  pub version : is_version x.version ≡ true
  pub fields : ValidBy (layout x.version) x
