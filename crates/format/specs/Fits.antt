-- Fields that fit their bytes. Assumes nothing.
use Rattle.std.specs.Prelude.{ℕ, ◌<◌, ◌^◌, List, [], ◌∷◌, length}
use Rattle.format.specs.Layout.{Layout, layout, head_widths, bell_widths, note_widths}
use Rattle.format.specs.Phrase.{Phrase}
use Rattle.format.specs.Writing.{bell_fields, note_fields, head_fields}

-- there is a width for each field, and the field fits it
abbrev pub FieldsFit : List ℕ → List ℕ → Type 0
FieldsFit [] [] = Unit {0}
FieldsFit [] (v ∷ vs) = ⊥
FieldsFit (w ∷ ws) [] = ⊥
FieldsFit (w ∷ ws) (v ∷ vs) = (v < 256 ^ w) × FieldsFit ws vs

-- every element has the property
unfoldable pub All : {A : Type 0} → (A → Type 0) → List A → Type 0
All P [] = Unit {0}
All P (x ∷ xs) = P x × All P xs

-- Every field of a phrase fits its bytes, the counts and the length bytes too.
pub record FitsBy (l : Layout) (x : Phrase) : Type 0 where
  pub head : FieldsFit (head_widths l) (head_fields l x)
  pub bells : All (λ b. FieldsFit (bell_widths l) (bell_fields b)) x.bells
  pub count : length x.notes < 256 ^ l.count_bytes
  pub notes : All (λ n. FieldsFit (note_widths l (length n.listed)) (note_fields l n)) x.notes

abbrev pub Fits : Phrase → Type 0
Fits x = FitsBy (layout x.version) x
