-- The file of any phrase is a list of bytes; that of a valid one is not longer than its version allows. Assumes nothing.
use Prim.Native.Nat.{ℕ, zero, suc, ◌/◌, ◌%◌, ◌≤◌}
use mathlib.Core.List.{List, [], ◌∷◌, ◌++◌}
use native.Mathlib.Nat.{not-suc-le-zero, le_of_suc-le-suc}
use native.Mathlib.Omega.{arith}
use lib.ListN.{length}
use Rattle.format.specs.Bytes.{IsByte, AreBytes, digits, fields_file, records}
use Rattle.format.specs.Layout.{Layout, layout, most_bytes, head_widths, bell_widths, note_widths}
use Rattle.format.specs.Phrase.{Bell, Note, Phrase}
use Rattle.format.specs.Valid.{Valid}
use Rattle.format.specs.Writing.{bell_fields, bell_file, note_fields, note_file, body, head_fields, written_by, written}
use Rattle.format.proofs.Layouts.{sized}
use Rattle.format.proofs.Written.{file, file_length}
use Rattle.format.proofs.Ranges.{body_length, valid_fits}

-- ---- bytes

-- a list of bytes, by its form
data Bytes : List ℕ → Type 0 where
  nil : Bytes []
  cons : (a : ℕ) {s : List ℕ} → IsByte a → Bytes s → Bytes (a ∷ s)

all_bytes : {s : List ℕ} → Bytes s → AreBytes s
all_bytes nil i g = absurd (not-suc-le-zero g)
all_bytes (cons a h hs) zero g = h
all_bytes (cons a h hs) (suc i) g = all_bytes hs i (le_of_suc-le-suc g)

append : {s t : List ℕ} → Bytes s → Bytes t → Bytes (s ++ t)
append nil ht = ht
append (cons a h hs) ht = cons a h (append hs ht)

digits_bytes : (w x : ℕ) → Bytes (digits w x)
unfolding digits
digits_bytes zero x = nil
digits_bytes (suc w) x = append (digits_bytes w (x / 256)) (cons (x % 256) (omega arith) nil)

fields_bytes : (ws vs : List ℕ) → Bytes (fields_file ws vs)
unfolding fields_file
fields_bytes [] vs = nil
fields_bytes (w ∷ ws) [] = nil
fields_bytes (w ∷ ws) (v ∷ vs) = append (digits_bytes w v) (fields_bytes ws vs)

records_bytes : {A : Type 0} (f : A → List ℕ) (xs : List A) → ((a : A) → Bytes (f a)) → Bytes (records f xs)
unfolding records
records_bytes f [] h = nil
records_bytes f (x ∷ xs) h = append (h x) (records_bytes f xs h)

bell_bytes_holds : (l : Layout) (b : Bell) → Bytes (bell_file l b)
unfolding bell_file
bell_bytes_holds l b = fields_bytes (bell_widths l) (bell_fields b)

note_bytes_holds : (l : Layout) (n : Note) → Bytes (note_file l n)
unfolding note_file
note_bytes_holds l n = fields_bytes (note_widths l (length n.listed)) (note_fields l n)

body_bytes : (l : Layout) (x : Phrase) → Bytes (body l x)
unfolding body
body_bytes l x =
    append (records_bytes (bell_file l) x.bells (bell_bytes_holds l))
    (append (digits_bytes l.count_bytes (length x.notes)) (records_bytes (note_file l) x.notes (note_bytes_holds l)))

-- The file of any phrase is a list of bytes.
pub written_bytes : (x : Phrase) → AreBytes (written x)
unfolding written written_by
written_bytes x =
    let l : Layout = layout x.version in
    all_bytes (append (fields_bytes (head_widths l) (head_fields l x)) (body_bytes l x))

-- ---- the length

-- The file of a valid phrase is not longer than its version allows.
pub written_length : (x : Phrase) → Valid x → length (written x) ≤ most_bytes (layout x.version)
unfolding written file
written_length x v =
    let l : Layout = layout x.version in
    let z = sized x.version in
    omega (arith, file_length l z x (valid_fits x v), body_length l z x v.fields)
