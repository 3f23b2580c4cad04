-- What the reader and the writer of the phrase file promise each other, for every version. Assumes nothing.
use Prim.Native.Nat.{ℕ, ◌≤◌}
use mathlib.Core.Path.{◌≡◌, sym, ap, subst, ◌∙◌}
use mathlib.Core.Logic.{◌↔◌}
use mathlib.Core.List.{List}
use lib.Dec.{leb}
use lib.ListN.{length}
use borrow.Author.Tests.{leb-true, le-leb}
use Rattle.model.specs.Refusals.{short_file}
use Rattle.format.specs.Bytes.{AreBytes}
use Rattle.format.specs.Outcome.{Outcome, ok, ◌>>◌, require}
use Rattle.format.specs.Phrase.{Phrase}
use Rattle.format.specs.Rules.{rules}
use Rattle.format.specs.Reading.{reading}
use Rattle.format.specs.Writing.{written, writing}
use Rattle.format.specs.Valid.{Valid}
use Rattle.format.specs.Fits.{Fits}
use Rattle.format.proofs.Passed.{required, followed}
use Rattle.format.proofs.Written.{read_written}
use Rattle.format.proofs.Read.{written_back}
use Rattle.format.proofs.Allowed.{rules_passed, rules_pass}
use Rattle.format.proofs.Ranges.{valid_fits}

-- What is read obeys the rules.
pub sound : (s : List ℕ) (x : Phrase) → AreBytes s → reading s ≡ ok x → Valid x
sound s x bytes e =
    let (fit, same) = written_back s x bytes e in
    (rules_passed x x (sym (read_written x fit) ∙ ap reading same ∙ e)).0

-- A sound file is never refused.
pub round_trip : (x : Phrase) → Valid x → reading (written x) ≡ ok x
round_trip x v = read_written x (valid_fits x v) ∙ rules_pass x v

-- Bytes are read as a phrase exactly if the phrase is valid and they are its file.
pub exactly : (s : List ℕ) (x : Phrase) → AreBytes s → (reading s ≡ ok x) ↔ (Valid x × (written x ≡ s))
exactly s x bytes = (λ e. (sound s x bytes e, (written_back s x bytes e).1), λ h. rw h.1 at (round_trip x h.0))

-- Two valid phrases with one file are one phrase.
pub one_phrase : (x y : Phrase) → Valid x → Valid y → written x ≡ written y → x ≡ y
one_phrase x y v w e = let s = sym (round_trip x v) ∙ ap reading e ∙ round_trip y w in cc s

-- ---- writing

-- A valid phrase is written as its file, given the room.
pub write_valid : (x : Phrase) (room : ℕ) → Valid x → length (written x) ≤ room → writing x room ≡ ok (written x)
unfolding writing
write_valid x room v h = simp (rules_pass x v, le-leb (length (written x)) room h)

-- What is written is the file of a valid phrase, which had room: no field of it was cut.
pub write_only : (x : Phrase) (room : ℕ) (s : List ℕ) → writing x room ≡ ok s → Valid x × (written x ≡ s) × (length s ≤ room)
unfolding writing
write_only x room s e =
    let (y, passes, more) = followed (rules x) e in
    let (fits, last) = required (leb (length (written x)) room) short_file 0 more in
    let same : written x ≡ s = cc last in
    ((rules_passed x y passes).0, same, subst (λ (f : List ℕ). length f ≤ room) same (leb-true (length (written x)) room fits))

-- Writing what was read gives the very bytes.
pub write_read : (s : List ℕ) (x : Phrase) (room : ℕ) → AreBytes s → reading s ≡ ok x → length s ≤ room → writing x room ≡ ok s
write_read s x room bytes e h =
    let (fit, same) = written_back s x bytes e in
    write_valid x room (sound s x bytes e) (subst (λ (f : List ℕ). length f ≤ room) (sym same) h) ∙ ap ok same

-- Reading what was written gives the phrase.
pub read_write : (x : Phrase) (room : ℕ) (s : List ℕ) → writing x room ≡ ok s → reading s ≡ ok x
read_write x room s e = let (v, same, h) = write_only x room s e in rw same at (round_trip x v)

-- Wherever every field fits its bytes, writing answers what reading answers to the file so written; then it asks for the room.
pub write_as_read : (x : Phrase) (room : ℕ) → Fits x
    → writing x room ≡ ◌>>◌ (reading (written x)) (◌>>◌ (require (leb (length (written x)) room) short_file 0) (ok (written x)))
unfolding writing
write_as_read x room f =
    ap (λ (o : Outcome Phrase). ◌>>◌ o (◌>>◌ (require (leb (length (written x)) room) short_file 0) (ok (written x)))) (sym (read_written x f))
