-- A phrase read and written again, and the numbers of both. Assumes nothing.
use Prim.Native.Nat.{ℕ, ◌≤◌, ◌<◌}
use mathlib.Core.Path.{◌≡◌, refl, ap, ◌∙◌}
use mathlib.Core.Bool.{Bool, true, false}
use mathlib.Core.List.{List}
use native.Mathlib.Omega.{arith}
use lib.Dec.{leb}
use lib.ListN.{length, take, drop}
use lib.Seq.{take_at}
use Rattle.model.specs.Refusals.{short_file}
use Rattle.format.specs.Bytes.{AreBytes}
use Rattle.format.specs.Outcome.{Outcome, ok, refused, ◌>>◌, require}
use Rattle.format.specs.Phrase.{Phrase}
use Rattle.format.specs.Rules.{rules}
use Rattle.format.specs.Reading.{reading}
use Rattle.format.specs.Writing.{written, writing, leaves}
use Rattle.format.proofs.Files.{written_length}
use Rattle.format.proofs.Layouts.{longest}
use Rattle.format.proofs.Refusals.{some_number, refused_within, rules_refused_within}
use Rattle.format.proofs.Theorems.{sound, write_only, write_read, read_write}
use Rattle.rows.specs.PhraseTable.{phrase_table, phrase_of}
use Rattle.rows.proofs.PhraseTable.{phrase_of_holds}
use Rattle.std.specs.Prelude.{Ok, Err}
use Rattle.model.specs.declared.refusals.Refusal.{Refusal}
use Rattle.writer.specs.internal.Answers.{writing_of}
use Rattle.phrase.specs.Host.{places}

-- ---- reading

module _ (s : List ℕ) where
  -- The table of what was read is written as the file.
  pub written_again : AreBytes s → (x : Phrase) → reading s ≡ ok x → writing (phrase_of (phrase_table (ok x))) (length s) ≡ ok s
  written_again bytes x e =
      ap (λ (y : Phrase). writing y (length s)) (phrase_of_holds x (sound s x bytes e)) ∙ write_read s x (length s) bytes e (omega arith)

  -- A refusal has a number, and a place that is apart.
  pub unread_apart : (n at : ℕ) → reading s ≡ refused n at → (1 ≤ n) × (at < places)
  unread_apart n at e = let w = refused_within s n at e in (some_number n w.0, omega (arith, w.1))

-- ---- writing

-- What the code wrote was written.
pub was_written : (o : Outcome (List ℕ)) (size : ℕ) → writing_of o ≡ Ok size → (s : List ℕ) × (o ≡ ok s) × (size ≡ length s)
was_written (ok s) size e = (s, refl, cc)
was_written (refused n at) size e = let z : ◌≡◌ {A = ℕ} 0 1 = cc in absurd (omega arith)

-- What it refused was refused.
pub was_unwritten : (o : Outcome (List ℕ)) (r : Refusal) → writing_of o ≡ Err r → o ≡ refused r.number r.place
was_unwritten (ok s) r e = cc
was_unwritten (refused m to) r e = cc

module _ (x : Phrase) (room : ℕ) where
  -- The bytes of what was written are read as the phrase, whatever follows.
  pub read_again : (s before : List ℕ) → writing x room ≡ ok s → reading (take (length s) (leaves (ok s) before)) ≡ ok x
  read_again s before e = ap reading (take_at s (drop (length s) before) (length s) refl) ∙ read_write x room s e

  -- A file's length is no refusal.
  pub length_apart : (s : List ℕ) → writing x room ≡ ok s → length s < places
  length_apart s e =
      let w = write_only x room s e in
      omega (arith, ap length w.1, written_length x w.0, longest x.version)

  apart : (o : Outcome Phrase) → rules x ≡ o → (t : Bool) (n at : ℕ) → ◌>>◌ o (◌>>◌ (require t short_file 0) (ok (written x))) ≡ refused n at
      → (1 ≤ n) × (at < places)
  apart (refused m to) q t n at e =
      let w = rules_refused_within x m to q in
      let number : m ≡ n = cc in
      let place : to ≡ at = cc in
      (omega (arith, some_number m w.0), omega (arith, w.1))
  apart (ok y) q true n at e = let z : ◌≡◌ {A = ℕ} 0 1 = cc in absurd (omega arith)
  apart (ok y) q false n at e =
      let number : short_file ≡ n = cc in
      let place : 0 ≡ at = cc in
      (omega arith, omega arith)

  -- A refusal has a number, and a place that is apart.
  pub unwritten_apart : (n at : ℕ) → writing x room ≡ refused n at → (1 ≤ n) × (at < places)
  unfolding writing
  unwritten_apart n at e = apart (rules x) refl (leb (length (written x)) room) n at e
