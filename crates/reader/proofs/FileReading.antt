-- The reading of a whole file, by the tests that led there: its header, its shift, then what follows. Assumes nothing.
use Prim.Native.Nat.{ℕ, zero, suc, ◌+◌, ◌-◌, ◌*◌, ◌≤◌, ◌<◌}
use mathlib.Core.Path.{◌≡◌, refl, sym, ap, subst, ◌∙◌}
use mathlib.Core.Bool.{Bool, true, false, ◌&&◌, ◌||◌}
use mathlib.Core.List.{List, [], ◌∷◌, ◌++◌}
use native.Mathlib.Nat.{add-zero, zero-add}
use native.Mathlib.Omega.{arith}
use lib.Dec.{ltb, leb, eqb}
use lib.ListN.{length, take, drop, length-append, length-drop}
use borrow.Author.Tests.{le-leb, lt-leb, lt-ltb, le-ltb, eq-eqb, ne_eqb, leb-true, ltb-true}
use Rattle.model.specs.Limits.{most_cores, most_jobs}
use Rattle.model.specs.Refusals.{wrong_version, wrong_count, wrong_end, wrong_cores, wrong_bell_count, too_many_notes, wrong_shift}
use Rattle.format.specs.Bytes.{number, within}
use Rattle.format.specs.Layout.{Layout, is_version, layout, byte_count_at, uncounted_bytes, cores_at, shift_at, bell_count_at, bells_at, bell_bytes, most_bells, note_count_at}
use Rattle.format.specs.Outcome.{Outcome, ok, refused, ◌>>◌, require}
use Rattle.format.specs.Phrase.{Bell, Note, Phrase}
use Rattle.format.specs.Rules.{is_shift}
use Rattle.format.specs.Reading.{shift_in, bell_record, note_record, bells_from, notes_from, bells_in, notes_in, reading_by, reading}
use Rattle.format.proofs.Passed.{within_true, required, bound, followed}
use Rattle.rows.specs.BellRow.{bell_words, bell_row, bell_rows, bell_of_row}
use Rattle.rows.specs.NoteRow.{note_words, note_row}
use Rattle.rows.specs.PhraseTable.{bell_rows_at, note_rows_at, phrase_words}
use Rattle.rows.proofs.Records.{held, holds, begins_with_none}
use Rattle.rows.proofs.BellRow.{rows_read_back}
use Rattle.fields.specs.declared.layout.Layout.{Layout as Row}
use Rattle.fields.specs.internal.Layouts.{layout_of}
use Rattle.records.specs.internal.Answers.{reading_of}
use Rattle.reader.specs.internal.Parts.{header_of, shift_of, body_of}
use Rattle.records.specs.internal.Filling.{list_of, bells_held, BellTable, HoldsBells, HoldsNotes}
use Rattle.reader.specs.internal.Filling.{Filled, counts_in}
use Rattle.std.specs.Prelude.{Err}

-- ---- the header

module _ (s : List ℕ) where
  -- An empty file has no count.
  pub empty : length s < 1 → header_of s ≡ refused wrong_count 0
  unfolding header_of
  empty h =
      let none : length s ≤ 0 = omega arith in
      let short : length s < uncounted_bytes = omega arith in
      simp (le-leb _ _ none, lt-leb _ _ short)

  module _ (h1 : 1 ≤ length s) where
    -- A file of another version is refused.
    pub bad_version : is_version (number 1 0 s) ≡ false → header_of s ≡ refused wrong_version 0
    unfolding header_of
    bad_version h = simp (lt-leb _ _ h1, h)

    module _ (v : is_version (number 1 0 s) ≡ true) where
      -- A file that ends before the end of its count is refused.
      pub no_header : length s < uncounted_bytes → header_of s ≡ refused wrong_count 0
      unfolding header_of
      no_header h = simp (lt-leb _ _ h1, v, lt-leb _ _ h)

      module _ (h5 : uncounted_bytes ≤ length s) where
        -- A file whose count is not that of its bytes is refused.
        pub bad_bytes : (number 4 byte_count_at s ≡ length s - uncounted_bytes → ⊥) → header_of s ≡ refused wrong_count 0
        unfolding header_of
        bad_bytes h = simp (lt-leb _ _ h1, v, le-leb _ _ h5, ne_eqb _ _ h)

        module _ (c : number 4 byte_count_at s ≡ length s - uncounted_bytes) where
          -- A file that ends before its cores is refused.
          pub no_cores : length s ≤ cores_at → header_of s ≡ refused wrong_end cores_at
          unfolding header_of
          no_cores h = simp (lt-leb _ _ h1, v, le-leb _ _ h5, eq-eqb _ _ c, le-ltb _ _ h)

          module _ (h6 : cores_at < length s) where
            -- A file of too few or too many cores is refused.
            pub bad_cores : within 1 most_cores (number 1 cores_at s) ≡ false → header_of s ≡ refused wrong_cores cores_at
            unfolding header_of
            bad_cores h = simp (lt-leb _ _ h1, v, le-leb _ _ h5, eq-eqb _ _ c, lt-ltb _ _ h6, h)

            -- The header passes.
            pub header_read : within 1 most_cores (number 1 cores_at s) ≡ true → header_of s ≡ ok tt
            unfolding header_of
            header_read h = simp (lt-leb _ _ h1, v, le-leb _ _ h5, eq-eqb _ _ c, lt-ltb _ _ h6, h)

  -- A header that passes is that of a version, and of a file that reaches past its cores.
  pub header_says : (u : Unit {0}) → header_of s ≡ ok u → (is_version (number 1 0 s) ≡ true) × (cores_at < length s)
  unfolding header_of
  header_says u e =
      let version = required (leb (length s) 0 || is_version (number 1 0 s)) wrong_version 0 e in
      let count = required (leb uncounted_bytes (length s) && eqb (number 4 byte_count_at s) (length s - uncounted_bytes)) wrong_count 0 version.1 in
      let core = required (ltb cores_at (length s)) wrong_end cores_at count.1 in
      let long = ltb-true cores_at (length s) core.0 in
      (sym (ap (λ (b : Bool). b || is_version (number 1 0 s)) (lt-leb (length s) 0 (omega (arith, long)))) ∙ version.0, long)

-- ---- the shift

module _ (l : Layout) (s : List ℕ) where
  -- A file that ends before its shift is refused.
  pub no_shift : length s < shift_at + l.shift_bytes → shift_of l s ≡ refused wrong_end shift_at
  unfolding shift_of
  no_shift h = simp (lt-leb _ _ h)

  module _ (h : shift_at + l.shift_bytes ≤ length s) where
    -- A shift out of its range is refused.
    pub bad_shift : is_shift l (shift_in l s) ≡ false → shift_of l s ≡ refused wrong_shift shift_at
    unfolding shift_of
    bad_shift e = simp (le-leb _ _ h, e)

    -- Any other passes.
    pub shift_read_holds : is_shift l (shift_in l s) ≡ true → shift_of l s ≡ ok tt
    unfolding shift_of
    shift_read_holds e = simp (le-leb _ _ h, e)

  -- A file whose shift passes reaches past it.
  pub shift_says : (u : Unit {0}) → shift_of l s ≡ ok u → shift_at + l.shift_bytes ≤ length s
  unfolding shift_of
  shift_says u e = leb-true (shift_at + l.shift_bytes) (length s) (required (leb (shift_at + l.shift_bytes) (length s)) wrong_end shift_at e).0

-- ---- one after the other

module _ (s : List ℕ) (l : Layout) (is : l ≡ layout (number 1 0 s)) where
  -- reading is the header, then the shift, and then the body
  parts : reading s ≡ ◌>>◌ (header_of s) (◌>>◌ (shift_of l s) (body_of l s))
  unfolding reading reading_by header_of shift_of body_of
  parts =
      let version : Bool = leb (length s) 0 || is_version (number 1 0 s) in
      let count : Bool = leb uncounted_bytes (length s) && eqb (number 4 byte_count_at s) (length s - uncounted_bytes) in
      let long : Bool = leb (shift_at + l.shift_bytes) (length s) in
      ap (λ (k : Layout). ◌>>◌ (require version wrong_version 0) (reading_by k s)) (sym is)
      ∙ go version count (ltb cores_at (length s)) (within 1 most_cores (number 1 cores_at s)) long (is_shift l (shift_in l s)) (body_of l s)
    where
      last : (a b : Bool) (k : Outcome Phrase)
          → ◌>>◌ (require a wrong_end shift_at) (◌>>◌ (require b wrong_shift shift_at) k) ≡ ◌>>◌ (◌>>◌ (require a wrong_end shift_at) (require b wrong_shift shift_at)) k
      last false b k = refl
      last true false k = refl
      last true true k = refl

      go : (a b c d e f : Bool) (k : Outcome Phrase)
          → ◌>>◌ (require a wrong_version 0) (◌>>◌ (require b wrong_count 0) (◌>>◌ (require c wrong_end cores_at) (◌>>◌ (require d wrong_cores cores_at)
          (◌>>◌ (require e wrong_end shift_at) (◌>>◌ (require f wrong_shift shift_at) k)))))
          ≡ ◌>>◌ (◌>>◌ (require a wrong_version 0) (◌>>◌ (require b wrong_count 0) (◌>>◌ (require c wrong_end cores_at) (require d wrong_cores cores_at))))
          (◌>>◌ (◌>>◌ (require e wrong_end shift_at) (require f wrong_shift shift_at)) k)
      go false b c d e f k = refl
      go true false c d e f k = refl
      go true true false d e f k = refl
      go true true true false e f k = refl
      go true true true true e f k = last e f k

  -- A header that is refused refuses the file.
  pub header_stops : (n at : ℕ) → header_of s ≡ refused n at → reading s ≡ refused n at
  header_stops n at e = parts ∙ ap (λ (o : Outcome (Unit {0})). ◌>>◌ o (◌>>◌ (shift_of l s) (body_of l s))) e

  module _ (u : Unit {0}) (e : header_of s ≡ ok u) where
    after : reading s ≡ ◌>>◌ (shift_of l s) (body_of l s)
    after = parts ∙ ap (λ (o : Outcome (Unit {0})). ◌>>◌ o (◌>>◌ (shift_of l s) (body_of l s))) e

    -- After a header that passes, a shift that is refused refuses the file.
    pub shift_stops : (n at : ℕ) → shift_of l s ≡ refused n at → reading s ≡ refused n at
    shift_stops n at f = after ∙ ap (λ (o : Outcome (Unit {0})). ◌>>◌ o (body_of l s)) f

    -- After a shift that passes the file is read as its body is.
    pub shift_passed : (v : Unit {0}) → shift_of l s ≡ ok v → reading s ≡ body_of l s
    shift_passed v f = after ∙ ap (λ (o : Outcome (Unit {0})). ◌>>◌ o (body_of l s)) f

  -- A file that is read has a header and a shift that pass, and a body that is read.
  pub parts_of_read : (x : Phrase) → reading s ≡ ok x → (u : Unit {0}) × (header_of s ≡ ok u) × (body_of l s ≡ ok x)
  parts_of_read x e =
      let (u, head, rest) = followed (header_of s) (sym parts ∙ e) in
      let (v, shift, body) = followed (shift_of l s) rest in
      (u, head, body)

-- ---- the body

bells_count : (l : Layout) (s : List ℕ) (n at : ℕ) (before bells : List Bell) → bells_from l s n at before ≡ ok bells → length bells ≡ length before + n
unfolding bells_from
bells_count l s zero at before bells e =
    let same : before ≡ bells = cc in
    ap length (sym same) ∙ sym (add-zero (length before))
bells_count l s (suc n) at before bells e =
    let step = bound (bell_record l before at (drop at s)) e in
    let those = bells_count l s n (at + bell_bytes l) (before ++ step.0 ∷ []) bells step.2 in
    omega (arith, those, length-append before (step.0 ∷ []))

notes_count : (l : Layout) (s : List ℕ) (shift : ℕ) (bells : List Bell) (n at : ℕ) (before notes : List Note) → notes_from l s shift bells n at before ≡ ok notes → length notes ≡ length before + n
unfolding notes_from
notes_count l s shift bells zero at before notes e =
    let end = required (leb (length s) at) wrong_end at e in
    let same : before ≡ notes = cc end.1 in
    ap length (sym same) ∙ sym (add-zero (length before))
notes_count l s shift bells (suc n) at before notes e =
    let step = bound (note_record l shift bells (length before) at (drop at s)) e in
    let those = notes_count l s shift bells n (at + (1 + number 1 at s)) (before ++ step.0 ∷ []) notes step.2 in
    omega (arith, those, length-append before (step.0 ∷ []))

module _ (row : Row) (s : List ℕ) where
  abbrev l : Layout
  l = layout_of row

  abbrev bell_count : ℕ
  bell_count = number 1 (bell_count_at l) s

  abbrev note_at : ℕ
  note_at = note_count_at l bell_count

  abbrev phrase : List Bell → List Note → Phrase
  phrase bells notes = record { version = number 1 0 s; cores = number 1 cores_at s; shift = shift_in l s; bells = bells; notes = notes }

  -- Bells that are refused refuse the body.
  pub bells_stop : (n at : ℕ) → bells_in l s ≡ refused n at → body_of l s ≡ refused n at
  unfolding body_of
  bells_stop n at e = simp e

  -- As many bells are read as the file counts, and no more than the table has rows for.
  pub bells_read_holds : (bells : List Bell) → bells_in l s ≡ ok bells → (bell_count_at l < length s) × (length bells ≡ bell_count) × (length bells ≤ most_bells)
  unfolding bells_in
  bells_read_holds bells e =
      let long = required (ltb (bell_count_at l) (length s)) wrong_end (bell_count_at l) e in
      let range = required (within 1 most_bells bell_count) wrong_bell_count (bell_count_at l) long.1 in
      let count = bells_count l s bell_count (bells_at l) [] bells range.1 ∙ zero-add bell_count in
      (ltb-true (bell_count_at l) (length s) long.0, count, omega (arith, count, within_true 1 most_bells bell_count range.0))

  module _ (bells : List Bell) (e : bells_in l s ≡ ok bells) where
    notes_stop : (n at : ℕ) → notes_in l s (shift_in l s) bells note_at ≡ refused n at → body_of l s ≡ refused n at
    unfolding body_of
    notes_stop n at f = simp (e, f)

    body_read : (notes : List Note) → notes_in l s (shift_in l s) bells note_at ≡ ok notes → body_of l s ≡ ok (phrase bells notes)
    unfolding body_of
    body_read notes f = simp (e, f)

  -- As many notes are read as the file counts, and no more than the table has rows for.
  pub notes_read_holds : (shift : ℕ) (bells : List Bell) (at : ℕ) (notes : List Note) → notes_in l s shift bells at ≡ ok notes
      → (at < length s) × (length notes ≡ number 1 at s) × (length notes ≤ most_jobs)
  unfolding notes_in
  notes_read_holds shift bells at notes e =
      let long = required (leb (at + 1) (length s)) wrong_end at e in
      let few = required (leb (number 1 at s) most_jobs) too_many_notes at long.1 in
      let count = notes_count l s shift bells (number 1 at s) (at + 1) [] notes few.1 ∙ zero-add (number 1 at s) in
      (omega (arith, leb-true (at + 1) (length s) long.0), count, omega (arith, count, leb-true (number 1 at s) most_jobs few.0))

  -- What a file that is read says of its counts: they are there, and are those of the phrase.
  pub record CountsRead (x : Phrase) : Type 0 where
    pub bells : (bell_count_at l < length s) × (bell_count ≤ most_bells)
    pub notes : (note_at < length s) × ((counts_in l s).notes ≤ most_jobs)
    pub counts : counts_in l s ≡ record { version = x.version; cores = x.cores; shift = x.shift; bells = length x.bells; notes = length x.notes }

  -- A file that is read has its counts.
  pub counts_read : (x : Phrase) → body_of l s ≡ ok x → CountsRead x
  unfolding body_of
  counts_read x e =
      let bells = bound (bells_in l s) e in
      let notes = bound (notes_in l s (shift_in l s) bells.0 note_at) bells.2 in
      let b = bells_read_holds bells.0 bells.1 in
      let n = notes_read_holds (shift_in l s) bells.0 note_at notes.0 notes.1 in
      let same : phrase bells.0 notes.0 ≡ x = cc notes.2 in
      subst CountsRead same
      (record {
        bells = (b.0, omega (arith, b.1, b.2));
        notes = (n.0, omega (arith, n.1, n.2));
        counts = λ i. record { version = number 1 0 s; cores = number 1 cores_at s; shift = shift_in l s; bells = sym b.1 i; notes = sym n.1 i };
      })

-- ---- the table

-- A refusal leaves nothing to be held.
pub refused_filled : (o : Outcome Phrase) (n at : ℕ) (t : List ℕ) → o ≡ refused n at → (Err (record { number = n; place = at }) ≡ reading_of o) × Filled o t
refused_filled o n at t e = (ap reading_of (sym e), subst (λ (o : Outcome Phrase). Filled o t) (sym e) none)
  where
    none : Filled (refused n at) t
    none =
        record {
          few_bells = omega arith;
          few_notes = omega arith;
          bells_there = begins_with_none bell_row bell_words (drop bell_rows_at t);
          notes_there = begins_with_none (note_row 0 []) note_words (drop note_rows_at t);
        }

-- The bells of the file are those of the table.
pub bells_ready : (row : Row) (s t : List ℕ) (bells : List Bell) → bells_in (layout_of row) s ≡ ok bells → HoldsBells bells t → (n : ℕ) → n ≡ number 1 (bell_count_at (layout_of row)) s
    → phrase_words ≤ length t → (bells_in (layout_of row) s ≡ ok (bells_held t n)) × BellTable t n
bells_ready row s t bells e h n k room =
    let part : List ℕ = drop bell_rows_at t in
    let read = bells_read_holds row s bells e in
    let count : length bells ≡ n = read.1 ∙ sym k in
    let rows : take (n * bell_words) part ≡ bell_rows bells = ap (λ (i : ℕ). take (i * bell_words) part) (sym count) ∙ h in
    let back = rows_read_back bells in
    let few : n * bell_words ≤ length part = omega (arith, read.2, length-drop bell_rows_at t) in
    (e ∙ ap ok (sym (held bell_row bell_of_row bell_words part n bells back count rows)), holds bell_row bell_of_row bell_words part n bells back few count rows)

-- The body once its bells are read, whatever the notes give: the answer is theirs, and the table is filled.
pub body_filled : (row : Row) (s t : List ℕ) (bells : List Bell) → bells_in (layout_of row) s ≡ ok bells → (o : Outcome (List Note))
    → notes_in (layout_of row) s (shift_in (layout_of row) s) bells (note_count_at (layout_of row) (number 1 (bell_count_at (layout_of row)) s)) ≡ o → HoldsBells bells t → HoldsNotes (shift_in (layout_of row) s) bells (list_of o) t
    → (reading_of o ≡ reading_of (body_of (layout_of row) s)) × Filled (body_of (layout_of row) s) t
body_filled row s t bells e (ok notes) f g h =
    let at : ℕ = note_count_at (layout_of row) (number 1 (bell_count_at (layout_of row)) s) in
    let whole = body_read row s bells e notes f in
    let few = notes_read_holds row s (shift_in (layout_of row) s) bells at notes f in
    let filled : Filled (ok (phrase row s bells notes)) t = record { few_bells = (bells_read_holds row s bells e).2; few_notes = few.2; bells_there = g; notes_there = h } in
    (ap reading_of (sym whole), subst (λ (o : Outcome Phrase). Filled o t) (sym whole) filled)
body_filled row s t bells e (refused n at) f g h = refused_filled (body_of (layout_of row) s) n at t (notes_stop row s bells e n at f)
