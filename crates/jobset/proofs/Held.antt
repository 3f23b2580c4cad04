-- The jobs of a table that holds a phrase, by its words; and their rows, made part by part and one after the other. Assumes nothing.
use Prim.Native.Nat.{ℕ, zero, suc, ◌+◌, ◌-◌, ◌*◌, ◌≤◌, ◌<◌}
use mathlib.Core.Path.{◌≡◌, refl, sym, ap, ◌∙◌}
use mathlib.Core.List.{List, [], ◌∷◌, ◌++◌, append_assoc}
use mathlib.Core.Option.{Option, none, some}
use native.Mathlib.Nat.{zero-add}
use native.Mathlib.Omega.{arith}
use lib.ListN.{get_or, length, take, drop, replicate, length-append, length-map, get_or-append, get_or-eq_default}
use lib.Seq.{get_or-drop, get_or-append-add, get_or_at, take_at, drop-append-add, drop-drop}
use borrow.Author.Tests.{eq-eqb, ne_eqb}
use Rattle.std.specs.Int.{from_bool}
use Rattle.std.specs.Prelude.{Some, None, is_some, option_to_list, unwrap_or}
use Rattle.std.specs.Prelude as found
use Rattle.model.specs.Limits.{most_jobs}
use Rattle.model.specs.Jobs.{Job, no_job, job, nearest, as_list, predecessors}
use Rattle.words.specs.Tabulate.{tabulate}
use Rattle.words.specs.Padded.{padded}
use Rattle.words.specs.internal.Placed.{placed}
use Rattle.words.proofs.Tabulate.{tabulate_is, tabulate_snoc}
use Rattle.words.proofs.Padded.{padded_length}
use Rattle.words.proofs.Maps.{get_or_map}
use Rattle.words.proofs.Placing.{placed_append, placed_whole}
use Rattle.format.specs.Bytes.{records}
use Rattle.format.specs.Layout.{most_bells, most_listed}
use Rattle.format.specs.Phrase.{Bell, Note}
use Rattle.format.specs.Jobs.{no_bell, no_note, note, struck, job_of, jobs_of}
use Rattle.format.specs.internal.Analysable.{most_predecessors}
use Rattle.rows.specs.BellRow.{bell_words, least_execution_word, most_execution_word, priority_word, rest_word, bell_row}
use Rattle.rows.specs.NoteRow.{note_words, earliest_release_word, latest_release_word, deadline_word, listed_count_word, listed_word, struck_word, note_row_on, note_row}
use Rattle.rows.specs.PhraseTable.{note_count_word, bell_rows_at, note_rows_at, phrase_of}
use Rattle.rows.specs.internal.Handed.{HandedOn}
use Rattle.rows.proofs.Records.{records_snoc}
use Rattle.rows.proofs.PhraseTable.{few_bells_holds, few_notes_holds, few_listed, struck_below, header_word, bell_word_holds, note_word_holds, phrase_of_holds}
use Rattle.jobs.specs.internal.JobRow.{row_words, earliest_release_at, predecessor_count_at, rest_at, job_row, job_rows}
use Rattle.jobs.specs.internal.Fields.{fields}
use Rattle.jobset.specs.internal.Making.{jobs_held, found_of, predecessor_words, origin_words}
use Rattle.jobs.proofs.JobRow.{row_length, rows_length}

-- ---- lists with zeros after them, and with one element or none

zero_word : (n i : ℕ) → get_or {A = ℕ} (replicate n 0) i 0 ≡ 0
zero_word zero i = refl
zero_word (suc n) zero = refl
zero_word (suc n) (suc i) = zero_word n i

padded_word : (l : List ℕ) (n i : ℕ) → get_or (l ++ replicate n 0) i 0 ≡ get_or l i 0
padded_word [] n i = zero_word n i
padded_word (x ∷ l) n zero = refl
padded_word (x ∷ l) n (suc i) = padded_word l n i

one_more : (l : List ℕ) (o : Option ℕ) → length (l ++ as_list o) ≤ suc (length l)
one_more l none = omega (arith, length-append {A = ℕ} l [])
one_more l (some x) = omega (arith, length-append l (x ∷ []))

-- What the code found, as a list, is what was looked for.
pub found_list : (o : Option ℕ) → option_to_list (found_of o) ≡ as_list o
found_list (some x) = refl
found_list none = refl

module _ (l e : List ℕ) (j : ℕ) where
  -- Before the end of the list the elements are its own.
  pub word_within : j < length l → get_or l j 0 ≡ get_or (l ++ e) j 0
  word_within h = sym (get_or-append l e 0 j h)

  -- At its end the elements of the other list begin.
  pub word_at_end : j ≡ length l → get_or e 0 0 ≡ get_or (l ++ e) j 0
  word_at_end h = let place : length l + 0 ≡ j = omega (arith, h) in sym (get_or-append-add l e 0 0) ∙ ap (λ (k : ℕ). get_or (l ++ e) k 0) place

-- After the end, and one element at most, there is none.
pub word_beyond : (l : List ℕ) (o : found.Option ℕ) (j : ℕ) → length l < j → 0 ≡ get_or (l ++ option_to_list o) j 0
word_beyond l None j h = sym (get_or-eq_default (l ++ []) 0 {n = j} (omega (arith, h, length-append {A = ℕ} l [])))
word_beyond l (Some x) j h = sym (get_or-eq_default (l ++ (x ∷ [])) 0 {n = j} (omega (arith, h, length-append l (x ∷ []))))

-- The first of what was found, 0 where there is none.
pub found_first : (o : found.Option ℕ) → unwrap_or o 0 ≡ get_or (option_to_list o) 0 0
found_first None = refl
found_first (Some x) = refl

-- How many were found.
pub found_count : (o : found.Option ℕ) → length (option_to_list o) ≡ from_bool (is_some o)
found_count None = refl
found_count (Some x) = refl

pub at_most_one : (o : found.Option ℕ) → length (option_to_list o) ≤ 1
at_most_one None = omega arith
at_most_one (Some x) = omega arith

-- ---- the nearest job, from n down

module _ (js : List Job) (bell n : ℕ) (h : 0 < n) where
  one_less : n ≡ suc (n - 1)
  one_less = omega arith

  -- A job that strikes the bell, next below n, is the nearest.
  pub nearest_here : (job js (n - 1)).bell ≡ bell → nearest js bell n ≡ some (n - 1)
  unfolding nearest
  nearest_here e = ap (nearest js bell) one_less ∙ simp (eq-eqb _ _ e)

  -- A job that strikes another bell is passed over.
  pub nearest_on : ((job js (n - 1)).bell ≡ bell → ⊥) → nearest js bell n ≡ nearest js bell (n - 1)
  unfolding nearest
  nearest_on e = ap (nearest js bell) one_less ∙ simp (ne_eqb _ _ e)

-- Below the first job there is none.
pub nearest_none : (js : List Job) (bell : ℕ) → nearest js bell 0 ≡ none
unfolding nearest
nearest_none js bell = refl

-- ---- the words of the table

module _ (t : List ℕ) (handed : HandedOn t) where
  held : jobs_held t ≡ jobs_of handed.phrase
  unfolding jobs_held
  held = ap (λ (s : List ℕ). jobs_of (phrase_of s)) handed.is ∙ ap jobs_of (phrase_of_holds handed.phrase handed.valid)

  held_length : length (jobs_held t) ≡ length handed.phrase.notes
  held_length = ap length held ∙ length-map handed.phrase.notes (job_of handed.phrase.shift handed.phrase.bells)

  -- The table has rows for its jobs.
  pub few_jobs : length (jobs_held t) ≤ most_jobs
  few_jobs = omega (arith, held_length, few_notes_holds handed.phrase handed.valid)

  -- The header says how many jobs there are.
  pub note_count_holds : get_or t note_count_word 0 ≡ length (jobs_held t)
  note_count_holds = ap (λ (s : List ℕ). get_or s note_count_word 0) handed.is ∙ header_word handed.phrase handed.valid note_count_word (omega arith) ∙ sym held_length

  module _ (i : ℕ) (b : i < length (jobs_held t)) where
    -- The table has a row for job i.
    pub job_below : i < most_jobs
    job_below = omega (arith, b, few_jobs)

    abbrev own : Note
    own = note handed.phrase i

    abbrev bell : Bell
    bell = get_or handed.phrase.bells (struck handed.phrase.shift handed.phrase.bells own) no_bell

    inside : i < length handed.phrase.notes
    inside = omega (arith, held_length, b)

    is_job : job (jobs_held t) i ≡ job_of handed.phrase.shift handed.phrase.bells own
    is_job = ap (λ (js : List Job). job js i) held ∙ get_or_map (job_of handed.phrase.shift handed.phrase.bells) handed.phrase.notes i no_note no_job inside

    few : length own.listed ≤ most_listed
    few = few_listed handed.phrase handed.valid i inside

    in_note : (at : ℕ) → at < note_words → get_or t (note_rows_at + (i * note_words + at)) 0 ≡ get_or (note_row handed.phrase.shift handed.phrase.bells own) at 0
    in_note at g =
        ap (λ (s : List ℕ). get_or s (note_rows_at + (i * note_words + at)) 0) handed.is ∙ note_word_holds handed.phrase handed.valid i at inside g

    -- The note gives the earliest release.
    pub earliest_word : get_or t (note_rows_at + (i * note_words + earliest_release_word)) 0 ≡ (job (jobs_held t) i).earliest_release
    unfolding note_row_on
    earliest_word = in_note earliest_release_word (omega arith) ∙ ap (λ (j : Job). j.earliest_release) (sym is_job)

    -- It gives the latest release.
    pub latest_word : get_or t (note_rows_at + (i * note_words + latest_release_word)) 0 ≡ (job (jobs_held t) i).latest_release
    unfolding note_row_on
    latest_word = in_note latest_release_word (omega arith) ∙ ap (λ (j : Job). j.latest_release) (sym is_job)

    -- It gives the deadline.
    pub deadline_word_holds : get_or t (note_rows_at + (i * note_words + deadline_word)) 0 ≡ (job (jobs_held t) i).deadline
    unfolding note_row_on
    deadline_word_holds = in_note deadline_word (omega arith) ∙ ap (λ (j : Job). j.deadline) (sym is_job)

    -- It says how many jobs it lists.
    pub count_word : get_or t (note_rows_at + (i * note_words + listed_count_word)) 0 ≡ length (job (jobs_held t) i).listed
    unfolding note_row_on
    count_word = in_note listed_count_word (omega arith) ∙ ap (λ (j : Job). length j.listed) (sym is_job)

    -- It lists the jobs that the job lists.
    pub listed_word_holds : (j : ℕ) → j < most_listed → get_or t (note_rows_at + (i * note_words + (listed_word + j))) 0 ≡ get_or (job (jobs_held t) i).listed j 0
    unfolding note_row_on
    listed_word_holds j g =
        in_note (listed_word + j) (omega (arith, g))
        ∙ sym (get_or-drop listed_word (note_row handed.phrase.shift handed.phrase.bells own) j 0)
        ∙ get_or-append (padded most_listed own.listed) _ 0 j (omega (arith, g, padded_length most_listed own.listed few))
        ∙ padded_word own.listed (most_listed - length own.listed) j
        ∙ ap (λ (k : Job). get_or k.listed j 0) (sym is_job)

    -- It names the bell that it strikes.
    pub struck_word_holds : get_or t (note_rows_at + (i * note_words + struck_word)) 0 ≡ (job (jobs_held t) i).bell
    unfolding note_row_on
    struck_word_holds =
        in_note struck_word (omega arith)
        ∙ get_or_at (padded most_listed own.listed) (struck handed.phrase.shift handed.phrase.bells own) [] 0 most_listed (padded_length most_listed own.listed few)
        ∙ ap (λ (j : Job). j.bell) (sym is_job)

    bell_there : (job (jobs_held t) i).bell < length handed.phrase.bells
    bell_there = omega (arith, ap (λ (j : Job). j.bell) is_job, struck_below handed.phrase handed.valid i inside)

    -- The table has a row for the bell.
    pub bell_below : (job (jobs_held t) i).bell < most_bells
    bell_below = omega (arith, bell_there, few_bells_holds handed.phrase handed.valid)

    in_bell : (at : ℕ) → at < bell_words → get_or t (bell_rows_at + ((job (jobs_held t) i).bell * bell_words + at)) 0 ≡ get_or (bell_row bell) at 0
    in_bell at g =
        ap (λ (s : List ℕ). get_or s (bell_rows_at + ((job (jobs_held t) i).bell * bell_words + at)) 0) handed.is
        ∙ bell_word_holds handed.phrase handed.valid (job (jobs_held t) i).bell at bell_there g
        ∙ ap (λ (j : Job). get_or (bell_row (get_or handed.phrase.bells j.bell no_bell)) at 0) is_job

    -- The bell gives the shortest execution.
    pub least_word : get_or t (bell_rows_at + ((job (jobs_held t) i).bell * bell_words + least_execution_word)) 0 ≡ (job (jobs_held t) i).least_execution
    unfolding bell_row
    least_word = in_bell least_execution_word (omega arith) ∙ ap (λ (j : Job). j.least_execution) (sym is_job)

    -- It gives the longest execution.
    pub most_word : get_or t (bell_rows_at + ((job (jobs_held t) i).bell * bell_words + most_execution_word)) 0 ≡ (job (jobs_held t) i).most_execution
    unfolding bell_row
    most_word = in_bell most_execution_word (omega arith) ∙ ap (λ (j : Job). j.most_execution) (sym is_job)

    -- It gives the priority.
    pub priority_word_holds : get_or t (bell_rows_at + ((job (jobs_held t) i).bell * bell_words + priority_word)) 0 ≡ (job (jobs_held t) i).priority
    unfolding bell_row
    priority_word_holds = in_bell priority_word (omega arith) ∙ ap (λ (j : Job). j.priority) (sym is_job)

    -- It gives the rest.
    pub rest_word_holds : get_or t (bell_rows_at + ((job (jobs_held t) i).bell * bell_words + rest_word)) 0 ≡ (job (jobs_held t) i).rest
    unfolding bell_row
    rest_word_holds = in_bell rest_word (omega arith) ∙ ap (λ (j : Job). j.rest) (sym is_job)

    -- A note lists few jobs.
    pub few_listed_jobs : length (job (jobs_held t) i).listed ≤ most_listed
    few_listed_jobs = omega (arith, few, ap (λ (j : Job). length j.listed) is_job)

    -- A job has few predecessors.
    pub few_predecessors : length (predecessors (jobs_held t) i) ≤ most_predecessors
    unfolding predecessors
    few_predecessors = omega (arith, few_listed_jobs, one_more (job (jobs_held t) i).listed (nearest (jobs_held t) (job (jobs_held t) i).bell i))

-- ---- the row, part by part

-- The predecessors, one word each, are the list with zeros after it.
pub predecessor_words_holds : (l : List ℕ) → length l ≤ most_predecessors → length l ∷ tabulate (λ (j : ℕ). get_or l j 0) 0 most_predecessors ≡ predecessor_words l
unfolding predecessor_words
predecessor_words_holds l h =
    ap (λ (ws : List ℕ). length l ∷ ws)
    (tabulate_is (λ (j : ℕ). get_or l j 0) most_predecessors (padded most_predecessors l) 0 (padded_length most_predecessors l h)
    (λ j b. sym (padded_word l (most_predecessors - length l) j)))

-- The three parts, each after the one before, are the row.
pub row_made : (js : List Job) (i : ℕ) (r : List ℕ) → length (predecessors js i) ≤ most_predecessors → length r ≡ row_words
    → placed (placed (placed r earliest_release_at (fields (job js i))) predecessor_count_at (predecessor_words (predecessors js i))) rest_at (origin_words (job js i)) ≡ job_row js i
unfolding job_row predecessor_words origin_words
row_made js i r h l =
    let five : length (padded most_predecessors (predecessors js i)) ≡ most_predecessors = padded_length most_predecessors (predecessors js i) h in
    ap (λ (s : List ℕ). placed s rest_at (origin_words (job js i)))
    (placed_append r earliest_release_at predecessor_count_at (fields (job js i)) (predecessor_words (predecessors js i)) (omega arith) refl)
    ∙ placed_append r earliest_release_at rest_at (fields (job js i) ++ predecessor_words (predecessors js i)) (origin_words (job js i)) (omega arith) (omega (arith, five))
    ∙ placed_whole r (job_row js i) (l ∙ sym (row_length js i h))

-- ---- the rows, one after the other

-- Before the first row the table is as it was.
pub rows_none : (js : List Job) (t : List ℕ) → t ≡ job_rows js 0 ++ drop (0 * row_words) t
unfolding job_rows records tabulate
rows_none js t = refl

-- The next row, in its place, makes one row more.
pub rows_more : (js : List Job) (i : ℕ) (t : List ℕ) → ((j : ℕ) → j < suc i → length (predecessors js j) ≤ most_predecessors) → i * row_words ≤ length t
    → placed (job_rows js i ++ drop (i * row_words) t) (i * row_words) (job_row js i) ≡ job_rows js (i + 1) ++ drop ((i + 1) * row_words) t
unfolding placed job_rows
rows_more js i t few h =
    let before : length (job_rows js i) ≡ i * row_words = rows_length js i (λ j b. few j (omega (arith, b))) in
    let wide : length (job_row js i) ≡ row_words = row_length js i (few i (omega arith)) in
    let at : i * row_words + length (job_row js i) ≡ length (job_rows js i) + row_words = omega (arith, before, wide) in
    let end : i * row_words + row_words ≡ suc i * row_words = omega arith in
    let next : suc i ≡ i + 1 = omega arith in
    let front : take (i * row_words) (job_rows js i ++ drop (i * row_words) t) ≡ job_rows js i = take_at (job_rows js i) (drop (i * row_words) t) (i * row_words) before in
    let back : drop (i * row_words + length (job_row js i)) (job_rows js i ++ drop (i * row_words) t) ≡ drop (suc i * row_words) t =
    ap (λ (k : ℕ). drop k (job_rows js i ++ drop (i * row_words) t)) at
    ∙ drop-append-add (job_rows js i) (drop (i * row_words) t) row_words
    ∙ drop-drop row_words (i * row_words) t
    ∙ ap (λ (k : ℕ). drop k t) end in
    let more : job_rows js (suc i) ≡ job_rows js i ++ job_row js i =
    ap (records (job_row js)) (tabulate_snoc (λ (k : ℕ). k) 0 i)
    ∙ records_snoc (job_row js) (tabulate (λ (k : ℕ). k) 0 i) (0 + i)
    ∙ ap (λ (k : ℕ). job_rows js i ++ job_row js k) (zero-add i) in
    (λ k. front k ++ (job_row js i ++ back k))
    ∙ sym (append_assoc (job_rows js i) (job_row js i) (drop (suc i * row_words) t))
    ∙ ap (λ (l : List ℕ). l ++ drop (suc i * row_words) t) (sym more)
    ∙ ap (λ (k : ℕ). job_rows js k ++ drop (k * row_words) t) next
