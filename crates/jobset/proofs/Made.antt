-- The rows that are made of the table that the reader hands on are what the analysis and a run ask for. Assumes nothing.
use Prim.Native.Nat.{ℕ}
use mathlib.Core.Path.{◌≡◌, sym, ap, ◌∙◌, subst, subst₂}
use mathlib.Core.List.{List}
use native.Mathlib.Omega.{arith}
use lib.ListN.{length, get_or}
use Rattle.model.specs.Guarantee.{WellFormed}
use Rattle.format.specs.Outcome.{ok}
use Rattle.format.specs.Phrase.{Phrase}
use Rattle.format.specs.Jobs.{jobs_of}
use Rattle.format.specs.Valid.{Valid}
use Rattle.format.specs.internal.Analysable.{Analysable}
use Rattle.format.proofs.Jobs.{jobs_length, analysable}
use Rattle.rows.specs.PhraseTable.{cores_word, note_count_word, phrase_table, phrase_of}
use Rattle.rows.specs.internal.Handed.{HandedOn}
use Rattle.rows.proofs.PhraseTable.{few_notes_holds, header_word, phrase_of_holds}
use Rattle.jobs.specs.internal.JobRow.{jobs_of_rows, Setting}
use Rattle.jobs.specs.internal.JobTable.{job_table}
use Rattle.jobs.proofs.JobRow.{phrase_jobs, setting}

module _ (t : List ℕ) (h : HandedOn t) (rows before : List ℕ) (made : rows ≡ job_table (phrase_of t) before) (m k : ℕ)
    (cores : m ≡ get_or t cores_word 0) (count : k ≡ get_or t note_count_word 0) where
  abbrev x : Phrase
  x = phrase_of t

  same : x ≡ h.phrase
  same = ap phrase_of h.is ∙ phrase_of_holds h.phrase h.valid

  valid : Valid x
  valid = subst Valid (sym same) h.valid

  is : t ≡ phrase_table (ok x)
  is = h.is ∙ ap (λ (y : Phrase). phrase_table (ok y)) (sym same)

  can : Analysable x
  can = analysable x valid

  pub cores_are : m ≡ x.cores
  cores_are = cores

  count_is : k ≡ length x.notes
  count_is = count ∙ ap (λ (l : List ℕ). get_or l note_count_word 0) is ∙ header_word x valid note_count_word (omega arith)

  pub jobs_are : jobs_of_rows rows k ≡ jobs_of x
  jobs_are = ap (jobs_of_rows rows) count_is ∙ phrase_jobs x can rows before made

  pub jobs_count : k ≡ length (jobs_of x)
  jobs_count = count_is ∙ sym (jobs_length x)

  -- The rows are what is asked for.
  pub handed : Setting rows k m × WellFormed (jobs_of_rows rows k) m
  handed = (
    subst₂ (Setting rows) (sym count_is) (sym cores_are) (setting x can rows before made (few_notes_holds x valid)),
    subst₂ WellFormed (sym jobs_are) (sym cores_are) can.well_formed,
  )
