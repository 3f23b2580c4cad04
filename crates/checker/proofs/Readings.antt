-- The analysis of the rows that are made of a phrase's table is that of the check. Assumes nothing.
use Prim.Native.Nat.{ℕ}
use mathlib.Core.Path.{◌≡◌}
use mathlib.Core.List.{List}
use lib.ListN.{get_or}
use Rattle.model.specs.Exploration.{analysis, capacity}
use Rattle.format.specs.Outcome.{ok}
use Rattle.rows.specs.PhraseTable.{cores_word, note_count_word, phrase_of}
use Rattle.rows.specs.internal.Handed.{HandedOn}
use Rattle.jobs.specs.internal.JobTable.{job_table}
use Rattle.jobset.proofs.Made.{cores_are, jobs_are, jobs_count}
use Rattle.checking.specs.Checking.{level_words, used_words, result_of, checked_of}
use Rattle.checker.specs.internal.Analysed.{analysed_of}

module _ (t : List ℕ) (h : HandedOn t) (rows before : List ℕ) (made : rows ≡ job_table (phrase_of t) before) (m k : ℕ)
    (cores : m ≡ get_or t cores_word 0) (count : k ≡ get_or t note_count_word 0) where
  -- The result of the analysis is that of the check.
  pub result_is : (words : ℕ) → analysed_of rows k m words ≡ checked_of (ok (phrase_of t)) words
  result_is words = λ n.
      let js = jobs_are t h rows before made m k cores count n in
      let c = cores_are t h rows before made m k cores count n in
      result_of js (analysis js c (capacity words c (jobs_count t h rows before made m k cores count n)))

  -- The analysis uses the words that the check may use.
  pub used_is : (words : ℕ) → level_words words m k ≡ used_words (ok (phrase_of t)) words
  used_is words = λ n. level_words words (cores_are t h rows before made m k cores count n) (jobs_count t h rows before made m k cores count n)
