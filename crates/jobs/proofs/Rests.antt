-- The rest of a job's last wait: what it adds once the finish times are counted without rests, and what the rows say of it. Assumes nothing.
use Prim.Native.Nat.{ℕ, ◌+◌, ◌*◌, ◌-◌, ◌≤◌, ◌<◌}
use mathlib.Core.Path.{◌≡◌, refl, ap, ◌∙◌}
use mathlib.Core.Bool.{Bool, true, false, cond}
use mathlib.Core.List.{List, [], ◌∷◌, ◌++◌}
use mathlib.Core.Option.{Option, none, some}
use native.Mathlib.Omega.{arith}
use lib.Dec.{eqb}
use lib.ListN.{get_or, length, drop, length-append, length-take, length-drop}
use lib.Seq.{get_or-append_seam}
use borrow.Author.Tests.{eq-eqb, ne_eqb}
use Rattle.model.specs.Folds.{largest, all}
use Rattle.model.specs.Jobs.{Job, job, nearest, as_list, predecessors}
use Rattle.model.proofs.Rests.{nearest_rested}
use Rattle.format.specs.Phrase.{is_some}
use Rattle.jobs.specs.internal.JobRow.{row_words, predecessor_count_at, predecessors_at, rest_at, job_listed_at, word, job_at, jobs_of_rows, Rows}
use Rattle.jobs.specs.internal.Rests.{last_rest}
use Rattle.jobs.proofs.Jobs.{job_of, length_predecessors}

module _ (js : List Job) (i : ℕ) where
  abbrev own : ℕ
  own = (job js i).rest

  abbrev listed : List ℕ
  listed = (job js i).listed

  -- It is at most that of the bell.
  pub last_rest_at_most : last_rest js i ≤ (job js i).rest
  unfolding last_rest
  last_rest_at_most = go (is_some (nearest js (job js i).bell i))
    where
      go : (b : Bool) → cond b own 0 ≤ own
      go true = omega arith
      go false = omega arith

  -- Where there is one, there is a predecessor.
  pub has_last : (last_rest js i ≡ 0 → ⊥) → 1 ≤ length (predecessors js i)
  unfolding last_rest predecessors
  has_last d = go (nearest js (job js i).bell i) d
    where
      go : (o : Option ℕ) → (cond (is_some o) own 0 ≡ 0 → ⊥) → 1 ≤ length (listed ++ as_list o)
      go none d = absurd (d refl)
      go (some p) d = omega (arith, length-append listed (p ∷ []))

  module _ (f : ℕ → ℕ) where
    -- Where there is none, nothing is added.
    pub none_rests : last_rest js i ≡ 0 → nearest_rested js i f ≡ 0
    unfolding last_rest largest
    none_rests e = go (nearest js (job js i).bell i) e
      where
        nothing : (b : Bool) → ◌≡◌ {A = ℕ} (cond b 0 0) 0
        nothing true = refl
        nothing false = refl

        go : (o : Option ℕ) → cond (is_some o) own 0 ≡ 0 → cond (eqb own 0) 0 (largest all (λ w. f w + own) (as_list o)) ≡ 0
        go none e = nothing (eqb own 0)
        go (some p) e = rw (eq-eqb own 0 e) refl

    -- Where there is one, it is that of the last predecessor.
    pub last_rests : (last_rest js i ≡ 0 → ⊥) → nearest_rested js i f ≡ f (get_or (predecessors js i) (length (predecessors js i) - 1) 0) + last_rest js i
    unfolding last_rest largest predecessors
    last_rests d = go (nearest js (job js i).bell i) d
      where
        go : (o : Option ℕ) → (cond (is_some o) own 0 ≡ 0 → ⊥)
            → cond (eqb own 0) 0 (largest all (λ w. f w + own) (as_list o)) ≡ f (get_or (listed ++ as_list o) (length (listed ++ as_list o) - 1) 0) + cond (is_some o) own 0
        go none d = absurd (d refl)
        go (some p) d =
            let place : length (listed ++ p ∷ []) - 1 ≡ length listed = omega (arith, length-append listed (p ∷ [])) in
            rw (ne_eqb own 0 d, place, get_or-append_seam listed p [] 0) (omega arith)

-- ---- the row

module _ (rows : List ℕ) (k i : ℕ) (h : i < k) (r : Rows rows k) where
  abbrev js : List Job
  js = jobs_of_rows rows k

  abbrev near : Option ℕ
  near = nearest js (job js i).bell i

  rest_of : (job js i).rest ≡ word rows i rest_at
  unfolding job_at
  rest_of = ap (λ (j : Job). j.rest) (job_of rows k i h)

  -- The predecessors are the listed ones, which the row counts too, and the nearest earlier job of the bell.
  one_more : word rows i predecessor_count_at ≡ word rows i job_listed_at + length (as_list near)
  unfolding job_at predecessors
  one_more =
      omega (
        arith,
        length_predecessors rows k i h r,
        length-append (job js i).listed (as_list near),
        ap (λ (j : Job). length j.listed) (job_of rows k i h),
        length-take (word rows i job_listed_at) (drop (i * row_words + predecessors_at) rows),
        length-drop (i * row_words + predecessors_at) rows,
        r.long,
        r.few i h,
      )

  with_none : (o : Option ℕ) → length (as_list o) ≡ 0 → cond (is_some o) (job js i).rest 0 ≡ 0
  with_none none e = refl
  with_none (some p) e = absurd (omega arith)

  with_one : (o : Option ℕ) → (length (as_list o) ≡ 0 → ⊥) → cond (is_some o) (job js i).rest 0 ≡ (job js i).rest
  with_one none d = absurd (d refl)
  with_one (some p) d = refl

  -- A bell without a rest needs none.
  pub no_rest : word rows i rest_at ≡ 0 → last_rest js i ≡ 0
  no_rest e = omega (arith, last_rest_at_most js i, rest_of)

  -- Where no more are counted than the note lists, there is no wait that has to rest.
  pub all_listed : word rows i predecessor_count_at ≡ word rows i job_listed_at → last_rest js i ≡ 0
  unfolding last_rest
  all_listed e = with_none near (omega (arith, one_more))

  -- Where more are, there is one.
  pub one_unlisted : (word rows i predecessor_count_at ≡ word rows i job_listed_at → ⊥) → last_rest js i ≡ word rows i rest_at
  unfolding last_rest
  one_unlisted d = with_one near (λ z. d (omega (arith, one_more))) ∙ rest_of
