-- One turn: the job that is chosen is the one that the dispatch rule starts next, and the words stand as they should after it; where none is awake, the run
-- is over. Assumes nothing.
use Prim.Native.Nat.{ℕ, ◌+◌, ◌*◌, ◌≤◌, ◌<◌, max}
use mathlib.Core.Path.{◌≡◌, refl, sym, ap, ◌∙◌, subst}
use mathlib.Core.Logic.{◌⊎◌, inl, inr, ⊎_elim}
use mathlib.Core.Bool.{true, not}
use mathlib.Core.List.{List}
use native.Mathlib.Decide.{ℕ_discrete}
use native.Mathlib.Omega.{arith}
use lib.Dec.{eqb, ltb}
use lib.ListN.{get_or, length, set, length-set}
use lib.Seq.{get_or-set_same, get_or-set_other}
use borrow.Author.Tests.{lt-ltb, le-ltb, ltb-true, ltb-false, eq-eqb, ne_eqb, eqb-true, eqb-false, not-true, not-false}
use Rattle.model.specs.Folds.{ind, count, member}
use Rattle.model.specs.Limits.{longest_rest}
use Rattle.model.specs.Jobs.{Job, job, predecessors, rest_of, before}
use Rattle.model.specs.Dispatch.{Scenario}
use Rattle.model.specs.Playing.{horizon, start_time, finish_time}
use Rattle.model.proofs.Booleans.{cases}
use Rattle.model.proofs.Folds.{count_set, count_below, count_all, AllBelow, FirstFailing, first_failing, sum_lt}
use Rattle.model.proofs.Priority.{Before, before_out}
use Rattle.model.proofs.Predecessors.{predecessor_earlier}
use Rattle.model.proofs.Rests.{rest_at_most}
use Rattle.model.proofs.History.{Entry, ran, entry, has_started, busy, Rested, busy_start, Ready}
use Rattle.model.proofs.Following.{Stage, NoStart, stage_start, stage_over}
use Rattle.jobs.specs.internal.JobRow.{row_words, jobs_of_rows, priority_at}
use Rattle.jobs.proofs.Jobs.{length_jobs, field_of}
use Rattle.playing.specs.Playing.{scenario_in}
use Rattle.dispatch.specs.internal.Wakes.{asleep, started_word, last_moment, wake_of, word_of, woken_by, EachWakes}
use Rattle.dispatch.specs.internal.Choice.{IsFirst, key_of, IsLeast, IsNext}
use Rattle.std.specs.Prelude.{None}
use Rattle.dispatch.specs.internal.Turns.{Dispatchable, history_of, unstarted_in, ZeroFrom, Standing, WordsKept, Over, Turned}
use Rattle.dispatch.proofs.Waking.{awake, wakes_by, waits_for_holds, wake_same, woken_anew, woken_as_before}
use Rattle.dispatch.proofs.Histories.{fresh_zero, zero_fresh, entry_ran, rested_by, ran_same, length_history, entry_of, history_set}
use Rattle.dispatch.proofs.Moments.{horizon_small, release_within}

-- the words of rows are words
abbrev pub AreWords : List ℕ → Type 0
AreWords rows = (i : ℕ) → get_or rows i 0 < 4294967296

-- the wake word by whether the job has started
module _ (js : List Job) (s : Scenario) (finishes : List ℕ) (j : ℕ) where
  pub word_fresh : get_or finishes j 0 ≡ 0 → word_of js s finishes j ≡ wake_of js s finishes j
  word_fresh e = rw (eq-eqb (get_or finishes j 0) 0 e) refl

  word_started : (get_or finishes j 0 ≡ 0 → ⊥) → word_of js s finishes j ≡ started_word
  word_started n = rw (ne_eqb (get_or finishes j 0) 0 n) refl

module _ (rows : List ℕ) (k : ℕ) (playing starts finishes wakes cores : List ℕ) (given : Dispatchable rows k (length cores) playing)
    (words : AreWords rows) (t : ℕ) (standing : Standing (jobs_of_rows rows k) (scenario_in playing) k t starts finishes wakes cores) where
  abbrev js : List Job
  js = jobs_of_rows rows k

  abbrev s : Scenario
  s = scenario_in playing

  abbrev m : ℕ
  m = length cores

  abbrev h : List Entry
  h = history_of starts finishes k

  abbrev finish : ℕ → ℕ
  finish j = get_or finishes j 0

  abbrev wake : ℕ → ℕ
  wake j = get_or wakes j 0

  in_jobs : (j : ℕ) → j < k → j < length js
  in_jobs j b = omega (arith, length_jobs rows k)

  in_rows : (j : ℕ) → j < length js → j < k
  in_rows j b = omega (arith, length_jobs rows k)

  small : horizon js s ≤ last_moment
  small = horizon_small rows k m playing given

  priority_small : (j : ℕ) → j < k → (job js j).priority < 4294967296
  priority_small j b = omega (arith, field_of rows k j priority_at b (omega arith), words (j * row_words + priority_at))

  earlier : (j : ℕ) → j < k → (w : ℕ) → member w (predecessors js j) ≡ true → w < j
  earlier j b = predecessor_earlier js m given.well_formed j (in_jobs j b)

  -- a job that has not started has the word of its predecessors
  fresh_word : (j : ℕ) → j < k → finish j ≡ 0 → wake j ≡ wake_of js s finishes j
  fresh_word j b z = standing.woken j b ∙ word_fresh js s finishes j z

  -- a job that is awake has not started
  awake_fresh : (j : ℕ) → j < k → wake j < asleep → finish j ≡ 0
  awake_fresh j b l =
      ⊎_elim (λ e. eqb-true (finish j) 0 e) (λ e. absurd (omega (arith, standing.woken j b, word_started js s finishes j (eqb-false (finish j) 0 e)))) (cases (eqb (finish j) 0))

  -- a job that is ready is awake by then
  ready_wakes : (v j : ℕ) → j < k → Ready js s v h j → (finish j ≡ 0) × (wake j ≤ v)
  unfolding wake_of
  ready_wakes v j b r =
      let z = fresh_zero (get_or starts j 0) (finish j) (ap has_started (sym (entry_of starts finishes k j b)) ∙ r.fresh) in (
        z,
        rw (fresh_word j b z) (wakes_by (rest_of js j) finishes (predecessors js j) (s.release j) v r.released
            (λ w q. rested_by (get_or starts w 0) (finish w) v (rest_of js j w)
            (subst (Rested v (rest_of js j w)) (entry_of starts finishes k w (omega (arith, earlier j b w q))) (r.served w q)))),
      )

  -- and a job that is awake by then is ready
  wakes_ready : (v j : ℕ) → j < k → wake j < asleep → wake j ≤ v → Ready js s v h j
  unfolding wake_of
  wakes_ready v j b l g =
      let z = awake_fresh j b l in
      let e = fresh_word j b z in
      let x = awake (rest_of js j) finishes (predecessors js j) (s.release j) (omega (arith, e)) in
      record {
        fresh = ap has_started (entry_of starts finishes k j b ∙ zero_fresh (get_or starts j 0) (finish j) z);
        released = omega (arith, x.from_then, e);
        served = λ w q.
            let y = x.have_started w q in
            subst (Rested v (rest_of js j w)) (sym (entry_of starts finishes k w (omega (arith, earlier j b w q)) ∙ entry_ran (get_or starts w 0) (finish w) y.0))
            (omega (arith, y.1, e));
      }

  -- no rest is longer than the longest
  rest_small : (j w : ℕ) → j < k → rest_of js j w ≤ longest_rest
  rest_small j w b = omega (arith, rest_at_most js j w, given.setting.rests j (in_jobs j b))

  -- ---- no job is awake

  module _ (c : ℕ) (in-cores : c < length cores) (next : IsNext (key_of js wakes (get_or cores c 0)) k None) where
    asleep_all : (j : ℕ) → j < k → asleep ≤ wake j
    unfolding key_of
    asleep_all j b = omega (arith, next j b, standing.cores_within c in-cores, small, priority_small j b)

    all_started : (j : ℕ) → j < k → finish j ≡ 0 → ⊥
    unfolding wake_of
    all_started = go (first_failing (λ j. not (eqb (finish j) 0)) k)
      where
        started_in : (j : ℕ) → not (eqb (finish j) 0) ≡ true → finish j ≡ 0 → ⊥
        started_in j e = eqb-false (finish j) 0 (not-true (eqb (finish j) 0) e)

        go : AllBelow (λ j. not (eqb (finish j) 0)) k ⊎ FirstFailing (λ j. not (eqb (finish j) 0)) k → (j : ℕ) → j < k → finish j ≡ 0 → ⊥
        go (inl f) j b = started_in j (f j b)
        go (inr x) j b =
            let z = eqb-true (finish x.0) 0 (not-false (eqb (finish x.0) 0) x.2) in
            absurd (omega (
              arith,
              asleep_all x.0 x.1,
              fresh_word x.0 x.1 z,
              small,
              wakes_by (rest_of js x.0) finishes (predecessors js x.0) (s.release x.0) (horizon js s + longest_rest)
                  (omega (arith, release_within rows k m playing given x.0 x.1))
                  (λ w q. let l = earlier x.0 x.1 w q in
                  (started_in w (x.3 w l), omega (arith, standing.finishes_within w (omega (arith, x.1)), rest_small x.0 w x.1))),
            ))

    over_times : (j : ℕ) → j < k → (get_or starts j 0 ≡ start_time js m s j) × (finish j ≡ finish_time js m s j)
    over_times j b =
        ran_same (get_or starts j 0) (finish j) (start_time js m s j) (finish_time js m s j)
        (sym (is_ran j b) ∙ stage_over js m s given.well_formed given.admissible t h standing.stage (λ l d. ap has_started (is_ran l (in_rows l d))) j (in_jobs j b))
      where
        is_ran : (j : ℕ) → j < k → entry h j ≡ ran (get_or starts j 0) (finish j)
        is_ran j b = entry_of starts finishes k j b ∙ entry_ran (get_or starts j 0) (finish j) (all_started j b)

    pub run_over : ZeroFrom k starts → ZeroFrom k finishes → Over rows k (length cores) playing starts finishes
    run_over p q =
        record {
          starts_are = (λ j b. (over_times j b).0, p);
          finishes_are = (λ j b. (over_times j b).1, q);
        }

  -- ---- the job that starts

  module _ (c i : ℕ) (in-cores : c < length cores) (is_first : IsFirst cores (length cores) c) (next : IsLeast (key_of js wakes (get_or cores c 0)) k i) where
    inside : i < k
    inside = next.inside

    abbrev free : ℕ
    free = get_or cores c 0

    abbrev u : ℕ
    u = max free (wake i)

    abbrev f : ℕ
    f = u + s.execution i

    is_awake : wake i < asleep
    unfolding key_of
    is_awake = omega (arith, next.awake)

    fresh : finish i ≡ 0
    fresh = awake_fresh i inside is_awake

    -- it is the first that can start
    none_sooner : (j : ℕ) → j < k → u ≤ max free (wake j)
    unfolding key_of
    none_sooner j b = omega (arith, (next.least j b).0, priority_small j b)

    not_before : t ≤ u
    not_before = standing.not_before c i in-cores inside is_awake

    still : (v : ℕ) → t ≤ v → v < u → NoStart js m s v h
    still v p q j b r =
        ⊎_elim (λ e. omega (arith, standing.in_use v p, count_all (ltb v) cores 0 (λ d l. lt-ltb v (get_or cores d 0) (omega (arith, ltb-true v free e, is_first d l)))))
        (λ e. absurd (omega (arith, ltb-false v free e, (ready_wakes v j (in_rows j b) r).1, none_sooner j (in_rows j b)))) (cases (ltb v free))

    room : busy u h < m
    room = omega (arith, standing.in_use u not_before, count_below (ltb u) cores c 0 in-cores (le-ltb u free (omega arith)))

    firstly : (j : ℕ) → j < length js → Ready js s u h j → before js j i ≡ true → ⊥
    unfolding key_of
    firstly j b r e = go (before_out js j i e)
      where
        same : max free (wake j) ≡ u
        same = omega (arith, (ready_wakes u j (in_rows j b) r).1, none_sooner j (in_rows j b))

        go : Before js j i → ⊥
        go (inl l) = omega (arith, same, (next.least j (in_rows j b)).0)
        go (inr x) = omega (arith, x.1, (next.least j (in_rows j b)).1 (omega (arith, same, x.0)))

    starts_next : Stage js m s u (set h i (ran u f)) × (f ≤ horizon js s)
    starts_next =
        stage_start js m s given.well_formed given.admissible t u h not_before standing.stage still room i (in_jobs i inside) (wakes_ready u i inside is_awake (omega arith)) firstly

    pub finish_small : u + s.execution i < asleep
    finish_small = omega (arith, starts_next.1, small)

    takes_time : u < f
    takes_time = omega (arith, given.well_formed.lasts i (in_jobs i inside), (given.admissible.executions i (in_jobs i inside)).0)

    -- ---- the words after it

    finish_after : i < length finishes → (j : ℕ) → j < k → get_or (set finishes i f) j 0 ≤ horizon js s
    finish_after in_finishes j b = go (ℕ_discrete j i)
      where
        go : Dec (j ≡ i) → get_or (set finishes i f) j 0 ≤ horizon js s
        go (yes e) = rw (e, get_or-set_same finishes i f 0 in_finishes) starts_next.1
        go (no n) = rw (get_or-set_other finishes i j f 0 n) (standing.finishes_within j b)

    -- the same for the moments that were worked out
    pub finishes_small : i < length finishes → (start execution : ℕ) → start ≡ max (get_or cores c 0) (get_or wakes i 0) → execution ≡ s.execution i → (j : ℕ) → j < k
        → get_or (set finishes i (start + execution)) j 0 ≤ last_moment
    finishes_small in_finishes start execution p q j b = rw (p, q) (omega (arith, finish_after in_finishes j b, small))

    module _ (kept : WordsKept k starts finishes wakes) (woken : List ℕ) (same-long : length woken ≡ length wakes)
        (wakes-are : EachWakes (woken_by js s (set finishes i f) (set wakes i started_word) i) k woken) where
      abbrev starts' : List ℕ
      starts' = set starts i u

      abbrev finishes' : List ℕ
      finishes' = set finishes i f

      abbrev cores' : List ℕ
      cores' = set cores c f

      abbrev marked : List ℕ
      marked = set wakes i started_word

      in_starts : i < length starts
      in_starts = omega (arith, kept.starts_long)

      in_finishes : i < length finishes
      in_finishes = omega (arith, kept.finishes_long)

      few : k ≤ 64
      few = given.setting.jobs

      now_ran : history_of starts' finishes' k ≡ set h i (ran u f)
      now_ran = history_set starts finishes k i u f inside in_starts in_finishes (λ e. omega (arith, takes_time))

      -- a job that waited for job i has it as a predecessor
      waited : (j : ℕ) → j < k → finish j ≡ 0 → wake j ≡ asleep + i → member i (predecessors js j) ≡ true
      unfolding wake_of
      waited j b z e =
          waits_for_holds (rest_of js j) finishes (predecessors js j) (s.release j) i (omega (arith, small, release_within rows k m playing given j b))
          (λ w q. omega (arith, small, standing.finishes_within w (omega (arith, earlier j b w q)), rest_small j w b)) (sym (fresh_word j b z) ∙ e)

      -- the word of a job that has not started either changes with its predecessor or stays
      abbrev Either : ℕ → ℕ → Type 0
      Either j x = ((member i (predecessors js j) ≡ true) × (x ≡ wake_of js s finishes' j)) ⊎ ((x ≡ wake j) × (wake_of js s finishes j ≡ wake_of js s finishes' j))

      other_word : (j : ℕ) → j < k → (j ≡ i → ⊥) → get_or marked j 0 ≡ wake j
      other_word j b d = get_or-set_other wakes i j started_word 0 d

      fresh_after : (j : ℕ) → j < k → (j ≡ i → ⊥) → finish j ≡ 0 → Either j (get_or woken j 0)
      unfolding wake_of
      fresh_after j b d z = go (ℕ_discrete (get_or marked j 0) (asleep + i))
        where
          go : Dec (get_or marked j 0 ≡ asleep + i) → Either j (get_or woken j 0)
          go (yes e) =
              let q = waited j b z (sym (other_word j b d) ∙ e) in
              inl (q, wakes-are j b ∙ woken_anew js s finishes' marked i j (earlier j b i q) e)
          go (no n) =
              inr (
                wakes-are j b ∙ woken_as_before js s finishes' marked i j n ∙ other_word j b d,
                sym (wake_same (rest_of js j) finishes i f in_finishes fresh (predecessors js j) (s.release j) (λ e. n (other_word j b d ∙ fresh_word j b z ∙ e))),
              )

      started_after : (j : ℕ) → j < k → get_or marked j 0 ≡ started_word → get_or woken j 0 ≡ started_word
      started_after j b e = wakes-are j b ∙ woken_as_before js s finishes' marked i j (λ q. omega (arith, few)) ∙ e

      woken_after : (j : ℕ) → j < k → get_or woken j 0 ≡ word_of js s finishes' j
      woken_after j b = go (ℕ_discrete j i) (ℕ_discrete (finish j) 0)
        where
          go : Dec (j ≡ i) → Dec (finish j ≡ 0) → get_or woken j 0 ≡ word_of js s finishes' j
          go (yes d) y =
              started_after j b (ap (λ l. get_or marked l 0) d ∙ get_or-set_same wakes i started_word 0 (omega (arith, kept.wakes_long)))
              ∙ sym (word_started js s finishes' j (λ e. omega (arith, takes_time, ap (λ l. get_or finishes' l 0) d, get_or-set_same finishes i f 0 in_finishes)))
          go (no d) (no n) =
              started_after j b (other_word j b d ∙ standing.woken j b ∙ word_started js s finishes j n)
              ∙ sym (word_started js s finishes' j (λ e. n (sym (get_or-set_other finishes i j f 0 d) ∙ e)))
          go (no d) (yes z) =
              ⊎_elim (λ x. x.1) (λ x. x.0 ∙ fresh_word j b z ∙ x.1) (fresh_after j b d z) ∙ sym (word_fresh js s finishes' j (get_or-set_other finishes i j f 0 d ∙ z))

      -- nothing that is awake could have started before u
      not_sooner : (j : ℕ) → j < k → get_or woken j 0 < asleep → u ≤ max free (get_or woken j 0)
      unfolding wake_of
      not_sooner j b l = go (ℕ_discrete j i) (ℕ_discrete (finish j) 0)
        where
          go : Dec (j ≡ i) → Dec (finish j ≡ 0) → u ≤ max free (get_or woken j 0)
          go (yes d) y =
              absurd (omega (arith, started_after j b (ap (λ l. get_or marked l 0) d ∙ get_or-set_same wakes i started_word 0 (omega (arith, kept.wakes_long)))))
          go (no d) (no n) = absurd (omega (arith, started_after j b (other_word j b d ∙ standing.woken j b ∙ word_started js s finishes j n)))
          go (no d) (yes z) =
              ⊎_elim
              (λ x. omega (
                arith,
                x.1,
                takes_time,
                ((awake (rest_of js j) finishes' (predecessors js j) (s.release j) (omega (arith, x.1))).have_started i x.0).1,
                get_or-set_same finishes i f 0 in_finishes,
              ))
              (λ x. omega (arith, x.0, none_sooner j b)) (fresh_after j b d z)

      in_use_after : (v : ℕ) → u ≤ v → busy v (history_of starts' finishes' k) ≡ count (ltb v) cores'
      in_use_after v l =
          ap (busy v) now_ran
          ∙ busy_start v h i u f (omega (arith, length_history starts finishes k)) (ap has_started (entry_of starts finishes k i inside ∙ zero_fresh (get_or starts i 0) (finish i) fresh))
          ∙ omega (arith, standing.in_use v (omega (arith, not_before)), count_set (ltb v) cores c f 0 in-cores, ap ind (le-ltb v free (omega arith)))

      core_after : (d : ℕ) → d < length cores → (free ≤ get_or cores' d 0) × (get_or cores' d 0 ≤ horizon js s)
      core_after d b = go (ℕ_discrete d c)
        where
          go : Dec (d ≡ c) → (free ≤ get_or cores' d 0) × (get_or cores' d 0 ≤ horizon js s)
          go (yes e) = rw (e, get_or-set_same cores c f 0 in-cores) (omega (arith, takes_time), starts_next.1)
          go (no n) = rw (get_or-set_other cores c d f 0 n) (is_first d b, standing.cores_within d b)

      standing_after : Standing js s k u (set starts i u) (set finishes i f) woken (set cores c f)
      standing_after =
          record {
            stage = rw (length-set cores c f, now_ran) starts_next.0;
            in_use = in_use_after;
            woken = woken_after;
            not_before = λ d j b l q. omega (arith, not_sooner j l q, (core_after d (omega (arith, length-set cores c f))).0);
            finishes_within = finish_after in_finishes;
            cores_within = λ d b. (core_after d (omega (arith, length-set cores c f))).1;
          }

      zero_after : (l : List ℕ) (x : ℕ) → ZeroFrom k l → ZeroFrom k (set l i x)
      zero_after l x z j b = get_or-set_other l i j x 0 (λ e. omega arith) ∙ z j b

      kept_after : WordsKept k (set starts i u) (set finishes i f) woken
      kept_after =
          record {
            starts_long = omega (arith, length-set starts i u, kept.starts_long);
            finishes_long = omega (arith, length-set finishes i f, kept.finishes_long);
            wakes_long = omega (arith, same-long, kept.wakes_long);
            starts_zero = zero_after starts u kept.starts_zero;
            finishes_zero = zero_after finishes f kept.finishes_zero;
          }

      one_fewer : unstarted_in (set finishes i f) k < unstarted_in finishes k
      unfolding unstarted_in
      one_fewer =
          sum_lt (λ j. ind (eqb (get_or finishes' j 0) 0)) (λ j. ind (eqb (finish j) 0)) k
          (λ j b. at_most j (ℕ_discrete j i)) i inside (rw (get_or-set_same finishes i f 0 in_finishes, ne_eqb f 0 (λ e. omega (arith, takes_time)), eq-eqb (finish i) 0 fresh) (omega arith))
        where
          at_most : (j : ℕ) → Dec (j ≡ i) → ind (eqb (get_or finishes' j 0) 0) ≤ ind (eqb (finish j) 0)
          at_most j (yes e) = rw (e, get_or-set_same finishes i f 0 in_finishes, ne_eqb f 0 (λ e. omega (arith, takes_time))) (omega arith)
          at_most j (no n) = rw (get_or-set_other finishes i j f 0 n) (omega arith)

    -- the turn, by the moments that were worked out
    pub turned : WordsKept k starts finishes wakes → (woken : List ℕ) → length woken ≡ length wakes → (start execution : ℕ) → start ≡ max (get_or cores c 0) (get_or wakes i 0)
        → execution ≡ s.execution i → EachWakes (woken_by js s (set finishes i (start + execution)) (set wakes i started_word) i) k woken
        → Turned rows k (length cores) playing finishes (set starts i start) (set finishes i (start + execution)) woken (set cores c (start + execution)) true
    turned kept woken same-long start execution p q wakes-are =
        let known : EachWakes (woken_by js s (set finishes i f) (set wakes i started_word) i) k woken = rw (← p, ← q) wakes-are in
        rw (p, q) (
          length-set cores c f,
          record { time = u; standing = standing_after kept woken same-long known; kept = kept_after kept woken same-long known },
          one_fewer kept woken same-long known,
        )
