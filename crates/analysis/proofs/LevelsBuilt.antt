-- Level after level: what holds before each, and what each leaves. Assumes nothing.
use Prim.Native.Nat.{ℕ, ◌+◌, ◌*◌, ◌≤◌, ◌<◌}
use mathlib.Core.Path.{◌≡◌, refl, sym, ap, ◌∙◌, subst}
use mathlib.Core.Bool.{true}
use mathlib.Core.List.{List, []}
use native.Mathlib.Nat.{suc-mul}
use native.Mathlib.Numerals.{add-one, lt_of_le_of_ne}
use native.Mathlib.Omega.{arith}
use lib.Dec.{eqb}
use lib.ListN.{length, drop}
use borrow.Author.Tests.{eq-eqb}
use borrow.Rule.Slice.PartMut.{put_mid}
use Rattle.std.specs.Prelude.{Result, Ok, Err}
use Rattle.model.specs.Jobs.{Job}
use Rattle.model.specs.Exploration.{Exploration, going, full, miss, try_states, counted, next_level, explored, Verdict, accepted, verdict_of, analysis, state_words}
use Rattle.model.proofs.Coverage.{kept_from}
use Rattle.words.proofs.Tabulate.{length_tabulate}
use Rattle.words.proofs.Parts.{part_length, drop_after}
use Rattle.words.specs.internal.Parts.{part}
use Rattle.jobs.specs.internal.JobRow.{jobs_of_rows}
use Rattle.jobs.proofs.Jobs.{length_jobs}
use Rattle.states.specs.internal.Slots.{state_of, slot_of, states_of}
use Rattle.steps.specs.internal.Observed.{observed_of, Observed}
use Rattle.store.specs.declared.Index.{Index}
use Rattle.steps.specs.internal.Progress.{progress_of, Half, HalfAt, Leaves}
use Rattle.analysis.specs.internal.Answers.{Halves, AllLinkable, verdict_in}
use Rattle.steps.specs.declared.stop.Stop.{Stop}
use Rattle.steps.specs.declared.stop.Stop.TheVariants.{Full, Late}
use Rattle.steps.proofs.Following.{Stopped, ended}
use Rattle.analysis.proofs.Depth.{depth_of}
use Rattle.analysis.proofs.Building.{shaped}
use Rattle.analysis.proofs.Halves.{Roles, roles_apart, roles_change}

-- ---- an analysis that has stopped stays

module _ (js : List Job) (m cap : ℕ) where
  next_stopped : (x : Exploration) → Stopped x → next_level js cap x ≡ x
  unfolding next_level
  next_stopped (going l seen c) h = absurd h
  next_stopped (full n) h = refl
  next_stopped (miss i e f) h = refl

  -- the answer is that of the level at which it has stopped
  pub stops : (l : ℕ) (x : Exploration) → Stopped x → l ≤ length js → x ≡ explored js m cap l → verdict_of x ≡ analysis js m cap
  unfolding analysis explored
  stops l x h b e =
      ap verdict_of (kept_from (λ j. x ≡ explored js m cap j) (λ j p. sym (next_stopped x h) ∙ ap (next_level js cap) p) l (length js) b e)

  next_of : (l : ℕ) (x : Exploration) → x ≡ explored js m cap l → next_level js cap x ≡ explored js m cap (l + 1)
  unfolding explored
  next_of l x e = rw (add-one l) (ap (next_level js cap) e)

counted_stopped : (x : Exploration) → Stopped x → counted x ≡ x
counted_stopped (going l seen c) h = absurd h
counted_stopped (full n) h = refl
counted_stopped (miss i e f) h = refl

-- the verdict of a step that does not go on is that of its exploration
verdict_stop : (stop : Stop) (m k c : ℕ) (seen half : List ℕ) → verdict_of (progress_of m k (observed_of k seen) c (Err stop) half) ≡ verdict_in k (Err stop) seen
verdict_stop (Full l) m k c seen half = refl
verdict_stop (Late i e f) m k c seen half = refl

-- ---- the levels while they are built

-- so many levels are complete; the last, of n states, is in the half that is read next
pub record LevelsBuilt (rows : List ℕ) (k m cap : ℕ) (table₀ table seen : List ℕ) (from to n count level : ℕ) : Type 0 where
  pub room : 2 * (cap * state_words m k) ≤ length table₀
  pub long : length table ≡ length table₀
  pub roles : Roles (cap * state_words m k) from to
  pub half : Half (jobs_of_rows rows k) m k cap (part from (cap * state_words m k) table) n
  pub observed : Observed k seen
  pub past : drop (2 * (cap * state_words m k)) table ≡ drop (2 * (cap * state_words m k)) table₀
  pub few : count ≤ 1 + level * cap
  pub same : going (states_of m k (part from (cap * state_words m k) table) n) (observed_of k seen) count ≡ explored (jobs_of_rows rows k) m cap level

module _ {rows : List ℕ} {k m cap : ℕ} {table₀ table seen : List ℕ} {from to n count level : ℕ} (before : LevelsBuilt rows k m cap table₀ table seen from to n count level) where
  abbrev js : List Job
  js = jobs_of_rows rows k

  abbrev size : ℕ
  size = cap * state_words m k

  -- the analysis gives this answer, and words past both halves are as they were
  abbrev Answered : Verdict → List ℕ → List ℕ → Type 0
  Answered a t s = (a ≡ analysis js m cap) × (Observed k s × (drop (2 * size) t ≡ drop (2 * size) table₀))

  sides : Halves (length table) size from to × (to + size ≤ 2 * size)
  sides = roles_apart (length table) size from to (omega (arith, before.long, before.room)) before.roles

  -- the two halves lie in the table, apart from each other
  pub halves_apart : Halves (length table) size from to
  halves_apart = sides.0

  -- after the last, the analysis accepts
  pub levels_end : level ≡ k → Answered (accepted (observed_of k seen) count) table seen
  unfolding analysis
  levels_end h =
      let e = h ∙ sym (length_jobs rows k) in
      (ap verdict_of (before.same ∙ ap (explored js m cap) e), (before.observed, before.past))

  -- if the states of the last level are not linked, those that follow the states of this one can be, where they are
  pub level_linkable : (index : Index) → level < k → (eqb (level + 1) k ≡ true → index.linked ≡ 0) → AllLinkable (shaped k m cap index) (part from size table) n
  level_linkable index more last j b h =
      let not_last : level + 1 < k = lt_of_le_of_ne (omega arith) (λ e. omega (arith, last (eq-eqb _ _ e), h)) in
      omega (arith, depth_of js m k cap (part from size table) before.same j b)

  module _ {index : Index} {r : Result ℕ Stop} {table' seen' heads : List ℕ} (more : level < k) (kept : length table' ≡ length table)
      (leaves : Leaves js (shaped k m cap index) (λ c. try_states js cap (states_of m k (part from size table) n) (going [] (observed_of k seen) c)) r
      (part to size table') seen' heads)
      (frame : table' ≡ put_mid to size table (part to size table')) where
    next : counted (progress_of m k (observed_of k seen') count r (part to size table')) ≡ explored js m cap (level + 1)
    unfolding next_level
    next = ap counted (leaves.same count) ∙ next_of js m cap level (going (states_of m k (part from size table) n) (observed_of k seen) count) before.same

    past : drop (2 * size) table' ≡ drop (2 * size) table₀
    past =
        let l = part_length to size table' (omega (arith, kept, halves_apart.target)) in
        ap (drop (2 * size)) frame ∙ drop_after to size table (part to size table') halves_apart.target l (2 * size) sides.1 ∙ before.past

    module _ {x : ℕ} (e : r ≡ Ok x) where
      half : Half js m k cap (part to size table') x
      half = (subst (λ (z : Result ℕ Stop). HalfAt js (shaped k m cap index) z (part to size table') heads) e leaves.sound).0

      few : count + x ≤ 1 + (level + 1) * cap
      few = omega (arith, ap (λ (z : ℕ). z * cap) (add-one level) ∙ suc-mul level cap, before.few, half.room)

      -- a level that goes on is complete, and the halves change roles
      pub levels_go_on : LevelsBuilt rows k m cap table₀ table' seen' to from x (count + x) (level + 1)
      unfolding states_of
      levels_go_on =
          record {
            room = before.room;
            long = kept ∙ before.long;
            roles = roles_change size from to before.roles;
            half = half;
            observed = leaves.observed;
            past = past;
            few = few;
            same =
                ap (λ (z : ℕ). going (states_of m k (part to size table') x) (observed_of k seen') (count + z))
                (sym (length_tabulate (λ (j : ℕ). state_of m k (slot_of m k (part to size table') j)) 0 x))
                ∙ ap (λ (z : Result ℕ Stop). counted (progress_of m k (observed_of k seen') count z (part to size table'))) (sym e) ∙ next;
          }

    -- a level that is full ends the analysis, and so does a late job
    pub levels_stop : {stop : Stop} → r ≡ Err stop → Answered (verdict_in k (Err stop) seen') table' seen'
    levels_stop {stop} e =
        let x = progress_of m k (observed_of k seen') count (Err stop) (part to size table') in
        let h = ended stop m k (observed_of k seen') count (part to size table') in (
          sym (verdict_stop stop m k count seen' (part to size table'))
              ∙ stops js m cap (level + 1) x h (omega (arith, length_jobs rows k))
              (sym (counted_stopped x h) ∙ ap (λ (z : Result ℕ Stop). counted (progress_of m k (observed_of k seen') count z (part to size table'))) (sym e) ∙ next),
          (leaves.observed, past),
        )
