-- One level built from the states of another: what holds before each state, and what each leaves. Assumes nothing.
use Prim.Native.Nat.{ℕ, zero, suc, ◌+◌, ◌*◌, ◌-◌, ◌≤◌, ◌<◌}
use mathlib.Core.Path.{◌≡◌, refl, sym, ap, ◌∙◌, subst}
use mathlib.Core.List.{List, [], ◌∷◌}
use native.Mathlib.Nat.{sub-zero}
use native.Mathlib.Numerals.{add-one}
use native.Mathlib.Omega.{arith}
use lib.ListN.{length}
use Rattle.std.specs.Prelude.{Result, Ok, Err}
use borrow.Rule.Slice.PartMut.{put_mid, put_same}
use Rattle.model.specs.Limits.{latest_time}
use Rattle.model.specs.Jobs.{Job}
use Rattle.model.specs.States.{State, level}
use Rattle.model.specs.Exploration.{Exploration, going, try_jobs, try_states, state_words}
use Rattle.model.specs.internal.Bounds.{Bounded}
use Rattle.words.specs.Tabulate.{tabulate}
use Rattle.words.proofs.Parts.{part_length, part_same, length_put}
use Rattle.words.specs.internal.Parts.{part}
use Rattle.jobs.specs.internal.JobRow.{jobs_of_rows}
use Rattle.jobs.proofs.Jobs.{length_jobs}
use Rattle.states.specs.internal.Slots.{set_of, state_of, slot_of, states_of, Sound}
use Rattle.store.specs.declared.Index.{Index}
use Rattle.store.specs.internal.Index.{head_room, Fits, used_of, Linked, Indexed}
use Rattle.store.proofs.Storing.{slot_fits}
use Rattle.store.proofs.Chains.{no_states}
use Rattle.steps.specs.internal.Observed.{observed_of, Observed}
use Rattle.steps.specs.internal.Progress.{progress_of, Half, Target, HalfAt, Linkable, Leaves}
use Rattle.analysis.specs.internal.Answers.{Halves, AllLinkable}
use Rattle.steps.specs.declared.shape.Shape.{Shape}
use Rattle.steps.specs.declared.stop.Stop.{Stop}
use Rattle.steps.proofs.Following.{Stopped, jobs_stopped, ended}
use Rattle.analysis.proofs.Halves.{put_put, source_kept}

-- ---- an exploration that has stopped stays

module _ (js : List Job) (cap : ℕ) where
  states_stopped : (l : List State) (x : Exploration) → Stopped x → try_states js cap l x ≡ x
  unfolding try_states
  states_stopped [] x h = refl
  states_stopped (σ ∷ σs) x h = ap (try_states js cap σs) (jobs_stopped js cap σ (length js) x h) ∙ states_stopped σs x h

  -- ---- states by their numbers

  module _ (f : ℕ → State) (n j : ℕ) (x : Exploration) where
    states_on : j < n → try_states js cap (tabulate f j (n - j)) x ≡ try_states js cap (tabulate f (j + 1) (n - (j + 1))) (try_jobs js cap (f j) (length js) x)
    unfolding try_states tabulate
    states_on h = ap (λ (z : ℕ). try_states js cap (tabulate f j z) x) more ∙ rw (add-one j)
      where
        more : n - j ≡ suc (n - (j + 1))
        more = omega arith

    states_end : n ≤ j → try_states js cap (tabulate f j (n - j)) x ≡ x
    unfolding try_states tabulate
    states_end h = ap (λ (z : ℕ). try_states js cap (tabulate f j z) x) none
      where
        none : n - j ≡ zero
        none = omega arith

-- ---- the level while it is built

-- these sizes of a check, and this index of a level
abbrev pub shaped : ℕ → ℕ → ℕ → Index → Shape
shaped k m cap index = record { cores = m; jobs = k; capacity = cap; index = index }

cut : (a b : ℕ) → a + b - a ≡ b
cut a b = omega arith

-- j of the n states are explored, and have left so many in the other half
pub record Building (rows : List ℕ) (k m cap : ℕ) (index : Index) (from to n : ℕ) (table₀ seen₀ table seen heads : List ℕ) (built j : ℕ) : Type 0 where
  pub halves : Halves (length table₀) (cap * state_words m k) from to
  pub given : Half (jobs_of_rows rows k) m k cap (part from (cap * state_words m k) table₀) n
  pub linkable : AllLinkable (shaped k m cap index) (part from (cap * state_words m k) table₀) n
  pub long : length table ≡ length table₀
  pub target : Target (jobs_of_rows rows k) (shaped k m cap index) (part to (cap * state_words m k) table) heads built
  pub frame : table ≡ put_mid to (cap * state_words m k) table₀ (part to (cap * state_words m k) table)
  pub observed : Observed k seen
  pub rest : (c : ℕ) →
      try_states (jobs_of_rows rows k) cap (tabulate (λ (i : ℕ). state_of m k (slot_of m k (part from (cap * state_words m k) table₀) i)) j (n - j)) (going (states_of m k (part to (cap * state_words m k) table) built) (observed_of k seen) c)
      ≡ try_states (jobs_of_rows rows k) cap (states_of m k (part from (cap * state_words m k) table₀) n) (going [] (observed_of k seen₀) c)

-- a level without states is indexed by any heads
nothing_indexed : (m k : ℕ) (index : Index) (ws heads : List ℕ) → length heads ≡ head_room → Indexed m k index ws heads 0
nothing_indexed m k index ws heads l =
    let none : 0 ≡ used_of index 0 = omega arith in
    record { long = l; spared = λ j h. absurd (omega (arith, h)); linked = subst (Linked m k index ws heads) none (no_states _ _ _) }

-- before the first state, nothing is built
pub building_starts : {rows : List ℕ} {k m cap : ℕ} {index : Index} {from to n : ℕ} {table seen heads : List ℕ}
    → Halves (length table) (cap * state_words m k) from to → Half (jobs_of_rows rows k) m k cap (part from (cap * state_words m k) table) n → Observed k seen
    → length heads ≡ head_room → Fits m k (cap * state_words m k) index → AllLinkable (shaped k m cap index) (part from (cap * state_words m k) table) n
    → Building rows k m cap index from to n table seen table seen heads 0 0
unfolding states_of tabulate
building_starts {rows} {k} {m} {cap} {index} {from} {to} {n} {table} {seen} {heads} h g o l f a =
    record {
      halves = h;
      given = g;
      linkable = a;
      long = refl;
      target = (
        record { long = part_length to (cap * state_words m k) table h.target; room = omega arith; sound = λ j b. absurd (omega (arith, b)) },
        (f, nothing_indexed m k index (part to (cap * state_words m k) table) heads l),
      );
      frame = sym (put_same to (cap * state_words m k) table);
      observed = o;
      rest = λ c.
          ap (λ (z : ℕ). try_states (jobs_of_rows rows k) cap (tabulate (λ (i : ℕ). state_of m k (slot_of m k (part from (cap * state_words m k) table) i)) 0 z) (going [] (observed_of k seen) c))
          (sub-zero n);
    }

module _ {rows : List ℕ} {k m cap : ℕ} {index : Index} {from to n : ℕ} {table₀ seen₀ table seen heads : List ℕ} {built j : ℕ}
    (before : Building rows k m cap index from to n table₀ seen₀ table seen heads built j) where
  abbrev js : List Job
  js = jobs_of_rows rows k

  abbrev shape : Shape
  shape = shaped k m cap index

  abbrev W : ℕ
  W = state_words m k

  abbrev size : ℕ
  size = cap * W

  -- the states that are explored
  abbrev source : ℕ → State
  source i = state_of m k (slot_of m k (part from size table₀) i)

  abbrev Next : ℕ → Exploration
  Next c = try_states js cap (states_of m k (part from size table₀) n) (going [] (observed_of k seen₀) c)

  -- what the level's end leaves, and that the rest of the table is as it was
  abbrev Built : Result ℕ Stop → List ℕ → List ℕ → List ℕ → Type 0
  Built r table seen heads = Leaves js shape Next r (part to size table) seen heads × (table ≡ put_mid to size table₀ (part to size table))

  target_long : length (part to size table) ≡ size
  target_long = part_length to size table (omega (arith, before.halves.target, before.long))

  -- after the last, the level is built
  pub building_ends : n ≤ j → Built (Ok built) table seen heads
  building_ends h = (
    record {
      same = λ c. sym (states_end js cap source n j (going (states_of m k (part to size table) built) (observed_of k seen) c) h) ∙ before.rest c;
      sound = before.target;
      observed = before.observed;
    },
    before.frame,
  )

  -- by what the code takes for the words of a state
  module _ {w : ℕ} (wide : w ≡ W) (more : j < n) where
    -- the part that is read
    abbrev at : ℕ
    at = from + j * w

    abbrev read : List ℕ
    read = part at (at + w - at) table

    -- the part that is written
    abbrev span : ℕ
    span = to + cap * w - to

    spans : span ≡ size
    spans = ap (λ (z : ℕ). to + cap * z - to) wide ∙ cut to size

    -- the half that is lent is the one that is built
    pub target_half : Target js shape (part to span table) heads built
    target_half = rw spans before.target

    read_now : read ≡ slot_of m k (part from size table₀) j
    read_now =
        ap (λ (z : ℕ). part (from + j * z) (from + j * z + z - (from + j * z)) table) wide
        ∙ ap (λ (z : ℕ). part (from + j * W) z table) (cut (from + j * W) W) ∙ ap (part (from + j * W) W) before.frame
        ∙ source_kept size from to (j * W) W table₀ (part to size table) before.halves target_long (slot_fits j cap W (omega (arith, before.given.room)))

    module _ (cur : List ℕ) (same_state : state_of m k cur ≡ state_of m k read) where
      in_hand : state_of m k cur ≡ source j
      in_hand = same_state ∙ ap (state_of m k) read_now

      -- the state in hand is sound
      pub loaded_sound : set_of cur ≡ set_of read → Sound js m k cur
      loaded_sound same_set =
          let s = before.given.sound j more in
          record {
            set_fits = rw (same_set ∙ ap set_of read_now) s.set_fits;
            bounded = subst (Bounded js latest_time) (sym in_hand) s.bounded;
          }

      -- and what follows it can be linked
      pub loaded_linkable : Linkable shape cur
      loaded_linkable h = omega (arith, ap level in_hand, before.linkable j more h)

      module _ {r : Result ℕ Stop} {half seen' heads' : List ℕ} (kept : length half ≡ length (part to span table))
          (leaves : Leaves js shape (λ c. try_jobs js cap (state_of m k cur) k (going (states_of m k (part to span table) built) (observed_of k seen) c))
          r half seen' heads') where
        abbrev table' : List ℕ
        table' = put_mid to span table half

        half_long : length half ≡ size
        half_long = kept ∙ ap (λ (z : ℕ). length (part to z table)) spans ∙ target_long

        fits : to + size ≤ length table
        fits = omega (arith, before.halves.target, before.long)

        sized : table' ≡ put_mid to size table half
        sized = ap (λ (z : ℕ). put_mid to z table half) spans

        -- the table keeps its length
        pub table_long : length table' ≡ length table₀
        table_long = ap length sized ∙ length_put to size table half fits half_long ∙ before.long

        put : part to size table' ≡ half
        put = ap (part to size) sized ∙ part_same to size table half fits half_long

        framed : table' ≡ put_mid to size table₀ (part to size table')
        framed =
            sized ∙ ap (λ (z : List ℕ). put_mid to size z half) before.frame ∙ put_put to size table₀ (part to size table) half before.halves.target target_long
            ∙ ap (put_mid to size table₀) (sym put)

        -- the states that are left, from what the step leaves on, make the level
        after : (c : ℕ) → try_states js cap (tabulate source (j + 1) (n - (j + 1))) (progress_of m k (observed_of k seen') c r half) ≡ Next c
        after c =
            let x = going (states_of m k (part to size table) built) (observed_of k seen) c in
            ap (try_states js cap (tabulate source (j + 1) (n - (j + 1))))
            (leaves.same c ∙ ap (λ (z : ℕ). try_jobs js cap (state_of m k cur) k (going (states_of m k (part to z table) built) (observed_of k seen) c)) spans
            ∙ ap (λ (σ : State). try_jobs js cap σ k x) in_hand ∙ ap (λ (z : ℕ). try_jobs js cap (source j) z x) (sym (length_jobs rows k)))
            ∙ sym (states_on js cap source n j x more) ∙ before.rest c

        -- a step that goes on leaves one state more explored
        pub building_goes_on : {count : ℕ} → r ≡ Ok count → Building rows k m cap index from to n table₀ seen₀ table' seen' heads' count (j + 1)
        building_goes_on {count} e =
            record {
              halves = before.halves;
              given = before.given;
              linkable = before.linkable;
              long = table_long;
              target = subst (λ (z : List ℕ). Target js shape z heads' count) (sym put) (subst (λ (z : Result ℕ Stop). HalfAt js shape z half heads') e leaves.sound);
              frame = framed;
              observed = leaves.observed;
              rest = λ c.
                  ap (λ (z : List ℕ). try_states js cap (tabulate source (j + 1) (n - (j + 1))) (going (states_of m k z count) (observed_of k seen') c)) put
                  ∙ ap (λ (z : Result ℕ Stop). try_states js cap (tabulate source (j + 1) (n - (j + 1))) (progress_of m k (observed_of k seen') c z half)) (sym e) ∙ after c;
            }

        stays : (x : Exploration) → Stopped x → (c : ℕ) → progress_of m k (observed_of k seen') c r half ≡ x → x ≡ Next c
        stays x h c e =
            let rest = tabulate source (j + 1) (n - (j + 1)) in
            sym (states_stopped js cap rest x h) ∙ ap (try_states js cap rest) (sym e) ∙ after c

        -- a step that does not go on ends the level
        pub building_stops : {stop : Stop} → r ≡ Err stop → Built (Err stop) table' seen' heads'
        building_stops {stop} e = (
          record {
            same = λ c.
                ap (progress_of m k (observed_of k seen') c (Err stop)) put
                ∙ stays (progress_of m k (observed_of k seen') c (Err stop) half) (ended stop m k (observed_of k seen') c half) c
                (ap (λ (z : Result ℕ Stop). progress_of m k (observed_of k seen') c z half) e);
            sound = tt;
            observed = leaves.observed;
          },
          framed,
        )
