-- In every state of level n, n jobs have started; so in every state that a half holds. Assumes nothing.
use Prim.Native.Nat.{ℕ, zero, suc, ◌+◌, ◌<◌}
use mathlib.Core.Path.{◌≡◌, refl, sym, ap, ◌∙◌, subst}
use mathlib.Core.Bool.{true, false, false≢true}
use mathlib.Core.List.{List, [], ◌∷◌, zip_with}
use native.Mathlib.Nat.{zero-add, add-zero, le_of_suc-le-suc, not-suc-le-zero}
use native.Mathlib.Omega.{arith}
use lib.ListN.{length, length-set, length-replicate}
use Rattle.model.specs.Folds.{ind, count}
use Rattle.model.specs.Jobs.{Job}
use Rattle.model.specs.States.{Range, empty, range, is_range, State, started, level, initial}
use Rattle.model.specs.Edges.{candidate, eligible, successor}
use Rattle.model.specs.Exploration.{hull, same_started, mergeable, merge, Exploration, going, full, miss, explored}
use Rattle.model.proofs.Booleans.{and_left}
use Rattle.model.proofs.Folds.{count_set, count_none}
use Rattle.model.proofs.Availability.{zip_length}
use Rattle.model.proofs.Enclosure.{All, all_map}
use Rattle.model.proofs.Induction.{WhileGoing, Edge, finish_range, level_has}
use Rattle.model.proofs.Starts.{candidate_out}
use Rattle.words.specs.Tabulate.{tabulate}
use Rattle.states.specs.internal.Slots.{state_of, slot_of, states_of}

-- ---- how many jobs have started

-- where the same jobs have started, as many have in the hulls
count_hull : (l r : List Range) → same_started l r ≡ true → count is_range (zip_with hull l r) ≡ count is_range l
unfolding same_started zip_with count
count_hull [] [] e = refl
count_hull [] (b ∷ bs) e = absurd (false≢true e)
count_hull (a ∷ us) [] e = absurd (false≢true e)
count_hull (empty ∷ us) (empty ∷ bs) e = ap (λ (z : ℕ). 0 + z) (count_hull us bs e)
count_hull (empty ∷ us) (range x y ∷ bs) e = absurd (false≢true e)
count_hull (range x y ∷ us) (empty ∷ bs) e = absurd (false≢true e)
count_hull (range x y ∷ us) (range x' y' ∷ bs) e = ap (λ (z : ℕ). 1 + z) (count_hull us bs e)

-- a merge starts none
merge_level : (τ σ : State) → mergeable τ σ ≡ true → level (merge τ σ) ≡ level τ
unfolding mergeable merge
merge_level τ σ e = count_hull τ.finish σ.finish (and_left _ _ e)

module _ (js : List Job) where
  -- a state of these jobs, n of which have started
  record Deep (n : ℕ) (σ : State) : Type 0 where
    jobs : length σ.finish ≡ length js
    deep : level σ ≡ n

  -- the job of an edge has not started
  fresh : (σ : State) (i : ℕ) → Edge js σ i → started σ i ≡ false
  unfolding eligible
  fresh σ i e = (candidate_out js σ i (and_left (candidate js σ i) _ e.starts)).0

  initial_deep : (m : ℕ) → Deep 0 (initial m (length js))
  initial_deep m = record { jobs = length-replicate (length js) empty; deep = count_none is_range (length js) empty refl }

  -- an edge starts one
  successor_deep : (n : ℕ) (σ : State) (i : ℕ) → Edge js σ i → Deep n σ → Deep (suc n) (successor js σ i)
  unfolding successor
  successor_deep n σ i e g =
      record {
        jobs = length-set σ.finish i (finish_range js σ i) ∙ g.jobs;
        deep = omega (
          arith,
          count_set is_range σ.finish i (finish_range js σ i) empty (omega (arith, e.inside, g.jobs)),
          ap ind (fresh σ i e),
          g.deep,
        );
      }

  merge_deep : (n : ℕ) (τ σ : State) → mergeable τ σ ≡ true → Deep n τ → Deep n σ → Deep n (merge τ σ)
  unfolding merge
  merge_deep n τ σ e g h =
      record {
        jobs = zip_length hull τ.finish σ.finish (g.jobs ∙ sym h.jobs) ∙ g.jobs;
        deep = merge_level τ σ e ∙ g.deep;
      }

-- what follows while it goes on
going_map : {P Q : List State → List Range → Type 0} (x : Exploration) → ((l : List State) (seen : List Range) → P l seen → Q l seen) → WhileGoing P x
    → WhileGoing Q x
going_map (going l seen c) f h = f l seen h
going_map (full n) f h = tt
going_map (miss i e d) f h = tt

-- every state of level n is of level n
pub levels_are : (js : List Job) (m cap n : ℕ) → WhileGoing (λ l seen. All (λ σ. level σ ≡ n) l) (explored js m cap n)
levels_are js m cap n =
    going_map (explored js m cap n) (λ l seen h. all_map l (λ σ g. g.deep) h.states)
    (level_has js m cap (Deep js) (λ k r. Unit {0}) (initial_deep js m) (successor_deep js) (merge_deep js) (λ k. tt) (λ n σ i e g r h. tt) n)

-- ---- the states of a half

-- what all of a list by its index have, each has
all_tabulate : {A : Type 0} (P : A → Type 0) (f : ℕ → A) (a n : ℕ) → All P (tabulate f a n) → (j : ℕ) → j < n → P (f (a + j))
unfolding tabulate
all_tabulate P f a zero h j b = absurd (not-suc-le-zero b)
all_tabulate P f a (suc n) h zero b = rw add-zero h.0
all_tabulate P f a (suc n) h (suc j) b = subst (λ (i : ℕ). P (f i)) (omega arith) (all_tabulate P f (suc a) n h.1 j (le_of_suc-le-suc b))

-- where a half holds the states of level L, L jobs have started in each
pub depth_of : (js : List Job) (m k cap : ℕ) (half : List ℕ) {L n c : ℕ} {seen : List Range} → going (states_of m k half n) seen c ≡ explored js m cap L
    → (j : ℕ) → j < n → level (state_of m k (slot_of m k half j)) ≡ L
unfolding states_of
depth_of js m k cap half {L} {n} e j b =
    let all_are = subst (WhileGoing (λ l seen. All (λ σ. level σ ≡ L) l)) (sym e) (levels_are js m cap L) in
    subst (λ (i : ℕ). level (state_of m k (slot_of m k half i)) ≡ L) (zero-add j)
    (all_tabulate (λ σ. level σ ≡ L) (λ (i : ℕ). state_of m k (slot_of m k half i)) 0 n all_are j b)
