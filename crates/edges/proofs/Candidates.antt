-- The sets of predecessors, as the code writes them, and a candidate by its set and that of the started jobs. Assumes nothing.
use Prim.Native.Nat.{ℕ, zero, suc, ◌+◌, ◌/◌, ◌%◌, ◌^◌, ◌<◌, ◌≤◌}
use mathlib.Core.Path.{◌≡◌, refl, sym, ap, ◌∙◌}
use mathlib.Core.Logic.{⊎_elim}
use mathlib.Core.Bool.{Bool, true, false, not, ◌&&◌, ◌||◌, or_assoc, or-false}
use mathlib.Core.List.{List}
use native.Mathlib.Numerals.{add-one}
use native.Mathlib.Omega.{arith}
use lib.Bits.{bit_and, bit_or}
use lib.Count.{count_trailing_zeros, under}
use lib.Dec.{eqb}
use lib.ListN.{get_or, length, set, drop, drop_of_length-le}
use lib.Seq.{drop-cons}
use borrow.Author.Tests.{eqb-true, eq-eqb, not-true}
use Rattle.model.specs.Folds.{every, member}
use Rattle.model.specs.Jobs.{Job, predecessors}
use Rattle.model.specs.States.{started}
use Rattle.model.specs.Edges.{candidate}
use Rattle.model.proofs.Booleans.{cases, and_left, and_right, and_both, or_cases}
use Rattle.model.proofs.Folds.{every_in, every_out}
use Rattle.states.specs.internal.Slots.{set_of, in_set, state_of}
use Rattle.states.proofs.Contents.{started_at}
use Rattle.edges.specs.internal.Edges.{PredecessorSet}
use Rattle.states.proofs.Bits.{in_meet, in_union, in_one, in_half, same_set}

-- ---- the set of a list's elements: each is in the set r, or left in the list from index j on

module _ (l : List ℕ) (j r : ℕ) (left : (w : ℕ) → member w l ≡ (in_set r w || member w (drop j l))) where
  -- with no element left, the set has the elements of the list
  pub joined_all : length l ≤ j → (w : ℕ) → in_set r w ≡ member w l
  unfolding member
  joined_all h w = sym (left w ∙ rw (drop_of_length-le l h, or-false))

  -- the next element is joined to the set
  pub join_next : j < length l → (w : ℕ) → member w l ≡ (in_set (bit_or r (2 ^ get_or l j 0)) w || member w (drop (j + 1) l))
  unfolding member
  join_next h w = left w ∙ rw (add-one, drop-cons l j 0 h, in_union, in_one, or_assoc)

-- with one more below a bound, all stay below it
pub joined_below : (i r x : ℕ) → ((w : ℕ) → in_set r w ≡ true → w < i) → x < i → (w : ℕ) → in_set (bit_or r (2 ^ x)) w ≡ true → w < i
joined_below i r x f h w e =
    ⊎_elim (f w) (λ q. omega (arith, eqb-true w x (sym (in_one x w) ∙ q))) (or_cases (in_set r w) (in_set (2 ^ x) w) (sym (in_union r (2 ^ x) w) ∙ e))

-- ---- the jobs that are passed over

-- below the lowest digit that is set in what is left of all, every number is in the set
pub below_the_rest : (k set rest : ℕ) → set + rest + 1 ≡ 2 ^ k → (w : ℕ) → w < count_trailing_zeros k rest → in_set set w ≡ true
unfolding count_trailing_zeros
below_the_rest zero set rest e w h = absurd (omega arith)
below_the_rest (suc k) set rest e w h = go (rest % 2) refl (λ q. below_the_rest k (set / 2) (rest / 2) (omega arith)) w h
  where
    go : (d : ℕ) → rest % 2 ≡ d → (d ≡ 0 → (v : ℕ) → v < count_trailing_zeros k (rest / 2) → in_set (set / 2) v ≡ true)
        → (v : ℕ) → v < under d (count_trailing_zeros k (rest / 2)) → in_set set v ≡ true
    go zero q lower zero h = eq-eqb (set / 1 % 2) 1 (omega arith)
    go zero q lower (suc v) h = in_half set v ∙ lower refl v (omega arith)
    go (suc d) q lower v h = absurd (omega arith)

-- a started job is no candidate
pub started_not : (js : List Job) (m k : ℕ) (ws : List ℕ) (j : ℕ) → j < k → in_set (set_of ws) j ≡ true → candidate js (state_of m k ws) j ≡ false
unfolding candidate
started_not js m k ws j h e = rw (started_at m k ws j h, e)

-- ---- the test of a candidate

equal : (a b : Bool) → (a ≡ true → b ≡ true) → (b ≡ true → a ≡ true) → a ≡ b
equal true b f g = sym (f refl)
equal false true f g = g refl
equal false false f g = refl

every_same : (p q : ℕ → Bool) (l : List ℕ) → ((w : ℕ) → member w l ≡ true → p w ≡ q w) → every p l ≡ every q l
every_same p q l h =
    equal _ _ (λ e. every_in q l (λ w i. sym (h w i) ∙ every_out p l e w i)) (λ e. every_in p l (λ w i. h w i ∙ every_out q l e w i))

module _ (js : List Job) (j needed : ℕ) (p : PredecessorSet js j needed) where
  not_itself : in_set needed j ≡ false
  not_itself = ⊎_elim (λ e. absurd (omega (arith, p.earlier j e))) (λ e. e) (cases (in_set needed j))

  module _ (set : ℕ) where
    met : (w : ℕ) → in_set (bit_and (bit_or needed (2 ^ j)) set) w ≡ ((in_set needed w || eqb w j) && in_set set w)
    met w = rw (in_meet, in_union, in_one)

    -- the comparison tells whether the job has not started and all its predecessors have
    pub candidate_test : eqb (bit_and (bit_or needed (2 ^ j)) set) needed ≡ (not (in_set set j) && every (in_set set) (predecessors js j))
    candidate_test = equal _ _ there back
      where
        there : eqb (bit_and (bit_or needed (2 ^ j)) set) needed ≡ true → (not (in_set set j) && every (in_set set) (predecessors js j)) ≡ true
        there e =
            let same : (w : ℕ) → ((in_set needed w || eqb w j) && in_set set w) ≡ in_set needed w =
            λ w. sym (met w) ∙ ap (λ (x : ℕ). in_set x w) (eqb-true _ _ e) in
            let waits : in_set set j ≡ false = rw (not_itself, eq-eqb j j refl) at (same j) in
            and_both _ _ (ap not waits) (every_in (in_set set) (predecessors js j) (λ w i. rw (p.members w ∙ i) at (same w)))

        back : (not (in_set set j) && every (in_set set) (predecessors js j)) ≡ true → eqb (bit_and (bit_or needed (2 ^ j)) set) needed ≡ true
        back e = eq-eqb _ _ (same_set _ needed (λ w. met w ∙ go w (in_set needed w) refl (eqb w j) refl))
          where
            go : (w : ℕ) (a : Bool) → in_set needed w ≡ a → (b : Bool) → eqb w j ≡ b → ((a || b) && in_set set w) ≡ a
            go w true q b r = every_out (in_set set) (predecessors js j) (and_right (not (in_set set j)) _ e) w (sym (p.members w) ∙ q)
            go w false q true r = rw (eqb-true w j r) (not-true _ (and_left (not (in_set set j)) _ e))
            go w false q false r = refl

  -- where the set is that of a state's started jobs
  pub candidate_of : (m k : ℕ) (ws : List ℕ) (set : ℕ) → set ≡ set_of ws → j < k
      → (not (in_set set j) && every (in_set set) (predecessors js j)) ≡ candidate js (state_of m k ws) j
  unfolding candidate
  candidate_of m k ws set e h =
      rw (e, started_at m k ws j h)
      (ap (λ (b : Bool). not (in_set (set_of ws) j) && b)
      (every_same (in_set (set_of ws)) (started (state_of m k ws)) (predecessors js j)
      (λ w i. sym (started_at m k ws w (omega (arith, p.earlier w (p.members w ∙ i)))))))
