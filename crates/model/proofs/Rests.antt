-- Laws of rests, for proofs of code too: which wait has a rest, which waits are left out of the higher-priority bound, and how a loop over the predecessors,
-- first the listed ones and then the nearest, takes the rest into account. Assumes nothing.
use Prim.Native.Nat.{ℕ, zero, suc, ◌+◌, ◌≤◌, ◌<◌, max}
use mathlib.Core.Path.{◌≡◌, refl, sym, ap, ap₂, ◌∙◌, subst}
use mathlib.Core.Logic.{◌⊎◌, inl, inr, ⊎_elim}
use mathlib.Core.Bool.{Bool, true, false, not, ◌&&◌, cond, or-false, and-true}
use mathlib.Core.List.{List, [], ◌∷◌, ◌++◌}
use mathlib.Core.Option.{Option, none, some}
use native.Mathlib.Numerals.{lt_of_le_of_ne}
use native.Mathlib.Omega.{arith}
use lib.Dec.{leb, eqb}
use lib.ListN.{get_or, length, length-append}
use lib.Seq.{get_or-append_seam}
use borrow.Author.Tests.{leb-true, leb-false, le-leb, lt-leb, eqb-true, eq-eqb, ne_eqb}
use Rattle.model.specs.Folds.{member, largest, all}
use Rattle.model.specs.Jobs.{Job, job, nearest, as_list, predecessors, rest_of}
use Rattle.model.specs.States.{Range, empty, range, earliest, latest, State, finish_of}
use Rattle.model.specs.Edges.{rested_with}
use Rattle.model.specs.internal.Bounds.{RestsUpTo, Between, Bounded}
use Rattle.model.proofs.Booleans.{cases}
use Rattle.model.proofs.Folds.{member_here, member_cases, not_in_nil, largest_same, largest_append}
use Rattle.model.proofs.Predecessors.{IsNearest, is_nearest}

-- ---- the rest of a wait

-- it is at most the job's own
pub rest_at_most : (js : List Job) (i w : ℕ) → rest_of js i w ≤ (job js i).rest
unfolding rest_of
rest_at_most js i w = go (member w (as_list (nearest js (job js i).bell i)))
  where
    go : (c : Bool) → cond c (job js i).rest 0 ≤ (job js i).rest
    go true = omega arith
    go false = omega arith

-- where an earlier job of the bell is the nearest, it alone has to rest
pub rest_nearest : (js : List Job) (i p : ℕ) → nearest js (job js i).bell i ≡ some p → (w : ℕ) → rest_of js i w ≡ cond (eqb w p) (job js i).rest 0
unfolding rest_of member
rest_nearest js i p e w = rw e (ap (λ (c : Bool). cond c (job js i).rest 0) (or-false (eqb w p)))

-- where there is none, none has to
pub rest_alone : (js : List Job) (i : ℕ) → nearest js (job js i).bell i ≡ none → (w : ℕ) → rest_of js i w ≡ 0
unfolding rest_of member
rest_alone js i e w = rw e refl

-- a wait has no rest, or it is for the nearest
pub rest_cases : (js : List Job) (i w : ℕ) → (rest_of js i w ≡ 0) ⊎ (nearest js (job js i).bell i ≡ some w)
rest_cases js i w = go (nearest js (job js i).bell i) refl
  where
    go : (o : Option ℕ) → nearest js (job js i).bell i ≡ o → (rest_of js i w ≡ 0) ⊎ (nearest js (job js i).bell i ≡ some w)
    go none e = inl (rest_alone js i e w)
    go (some p) e =
        ⊎_elim (λ c. inr (e ∙ ap some (sym (eqb-true w p c)))) (λ c. inl (rest_nearest js i p e w ∙ ap (λ (b : Bool). cond b (job js i).rest 0) c)) (cases (eqb w p))

-- a job is the nearest earlier one of its bell for no two
one_nearest : (js : List Job) (i j w : ℕ) → (i ≡ j → ⊥) → nearest js (job js i).bell i ≡ some w → nearest js (job js j).bell j ≡ some w → ⊥
one_nearest js i j w d x y = go (near i x) (near j y)
  where
    near : (k : ℕ) → nearest js (job js k).bell k ≡ some w → IsNearest js (job js k).bell k (some w)
    near k e = subst (IsNearest js (job js k).bell k) e (is_nearest js (job js k).bell k)

    go : IsNearest js (job js i).bell i (some w) → IsNearest js (job js j).bell j (some w) → ⊥
    go p q =
        ⊎_elim (λ c. omega (arith, p.0, q.2 i (lt_of_le_of_ne (leb-true i j c) d) (sym p.1 ∙ q.1)))
        (λ c. omega (arith, q.0, p.2 j (leb-false i j c) (sym q.1 ∙ p.1))) (cases (leb i j))

-- so it has to rest for one other at most
pub one_rests : (js : List Job) (i j w : ℕ) → (i ≡ j → ⊥) → (rest_of js i w ≡ 0) ⊎ (rest_of js j w ≡ 0)
one_rests js i j w d =
    ⊎_elim (λ e. inl e) (λ x. ⊎_elim (λ e. inr e) (λ y. absurd (one_nearest js i j w d x y)) (rest_cases js j w)) (rest_cases js i w)

-- of two jobs: a predecessor of both is left out of the higher-priority bound exactly if it has no rest for the one that goes before
pub beside_no_rest : (js : List Job) (i j w : ℕ) → (i ≡ j → ⊥) → rested_with js i j w ≡ (member w (predecessors js i) && eqb (rest_of js j w) 0)
unfolding rested_with
beside_no_rest js i j w d =
    ap (λ (c : Bool). member w (predecessors js i) && c)
    (⊎_elim (λ e. rw e (at_most_none (rest_of js j w))) (λ e. rw e (le-leb 0 (rest_of js i w) (omega arith) ∙ sym (eq-eqb 0 0 refl))) (one_rests js i j w d))
  where
    at_most_none : (x : ℕ) → leb x 0 ≡ eqb x 0
    at_most_none zero = le-leb 0 0 (omega arith) ∙ sym (eq-eqb 0 0 refl)
    at_most_none (suc x) = lt-leb (suc x) 0 (omega arith) ∙ sym (ne_eqb (suc x) 0 (λ e. omega arith))

-- ---- first the listed ones, without rests; then the nearest, with the bell's

-- Where a predecessor is listed and the nearest too, it is enough to count it with its rest once. `out` tells what is left out unless it has a rest.
module _ (out : ℕ → Bool) (f : ℕ → ℕ) (rest : ℕ) where
  abbrev rest_in : List ℕ → ℕ → ℕ
  rest_in o w = cond (member w o) rest 0

  abbrev counts : List ℕ → ℕ → Bool
  counts o w = not (out w && eqb (rest_in o w) 0)

  abbrev value : List ℕ → ℕ → ℕ
  value o w = f w + rest_in o w

  abbrev nearest_value : ℕ → ℕ
  nearest_value p = cond (not (out p && eqb rest 0)) (f p + rest) 0

  one_listed : (p x : ℕ) → max (cond (counts (p ∷ []) x) (value (p ∷ []) x) 0) (nearest_value p) ≡ max (cond (not (out x)) (f x) 0) (nearest_value p)
  one_listed p x =
      ⊎_elim (λ e. rw e (⊎_elim (λ d. rw d (same (out p) (eqb rest 0) (f p))) (λ d. absurd (not_in_nil x d)) (member_cases x p [] e)))
      (λ e. rw e (other (out x) (f x) (nearest_value p))) (cases (member x (p ∷ [])))
    where
      same : (b c : Bool) (a : ℕ) → max (cond (not (b && c)) (a + rest) 0) (cond (not (b && c)) (a + rest) 0) ≡ max (cond (not b) a 0) (cond (not (b && c)) (a + rest) 0)
      same true true a = refl
      same true false a = omega arith
      same false c a = omega arith

      other : (b : Bool) (a y : ℕ) → max (cond (not (b && true)) (a + 0) 0) y ≡ max (cond (not b) a 0) y
      other true a y = refl
      other false a y = omega arith

  all_listed : (p : ℕ) (l : List ℕ) → max (largest (counts (p ∷ [])) (value (p ∷ [])) l) (nearest_value p) ≡ max (largest (λ w. not (out w)) f l) (nearest_value p)
  unfolding largest
  all_listed p [] = refl
  all_listed p (x ∷ xs) = spread _ _ (nearest_value p) ∙ ap₂ max (one_listed p x) (all_listed p xs) ∙ sym (spread _ _ (nearest_value p))
    where
      spread : (a b y : ℕ) → max (max a b) y ≡ max (max a y) (max b y)
      spread a b y = omega arith

  split : (l : List ℕ) (o : Option ℕ)
      → largest (counts (as_list o)) (value (as_list o)) (l ++ as_list o)
      ≡ max (largest (λ w. not (out w)) f l) (largest (λ w. not (out w && eqb rest 0)) (λ w. f w + rest) (as_list o))
  unfolding largest member
  split l none =
      largest_append (counts []) (value []) l []
      ∙ ap (λ x. max x 0) (largest_same (counts []) (λ w. not (out w)) (value []) f (λ w. ap not (and-true (out w))) (λ w. omega arith) l)
  split l (some p) =
      largest_append (counts (p ∷ [])) (value (p ∷ [])) l (p ∷ [])
      ∙ ap (λ x. max (largest (counts (p ∷ [])) (value (p ∷ [])) l) x) (or_zero_holds _ ∙ at_nearest)
      ∙ all_listed p l
      ∙ ap (λ x. max (largest (λ w. not (out w)) f l) x) (sym (or_zero_holds (nearest_value p)))
    where
      or_zero_holds : (x : ℕ) → max x 0 ≡ x
      or_zero_holds x = omega arith

      at_nearest : cond (counts (p ∷ []) p) (value (p ∷ []) p) 0 ≡ nearest_value p
      at_nearest = rw (member_here p []) refl

-- for when a job is possibly ready (f: earliest finish times), and for when it is certainly ready (f: latest ones)
pub rested_split : (js : List Job) (i : ℕ) (f : ℕ → ℕ)
    → largest all (λ w. f w + rest_of js i w) (predecessors js i)
    ≡ max (largest all f (job js i).listed) (largest all (λ w. f w + (job js i).rest) (as_list (nearest js (job js i).bell i)))
unfolding rest_of predecessors
rested_split js i f = split (λ w. false) f (job js i).rest (job js i).listed (nearest js (job js i).bell i)

-- for when job j is certainly ready beside another one (f: latest finish times): a predecessor of both is left out, but the nearest of j only if its bell has
-- no rest
pub beside_split : (js : List Job) (i j : ℕ) → (i ≡ j → ⊥) → (f : ℕ → ℕ)
    → largest (λ w. not (rested_with js i j w)) (λ w. f w + rest_of js j w) (predecessors js j)
    ≡ max (largest (λ w. not (member w (predecessors js i))) f (job js j).listed)
    (largest (λ w. not (member w (predecessors js i) && eqb (job js j).rest 0)) (λ w. f w + (job js j).rest) (as_list (nearest js (job js j).bell j)))
unfolding rest_of predecessors
beside_split js i j d f =
    largest_same (λ w. not (rested_with js i j w)) (λ w. not (member w (predecessors js i) && eqb (rest_of js j w) 0)) (λ w. f w + rest_of js j w) (λ w. f w + rest_of js j w)
    (λ w. ap not (beside_no_rest js i j w d)) (λ w. refl) (predecessors js j)
    ∙ split (λ w. member w (predecessors js i)) f (job js j).rest (job js j).listed (nearest js (job js j).bell j)

-- ---- or first all as without rests, and then the nearest once more if it rests

module _ (out : ℕ → Bool) (f : ℕ → ℕ) (rest : ℕ) where
  then_nearest : (l : List ℕ) (o : Option ℕ)
      → max (largest (λ w. not (out w)) f l) (largest (λ w. not (out w && eqb rest 0)) (λ w. f w + rest) (as_list o))
      ≡ max (largest (λ w. not (out w)) f (l ++ as_list o)) (cond (eqb rest 0) 0 (largest all (λ w. f w + rest) (as_list o)))
  unfolding largest
  then_nearest l none = rw (largest_append (λ w. not (out w)) f l []) (go (largest (λ w. not (out w)) f l) (eqb rest 0))
    where
      go : (x : ℕ) (c : Bool) → max x 0 ≡ max (max x 0) (cond c 0 0)
      go x true = omega arith
      go x false = omega arith
  then_nearest l (some p) =
      rw (largest_append (λ w. not (out w)) f l (p ∷ [])) (go (largest (λ w. not (out w)) f l) (out p) (eqb rest 0) (λ e. eqb-true rest 0 e))
    where
      go : (x : ℕ) (b c : Bool) → (c ≡ true → rest ≡ 0)
          → max x (max (cond (not (b && c)) (f p + rest) 0) 0) ≡ max (max x (max (cond (not b) (f p) 0) 0)) (cond c 0 (max (f p + rest) 0))
      go x true true e = omega arith
      go x false true e = omega (arith, e refl)
      go x true false e = omega arith
      go x false false e = omega arith

-- what the nearest adds to f with the rest; nothing where there is no rest, or no earlier job of the bell
abbrev pub nearest_rested : List Job → ℕ → (ℕ → ℕ) → ℕ
nearest_rested js i f = cond (eqb (job js i).rest 0) 0 (largest all (λ w. f w + (job js i).rest) (as_list (nearest js (job js i).bell i)))

pub rested_then_nearest : (js : List Job) (i : ℕ) (f : ℕ → ℕ)
    → largest all (λ w. f w + rest_of js i w) (predecessors js i) ≡ max (largest all f (predecessors js i)) (nearest_rested js i f)
unfolding predecessors
rested_then_nearest js i f = rested_split js i f ∙ then_nearest (λ w. false) f (job js i).rest (job js i).listed (nearest js (job js i).bell i)

pub beside_then_nearest : (js : List Job) (i j : ℕ) → (i ≡ j → ⊥) → (f : ℕ → ℕ)
    → largest (λ w. not (rested_with js i j w)) (λ w. f w + rest_of js j w) (predecessors js j)
    ≡ max (largest (λ w. not (member w (predecessors js i))) f (predecessors js j)) (nearest_rested js j f)
unfolding predecessors
beside_then_nearest js i j d f =
    beside_split js i j d f ∙ then_nearest (λ w. member w (predecessors js i)) f (job js j).rest (job js j).listed (nearest js (job js j).bell j)

-- ---- by place in the list of predecessors

module _ (js : List Job) (i : ℕ) where
  -- a predecessor past the listed ones is the nearest
  pub last_nearest : length (job js i).listed < length (predecessors js i)
      → nearest js (job js i).bell i ≡ some (get_or (predecessors js i) (length (job js i).listed) 0)
  unfolding predecessors
  last_nearest h = go (nearest js (job js i).bell i) h
    where
      go : (o : Option ℕ) → length (job js i).listed < length ((job js i).listed ++ as_list o)
          → o ≡ some (get_or ((job js i).listed ++ as_list o) (length (job js i).listed) 0)
      go none l = absurd (omega (arith, length-append (job js i).listed []))
      go (some p) l = ap some (sym (get_or-append_seam (job js i).listed p [] 0))

  -- and where none is past them, there is no nearest
  pub none_nearest : length (predecessors js i) ≤ length (job js i).listed → nearest js (job js i).bell i ≡ none
  unfolding predecessors
  none_nearest h = go (nearest js (job js i).bell i) h
    where
      go : (o : Option ℕ) → length ((job js i).listed ++ as_list o) ≤ length (job js i).listed → o ≡ none
      go none l = refl
      go (some p) l = absurd (omega (arith, length-append (job js i).listed (p ∷ [])))

-- ---- bounds

between_latest : (a d : ℕ) (p : Range) → Between a d p → latest p ≤ d
between_latest a d empty h = omega arith
between_latest a d (range e f) h = h.2

between_earliest : (a d : ℕ) (p : Range) → Between a d p → earliest p ≤ d
between_earliest a d empty h = omega arith
between_earliest a d (range e f) h = omega arith

module _ (js : List Job) (d r : ℕ) (rests : RestsUpTo r js) (σ : State) (g : Bounded js d σ) (i : ℕ) (inside : i < length js) (w : ℕ) where
  -- the earliest finish time of a predecessor and its rest are at most the bound and the longest rest
  pub earliest_rested_up_to : earliest (finish_of σ w) + rest_of js i w ≤ d + r
  earliest_rested_up_to = omega (arith, between_earliest (job js w).earliest_release d (finish_of σ w) (g.finishes w), rest_at_most js i w, rests i inside)

  -- so are the latest and its rest
  pub latest_rested_up_to : latest (finish_of σ w) + rest_of js i w ≤ d + r
  latest_rested_up_to = omega (arith, between_latest (job js w).earliest_release d (finish_of σ w) (g.finishes w), rest_at_most js i w, rests i inside)
