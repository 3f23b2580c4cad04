-- An element carried through a sorted list in place: what is larger goes on, what is smaller stays. Assumes nothing.
use Prim.Native.Nat.{ℕ, ◌+◌, ◌<◌, ◌≤◌, min, max}
use mathlib.Core.Path.{◌≡◌, refl, sym, ap, ◌∙◌}
use mathlib.Core.Bool.{Bool, true, false, cond}
use mathlib.Core.List.{List, [], ◌∷◌, ◌++◌, map, tail, append_assoc}
use native.Mathlib.Numerals.{add-one}
use native.Mathlib.Omega.{arith}
use lib.Dec.{leb}
use lib.ListN.{length, take, drop, get_or, set, drop_of_length-le}
use lib.Seq.{drop-cons, take-suc-set, drop-set-lt, set_split}
use borrow.Author.Tests.{leb-true, leb-false}
use Rattle.model.specs.Edges.{insert, sort, availability}
use Rattle.model.proofs.Sorted.{tail_sorted, raised_sorted, sort_same}
use Rattle.model.specs.internal.Sorted.{Least, Sorted, none, more}

-- x is carried through the list: the smaller stays, the larger goes on
unfoldable pub carried : ℕ → List ℕ → List ℕ
carried x [] = x ∷ []
carried x (y ∷ ys) = min x y ∷ carried (max x y) ys

-- in a sorted list, it is inserted

carried_first : (x : ℕ) (l : List ℕ) → Least x l → Sorted l → carried x l ≡ x ∷ l
unfolding carried
carried_first x [] h none = refl
carried_first x (y ∷ ys) h (more g s) =
    let p : min x y ≡ x = omega arith in
    let q : max x y ≡ y = omega arith in
    rw (p, q) (ap (λ (z : List ℕ). x ∷ z) (carried_first y ys g s))

carried_inserted : (x : ℕ) (l : List ℕ) → Sorted l → carried x l ≡ insert x l
unfolding carried insert
carried_inserted x [] none = refl
carried_inserted x (y ∷ ys) (more h s) = go (leb x y) refl (carried_inserted x ys s)
  where
    go : (b : Bool) → leb x y ≡ b → carried x ys ≡ insert x ys → min x y ∷ carried (max x y) ys ≡ cond b (x ∷ y ∷ ys) (y ∷ insert x ys)
    go true e r =
        let b : x ≤ y = leb-true x y e in
        let p : min x y ≡ x = omega (arith, b) in
        let q : max x y ≡ y = omega (arith, b) in
        rw (p, q) (ap (λ (z : List ℕ). x ∷ z) (carried_first y ys h s))
    go false e r =
        let b : y < x = leb-false x y e in
        let p : min x y ≡ y = omega (arith, b) in
        let q : max x y ≡ x = omega (arith, b) in
        rw (p, q) (ap (λ (z : List ℕ). y ∷ z) r)

tail_drop : (l : List ℕ) → tail l ≡ drop 1 l
tail_drop [] = refl
tail_drop (x ∷ xs) = refl

-- the finish time carried through the raised availabilities gives the new ones
pub carried_availability : (s f : ℕ) (l : List ℕ) → Sorted l → carried f (map (max s) (drop 1 l)) ≡ availability s f l
unfolding availability sort
carried_availability s f l h =
    let raised : Sorted (map (max s) (tail l)) = raised_sorted s (tail l) (tail_sorted l h) in
    ap (λ (z : List ℕ). carried f (map (max s) z)) (sym (tail_drop l)) ∙ carried_inserted f (map (max s) (tail l)) raised
    ∙ ap (insert f) (sym (sort_same (map (max s) (tail l)) raised))

-- ---- a turn, and the end, of the loop that does so: words before j are done, x is carried

module _ (l : List ℕ) (j s x : ℕ) where
  next_cons : j + 1 < length l → drop (j + 1) l ≡ get_or l (j + 1) 0 ∷ drop (j + 1 + 1) l
  next_cons h = drop-cons l (j + 1) 0 h ∙ ap (λ (n : ℕ). get_or l (j + 1) 0 ∷ drop n l) (sym (add-one (j + 1)))

  -- one word more is done
  pub carried_on : j + 1 < length l → (y v w : ℕ) → y ≡ max s (get_or l (j + 1) 0) → v ≡ min x y → w ≡ max x y
      → take j l ++ carried x (map (max s) (drop (j + 1) l)) ≡ take (j + 1) (set l j v) ++ carried w (map (max s) (drop (j + 1 + 1) (set l j v)))
  unfolding carried
  carried_on h y v w e p q =
      let t : take (j + 1) (set l j v) ≡ take j l ++ (v ∷ []) = ap (λ (n : ℕ). take n (set l j v)) (add-one j) ∙ take-suc-set l j v (omega arith) in
      let d : drop (j + 1 + 1) (set l j v) ≡ drop (j + 1 + 1) l = drop-set-lt (j + 1 + 1) l j v (omega arith) in
      rw (t, d, next_cons h, ← e, ← p, ← q) (sym (append_assoc (take j l) (v ∷ []) (carried w (map (max s) (drop (j + 1 + 1) l)))))

  -- the last word takes what is carried
  pub carried_last : j < length l → length l ≤ j + 1 → set l j x ≡ take j l ++ carried x (map (max s) (drop (j + 1) l))
  unfolding carried
  carried_last h b = set_split l j x h ∙ ap (λ (n : ℕ). take j l ++ (x ∷ drop n l)) (sym (add-one j)) ∙ rw (drop_of_length-le l {i = j + 1} b)
