-- Laws of the folds over lists and over the numbers below a bound. Assumes nothing.
use Prim.Native.Nat.{ℕ, zero, suc, ◌+◌, ◌*◌, ◌≤◌, ◌<◌, min, max}
use mathlib.Core.Path.{◌≡◌, refl, sym, ap, ap₂, ◌∙◌, subst}
use mathlib.Core.Logic.{◌⊎◌, inl, inr, ⊎_elim}
use mathlib.Core.Bool.{Bool, true, false, ◌&&◌, cond, false≢true}
use mathlib.Core.List.{List, [], ◌∷◌, ◌++◌}
use native.Mathlib.Nat.{le_of_suc-le-suc, not-suc-le-zero}
use native.Mathlib.Numerals.{lt_of_le_of_ne, add-one}
use native.Mathlib.Decide.{ℕ_discrete}
use native.Mathlib.Omega.{arith}
use lib.Dec.{leb, eqb}
use lib.ListN.{get_or, length, set, replicate}
use lib.Seq.{get_or-set_same, get_or-set_other}
use borrow.Author.Tests.{leb-true, leb-false, eqb-true, eq-eqb}
use Rattle.model.specs.Folds.{ind, count, every, member, largest, all, Limit, infinite, finite, smaller, smallest, sum, largest_below}
use Rattle.model.proofs.Booleans.{cases, clash, and_left, and_right, and_both, or_left, or_right, or_cases, ind_le}

-- ---- elements

-- the first element is in the list
pub member_here : (x : ℕ) (l : List ℕ) → member x (x ∷ l) ≡ true
unfolding member
member_here x l = or_left (eqb x x) (member x l) (eq-eqb x x refl)

-- what is in the rest is in the list
pub member_there : (w x : ℕ) (l : List ℕ) → member w l ≡ true → member w (x ∷ l) ≡ true
unfolding member
member_there w x l e = or_right (eqb w x) (member w l) e

-- what is in the list is the first element or in the rest
pub member_cases : (w x : ℕ) (l : List ℕ) → member w (x ∷ l) ≡ true → (w ≡ x) ⊎ (member w l ≡ true)
unfolding member
member_cases w x l e = ⊎_elim (λ q. inl (eqb-true w x q)) (λ q. inr q) (or_cases (eqb w x) (member w l) e)

-- nothing is in the empty list
pub not_in_nil : (w : ℕ) → member w [] ≡ true → ⊥
unfolding member
not_in_nil w e = false≢true e

-- what is in two lists joined is in one of them
pub member_append : (w : ℕ) (l r : List ℕ) → member w (l ++ r) ≡ true → (member w l ≡ true) ⊎ (member w r ≡ true)
member_append w [] r e = inr e
member_append w (x ∷ l) r e = go (member_cases w x (l ++ r) e) (λ q. member_append w l r q)
  where
    go : (w ≡ x) ⊎ (member w (l ++ r) ≡ true) → (member w (l ++ r) ≡ true → (member w l ≡ true) ⊎ (member w r ≡ true)) → (member w (x ∷ l) ≡ true) ⊎ (member w r ≡ true)
    go (inl q) f = inl (rw q (member_here x l))
    go (inr q) f = ⊎_elim (λ h. inl (member_there w x l h)) (λ h. inr h) (f q)

-- what is in the second list is in both joined
pub append_member : (w : ℕ) (l r : List ℕ) → member w r ≡ true → member w (l ++ r) ≡ true
append_member w [] r e = e
append_member w (x ∷ l) r e = member_there w x (l ++ r) (append_member w l r e)

-- ---- every

-- what all pass, each passes
pub every_out : (p : ℕ → Bool) (l : List ℕ) → every p l ≡ true → (w : ℕ) → member w l ≡ true → p w ≡ true
unfolding every
every_out p [] e w i = absurd (not_in_nil w i)
every_out p (x ∷ xs) e w i =
    ⊎_elim (λ q. rw q (and_left (p x) (every p xs) e)) (λ q. every_out p xs (and_right (p x) (every p xs) e) w q) (member_cases w x xs i)

-- what each passes, all pass
pub every_in : (p : ℕ → Bool) (l : List ℕ) → ((w : ℕ) → member w l ≡ true → p w ≡ true) → every p l ≡ true
unfolding every
every_in p [] h = refl
every_in p (x ∷ xs) h = and_both (p x) (every p xs) (h x (member_here x xs)) (every_in p xs (λ w i. h w (member_there w x xs i)))

-- tests that agree on each element agree on all
pub every_same : (p q : ℕ → Bool) → ((w : ℕ) → p w ≡ q w) → (l : List ℕ) → every p l ≡ every q l
unfolding every
every_same p q h [] = refl
every_same p q h (x ∷ xs) = ap₂ (λ (a b : Bool). a && b) (h x) (every_same p q h xs)

-- ---- the largest

-- the largest is within a bound that each is within
pub largest_le : (p : ℕ → Bool) (f : ℕ → ℕ) (l : List ℕ) (b : ℕ) → ((w : ℕ) → member w l ≡ true → f w ≤ b) → largest p f l ≤ b
unfolding largest
largest_le p f [] b h = omega arith
largest_le p f (x ∷ xs) b h = omega (arith, go (p x), largest_le p f xs b (λ w i. h w (member_there w x xs i)))
  where
    go : (c : Bool) → cond c (f x) 0 ≤ b
    go true = h x (member_here x xs)
    go false = omega arith

-- each that passes is at most the largest
pub le_largest : (p : ℕ → Bool) (f : ℕ → ℕ) (l : List ℕ) (w : ℕ) → member w l ≡ true → p w ≡ true → f w ≤ largest p f l
unfolding largest
le_largest p f [] w i e = absurd (not_in_nil w i)
le_largest p f (x ∷ xs) w i e =
    ⊎_elim (λ q. omega (arith, ap f q, ap (λ (c : Bool). cond c (f x) 0) (ap p (sym q) ∙ e))) (λ q. omega (arith, le_largest p f xs w q e)) (member_cases w x xs i)

-- the largest is the same where tests and values are
pub largest_same : (p q : ℕ → Bool) (f g : ℕ → ℕ) → ((w : ℕ) → p w ≡ q w) → ((w : ℕ) → f w ≡ g w) → (l : List ℕ) → largest p f l ≡ largest q g l
unfolding largest
largest_same p q f g h k [] = refl
largest_same p q f g h k (x ∷ xs) = ap₂ max (ap₂ (λ (c : Bool) y. cond c y 0) (h x) (k x)) (largest_same p q f g h k xs)

-- the largest of two lists joined is the larger of theirs
pub largest_append : (p : ℕ → Bool) (f : ℕ → ℕ) (l r : List ℕ) → largest p f (l ++ r) ≡ max (largest p f l) (largest p f r)
unfolding largest
largest_append p f [] r = omega arith
largest_append p f (x ∷ xs) r = omega (arith, largest_append p f xs r)

-- each element by its number is at most the largest
pub at_largest : {A : Type 0} (f : A → ℕ) (l : List A) (k : ℕ) (d : A) → f d ≡ 0 → f (get_or l k d) ≤ largest all f l
unfolding largest
at_largest f [] k d e = omega (arith, e)
at_largest f (x ∷ xs) zero d e = omega arith
at_largest f (x ∷ xs) (suc k) d e = omega (arith, at_largest f xs k d e)

-- ---- the smallest

-- what holds below n, and at n, holds below n + 1
pub below_suc : (P : ℕ → Type 0) (n : ℕ) → ((j : ℕ) → j < n → P j) → P n → (j : ℕ) → j < suc n → P j
below_suc P n f x j h = go (ℕ_discrete j n)
  where
    go : Dec (j ≡ n) → P j
    go (yes e) = subst P (sym e) x
    go (no d) = f j (lt_of_le_of_ne (le_of_suc-le-suc h) d)

-- of the numbers below n: none passes; or x is f of one that passes, and at most f of each that does
abbrev pub Smallest : (ℕ → Bool) → (ℕ → ℕ) → ℕ → Limit → Type 0
Smallest p f n infinite = (j : ℕ) → j < n → p j ≡ true → ⊥
Smallest p f n (finite x) = ((j : ℕ) × (j < n) × (p j ≡ true) × (f j ≡ x)) × ((j : ℕ) → j < n → p j ≡ true → x ≤ f j)

-- the smallest is such
pub smallest_is : (p : ℕ → Bool) (f : ℕ → ℕ) (n : ℕ) → Smallest p f n (smallest p f n)
unfolding smallest
smallest_is p f zero = λ j h e. absurd (not-suc-le-zero h)
smallest_is p f (suc n) = go (p n) refl (smallest p f n) (smallest_is p f n)
  where
    both : (x : ℕ) → p n ≡ true → Smallest p f n (finite x) → (leb (f n) x ≡ true) ⊎ (leb (f n) x ≡ false) → Smallest p f (suc n) (finite (min (f n) x))
    both x q s (inl e) =
        let l = leb-true (f n) x e in
        ((n, omega arith, q, omega arith), below_suc (λ j. p j ≡ true → min (f n) x ≤ f j) n (λ j h r. omega (arith, s.1 j h r)) (λ r. omega arith))
    both x q s (inr e) =
        let l = leb-false (f n) x e in (
          (s.0.0, omega (arith, s.0.1), s.0.2, omega (arith, s.0.3)),
          below_suc (λ j. p j ≡ true → min (f n) x ≤ f j) n (λ j h r. omega (arith, s.1 j h r)) (λ r. omega arith),
        )

    go : (b : Bool) → p n ≡ b → (l : Limit) → Smallest p f n l → Smallest p f (suc n) (cond b (smaller (f n) l) l)
    go false q infinite s = below_suc (λ j. p j ≡ true → ⊥) n s (λ e. clash e q)
    go false q (finite x) s = ((s.0.0, omega (arith, s.0.1), s.0.2, s.0.3), below_suc (λ j. p j ≡ true → x ≤ f j) n s.1 (λ e. clash e q))
    go true q infinite s = ((n, omega arith, q, refl), below_suc (λ j. p j ≡ true → f n ≤ f j) n (λ j h e. absurd (s j h e)) (λ e. omega arith))
    go true q (finite x) s = both x q s (cases (leb (f n) x))

-- a limit of numbers up to b is at most b
abbrev pub LimitUpTo : ℕ → Limit → Type 0
LimitUpTo b infinite = Unit {0}
LimitUpTo b (finite x) = x ≤ b

-- the smallest is within a bound that each is within
pub smallest_le : (p : ℕ → Bool) (f : ℕ → ℕ) (n b : ℕ) → ((k : ℕ) → k < n → f k ≤ b) → LimitUpTo b (smallest p f n)
unfolding smallest
smallest_le p f zero b h = tt
smallest_le p f (suc n) b h = go (p n) (smallest_le p f n b (λ k l. h k (omega arith)))
  where
    low : (l : Limit) → LimitUpTo b l → LimitUpTo b (smaller (f n) l)
    low infinite q = h n (omega arith)
    low (finite y) q = omega (arith, q)

    go : (t : Bool) → LimitUpTo b (smallest p f n) → LimitUpTo b (cond t (smaller (f n) (smallest p f n)) (smallest p f n))
    go true q = low (smallest p f n) q
    go false q = q

-- ---- counts

module _ {A : Type 0} where
  -- a count once one element is replaced
  pub count_set : (p : A → Bool) (l : List A) (i : ℕ) (a d : A) → i < length l → count p (set l i a) + ind (p (get_or l i d)) ≡ count p l + ind (p a)
  unfolding count
  count_set p [] i a d h = absurd (not-suc-le-zero h)
  count_set p (x ∷ xs) zero a d h = omega arith
  count_set p (x ∷ xs) (suc i) a d h = omega (arith, count_set p xs i a d (le_of_suc-le-suc h))

  -- a weaker test counts at least as many
  pub count_mono : (p q : A → Bool) (l : List A) → ((a : A) → ind (p a) ≤ ind (q a)) → count p l ≤ count q l
  unfolding count
  count_mono p q [] h = omega arith
  count_mono p q (x ∷ xs) h = omega (arith, h x, count_mono p q xs h)

  -- a count is at most the length
  pub count_length : (p : A → Bool) (l : List A) → count p l ≤ length l
  unfolding count
  count_length p [] = omega arith
  count_length p (x ∷ xs) = omega (arith, ind_le (p x), count_length p xs)

  -- a count is below the length where one element does not pass
  pub count_below : (p : A → Bool) (l : List A) (i : ℕ) (d : A) → i < length l → p (get_or l i d) ≡ false → count p l < length l
  unfolding count
  count_below p [] i d h e = absurd (not-suc-le-zero h)
  count_below p (x ∷ xs) zero d h e = omega (arith, ap ind e, count_length p xs)
  count_below p (x ∷ xs) (suc i) d h e = omega (arith, ind_le (p x), count_below p xs i d (le_of_suc-le-suc h) e)

  -- copies of what does not pass count nothing
  pub count_none : (p : A → Bool) (n : ℕ) (a : A) → p a ≡ false → count p (replicate n a) ≡ 0
  unfolding count
  count_none p zero a e = refl
  count_none p (suc n) a e = omega (arith, ap ind e, count_none p n a e)

  -- where all pass the count is the length
  pub count_all : (p : A → Bool) (l : List A) (d : A) → ((k : ℕ) → k < length l → p (get_or l k d) ≡ true) → count p l ≡ length l
  unfolding count
  count_all p [] d h = refl
  count_all p (x ∷ xs) d h = omega (arith, ap ind (h 0 (omega arith)), count_all p xs d (λ k l. h (suc k) (omega arith)))

  -- where none passes the count is 0
  pub count_zero : (p : A → Bool) (l : List A) (d : A) → ((k : ℕ) → k < length l → p (get_or l k d) ≡ false) → count p l ≡ 0
  unfolding count
  count_zero p [] d h = refl
  count_zero p (x ∷ xs) d h = omega (arith, ap ind (h 0 (omega arith)), count_zero p xs d (λ k l. h (suc k) (omega arith)))

  -- ---- stores

  -- what holds at each place, and of what is stored, holds at each place after the store
  pub set_each : (P : ℕ → A → Type 0) (l : List A) (i : ℕ) (a d : A) → i < length l → ((k : ℕ) → P k (get_or l k d)) → P i a → (k : ℕ) → P k (get_or (set l i a) k d)
  set_each P l i a d h f x k = go (ℕ_discrete k i)
    where
      go : Dec (k ≡ i) → P k (get_or (set l i a) k d)
      go (yes e) = rw (e, get_or-set_same l i a d h) x
      go (no e) = rw (get_or-set_other l i k a d e) (f k)

  -- every element of copies is the one copied
  pub get_or_same : (n k : ℕ) (a : A) → get_or (replicate n a) k a ≡ a
  get_or_same zero k a = refl
  get_or_same (suc n) zero a = refl
  get_or_same (suc n) (suc k) a = get_or_same n k a

-- ---- numbers below a bound

module _ (p : ℕ → Bool) where
  -- all below n pass
  abbrev pub AllBelow : ℕ → Type 0
  AllBelow n = (j : ℕ) → j < n → p j ≡ true

  -- one below n does not pass, and all below that one do
  abbrev pub FirstFailing : ℕ → Type 0
  FirstFailing n = (i : ℕ) × (i < n) × (p i ≡ false) × AllBelow i

  pub first_failing : (n : ℕ) → AllBelow n ⊎ FirstFailing n
  first_failing zero = inl (λ j h. absurd (not-suc-le-zero h))
  first_failing (suc n) = go (cases (p n)) (first_failing n)
    where
      go : (p n ≡ true) ⊎ (p n ≡ false) → AllBelow n ⊎ FirstFailing n → AllBelow (suc n) ⊎ FirstFailing (suc n)
      go c (inr x) = inr (x.0, omega (arith, x.1), x.2, x.3)
      go (inl e) (inl g) = inl (below_suc (λ j. p j ≡ true) n g e)
      go (inr e) (inl g) = inr (n, omega arith, e, g)

-- ---- sums

-- The sum of n + 1 numbers is that of n and one more.
pub sum_next : (f : ℕ → ℕ) (n : ℕ) → sum f (n + 1) ≡ sum f n + f n
unfolding sum
sum_next f n = rw add-one

-- Sums of numbers that agree below n are the same.
pub sum_ext : (f g : ℕ → ℕ) (n : ℕ) → ((i : ℕ) → i < n → f i ≡ g i) → sum f n ≡ sum g n
unfolding sum
sum_ext f g zero h = refl
sum_ext f g (suc n) h =
    let p = sum_ext f g n (λ i b. h i (omega arith)) in
    let q = h n (omega arith) in
    λ i. p i + q i

-- a sum of smaller numbers is smaller
pub sum_le : (f g : ℕ → ℕ) (n : ℕ) → ((k : ℕ) → k < n → f k ≤ g k) → sum f n ≤ sum g n
unfolding sum
sum_le f g zero h = omega arith
sum_le f g (suc n) h = omega (arith, sum_le f g n (λ k l. h k (omega arith)), h n (omega arith))

-- strictly so where one of them is
pub sum_lt : (f g : ℕ → ℕ) (n : ℕ) → ((k : ℕ) → k < n → f k ≤ g k) → (i : ℕ) → i < n → f i < g i → sum f n < sum g n
unfolding sum
sum_lt f g zero h i l e = absurd (not-suc-le-zero l)
sum_lt f g (suc n) h i l e = go (ℕ_discrete i n) (λ d. sum_lt f g n (λ k l. h k (omega arith)) i d e)
  where
    go : Dec (i ≡ n) → (i < n → sum f n < sum g n) → sum f n + f n < sum g n + g n
    go (yes d) r = omega (arith, sum_le f g n (λ k l. h k (omega arith)), subst (λ j. f j < g j) d e)
    go (no d) r = omega (arith, r (lt_of_le_of_ne (le_of_suc-le-suc l) d), h n (omega arith))

-- each number is at most the sum
pub le_sum : (f : ℕ → ℕ) (n k : ℕ) → k < n → f k ≤ sum f n
unfolding sum
le_sum f zero k h = absurd (not-suc-le-zero h)
le_sum f (suc n) k h = below_suc (λ j. f j ≤ sum f n + f n) n (λ j l. omega (arith, le_sum f n j l)) (omega arith) k h

pub sum_zero : (f : ℕ → ℕ) (n : ℕ) → ((k : ℕ) → k < n → f k ≡ 0) → sum f n ≡ 0
unfolding sum
sum_zero f zero h = refl
sum_zero f (suc n) h = omega (arith, sum_zero f n (λ k l. h k (omega arith)), h n (omega arith))

-- the sum of n numbers up to c
pub sum_times : (f : ℕ → ℕ) (n c : ℕ) → ((k : ℕ) → k < n → f k ≤ c) → sum f n ≤ n * c
unfolding sum
sum_times f zero c h = omega arith
sum_times f (suc n) c h = omega (arith, sum_times f n c (λ k l. h k (omega arith)), h n (omega arith))

-- ---- the largest below a bound

pub le_largest_below : (f : ℕ → ℕ) (n k : ℕ) → k < n → f k ≤ largest_below f n
unfolding largest_below
le_largest_below f zero k h = absurd (not-suc-le-zero h)
le_largest_below f (suc n) k h = below_suc (λ j. f j ≤ max (largest_below f n) (f n)) n (λ j l. omega (arith, le_largest_below f n j l)) (omega arith) k h

pub largest_below_le : (f : ℕ → ℕ) (n b : ℕ) → ((k : ℕ) → k < n → f k ≤ b) → largest_below f n ≤ b
unfolding largest_below
largest_below_le f zero b h = omega arith
largest_below_le f (suc n) b h = omega (arith, largest_below_le f n b (λ k l. h k (omega arith)), h n (omega arith))
