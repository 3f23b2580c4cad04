-- The records of a list, placed into bytes one after the other. Assumes nothing.
use Prim.Native.Nat.{ℕ, suc, ◌+◌, ◌≤◌, ◌<◌}
use mathlib.Core.Path.{◌≡◌, sym, ap, ◌∙◌}
use mathlib.Core.List.{List}
use native.Mathlib.Omega.{arith}
use lib.ListN.{length, get_or, take}
use lib.Seq.{take_all}
use borrow.Rule.Slice.PartMut.{put_mid}
use Rattle.words.specs.internal.Placed.{placed}
use Rattle.words.proofs.Placing.{placed_nothing, put_placed, placed_append}
use Rattle.format.specs.Bytes.{records}
use Rattle.rows.proofs.RowsRead.{records_more, records_longer, records_within}

module _ {A : Type 0} (f : A → List ℕ) (xs : List A) (start : ℕ) where
  -- where the record after the first i begins
  abbrev pub place : ℕ → ℕ
  place i = start + length (records f (take i xs))

  module _ (d : A) (i : ℕ) (h : i < length xs) where
    -- A record ends where the next one begins.
    pub place_next : place (i + 1) ≡ place i + length (f (get_or xs i d))
    place_next = omega (arith, records_longer f xs i d h)

    -- It ends before all do.
    pub place_within : place i + length (f (get_or xs i d)) ≤ start + length (records f xs)
    place_within = omega (arith, place_next, records_within f xs (i + 1))

  module _ (file : List ℕ) where
    -- the bytes once the first i records are in their places
    abbrev pub put : ℕ → List ℕ
    put i = placed file start (records f (take i xs))

    -- With none of them the bytes are as they were.
    pub put_none : put 0 ≡ file
    unfolding records
    put_none = placed_nothing file start

    -- A record that a lent part came back as is one more.
    pub put_more : start ≤ length file → (d : A) (i : ℕ) → i < length xs → (ws : List ℕ) → ws ≡ f (get_or xs i d) → (at n : ℕ) → at ≡ place i
        → length ws ≡ n
        → put_mid at n (put i) ws ≡ put (i + 1)
    put_more g d i h ws e at n p l =
        let next : suc i ≡ i + 1 = omega arith in
        put_placed (put i) at n ws l
        ∙ ap (placed (put i) at) e
        ∙ placed_append file start at (records f (take i xs)) (f (get_or xs i d)) g (sym p)
        ∙ ap (placed file start) (sym (records_more f xs i d h))
        ∙ ap put next

    -- With as many as there are all of them are in their places.
    pub put_all : (i : ℕ) → length xs ≤ i → put i ≡ placed file start (records f xs)
    put_all i h = ap (λ (l : List A). placed file start (records f l)) (take_all i xs h)
