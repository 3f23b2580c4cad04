-- Whether listed jobs rise, with those before a place done. Assumes nothing.
use Prim.Native.Nat.{ℕ, suc, ◌+◌, ◌≤◌, ◌<◌}
use mathlib.Core.Path.{◌≡◌, ap, ◌∙◌}
use mathlib.Core.Bool.{true, false}
use mathlib.Core.List.{List, ◌∷◌}
use native.Mathlib.Omega.{arith}
use lib.ListN.{length, get_or, drop, drop_of_length-le}
use lib.Seq.{drop-cons}
use borrow.Author.Tests.{le-leb, lt-leb, lt-ltb, le-ltb}
use Rattle.format.specs.Rules.{rises}

module _ (jobs : List ℕ) (i : ℕ) (h : i < length jobs) (own low : ℕ) where
  rest : drop i jobs ≡ get_or jobs i 0 ∷ drop (i + 1) jobs
  rest = let next : suc i ≡ i + 1 = omega arith in drop-cons jobs i 0 h ∙ ap (λ (k : ℕ). get_or jobs i 0 ∷ drop k jobs) next

  -- A job below the least that may follow ends it.
  pub low_one : get_or jobs i 0 < low → rises own low (drop i jobs) ≡ false
  unfolding rises
  low_one e = rw rest (simp (lt-leb _ _ e))

  module _ (e : low ≤ get_or jobs i 0) where
    -- A job that is not below the note's own ends it.
    pub high_one : own ≤ get_or jobs i 0 → rises own low (drop i jobs) ≡ false
    unfolding rises
    high_one f = rw rest (simp (le-leb _ _ e, le-ltb _ _ f))

    -- After any other job the next must be greater.
    pub next_one : get_or jobs i 0 < own → rises own low (drop i jobs) ≡ rises own (get_or jobs i 0 + 1) (drop (i + 1) jobs)
    unfolding rises
    next_one f = rw rest (simp (le-leb _ _ e, lt-ltb _ _ f))

-- After the last job they have risen.
pub last_one : (jobs : List ℕ) (i own low : ℕ) → length jobs ≤ i → rises own low (drop i jobs) ≡ true
unfolding rises
last_one jobs i own low h = rw (drop_of_length-le jobs {i = i} h)
