-- Words read as histories, worked out by hand, each kind in one table with one result; and words that are not zero. Assumes nothing.
use Rattle.std.specs.Prelude.{ℕ, zero, suc, ◌≡◌, refl, List, [], ◌∷◌, map}
use Rattle.std.proofs.Common.{arith}
use Rattle.model.proofs.History.{Entry, unstarted, ran}
use Rattle.dispatch.specs.internal.Turns.{entry_in, history_of, unstarted_in, ZeroFrom}

-- the finish time tells whether a job has started: one may start at 0, and the start of one that has not is not asked
pub entries : entry_in 0 0 ∷ entry_in 4 0 ∷ entry_in 0 3 ∷ entry_in 4 6 ∷ [] ≡ unstarted ∷ unstarted ∷ ran 0 3 ∷ ran 4 6 ∷ []
entries = refl

-- jobs 0 and 2 have run from 4 until 6 and from 0 until 4, job 3 from 9 until 11; job 1 has not started
abbrev pub first : ℕ → List Entry
first k = history_of (4 ∷ 0 ∷ 0 ∷ 9 ∷ []) (6 ∷ 0 ∷ 4 ∷ 11 ∷ []) k

-- none, all but the last, and one more than there are words
pub histories : first 0 ∷ first 3 ∷ first 5 ∷ [] ≡ [] ∷ (ran 4 6 ∷ unstarted ∷ ran 0 4 ∷ []) ∷ (ran 4 6 ∷ unstarted ∷ ran 0 4 ∷ ran 9 11 ∷ unstarted ∷ []) ∷ []
unfolding history_of
histories = refl

-- those that are left of the first 0, 1, .., 5
pub left : map (unstarted_in (6 ∷ 0 ∷ 4 ∷ 0 ∷ 0 ∷ [])) (0 ∷ 1 ∷ 2 ∷ 3 ∷ 4 ∷ 5 ∷ []) ≡ 0 ∷ 0 ∷ 1 ∷ 1 ∷ 2 ∷ 3 ∷ []
unfolding unstarted_in
left = refl

-- the word at the place itself is zero, and so is each after it
pub not_at_the_place : ZeroFrom 1 (4 ∷ 6 ∷ 0 ∷ []) → ⊥
not_at_the_place z = omega (arith, z 1 (omega arith))

pub not_after_it : ZeroFrom 1 (4 ∷ 0 ∷ 6 ∷ []) → ⊥
not_after_it z = omega (arith, z 2 (omega arith))

-- those before it may be any
pub before_it : ZeroFrom 1 (4 ∷ 0 ∷ [])
before_it zero b = absurd (omega arith)
before_it (suc zero) b = refl
before_it (suc (suc j)) b = refl
