-- Keys of starts worked out by hand, in tables with one result each; and cores and jobs that are not the first. Assumes nothing.
use Rattle.std.specs.Prelude.{ℕ, zero, suc, ◌≤◌, ◌<◌, ◌≡◌, refl, Bool, true, false, List, [], ◌∷◌, map, ltb, get_or, Some, None}
use Rattle.std.proofs.Common.{arith}
use Rattle.model.specs.Jobs.{Job}
use Rattle.model.proofs.examples.Marked.{stroke, on_own_bells}
use Rattle.dispatch.specs.internal.Choice.{IsFirst, key_of, asleep_key, IsNext}

-- ---- keys

-- five jobs of priorities 9, 1, 2, 2 and the largest of all
abbrev five : List Job
five = on_own_bells (stroke 0 9 1 1 9 ∷ stroke 0 9 1 1 1 ∷ stroke 0 9 1 1 2 ∷ stroke 0 9 1 1 2 ∷ stroke 0 9 1 1 4294967295 ∷ [])

-- they wake at 2, 3, 2, 5 and 2
abbrev pub key : ℕ → ℕ → ℕ
key from j = key_of five (2 ∷ 3 ∷ 2 ∷ 5 ∷ 2 ∷ []) from j

-- no job starts before the core is free; one that wakes later starts then
pub keys : key 0 0 ∷ key 2 0 ∷ key 3 0 ∷ key 0 3 ∷ key 4 3 ∷ key 6 3 ∷ [] ≡ 8589934601 ∷ 8589934601 ∷ 12884901897 ∷ 21474836482 ∷ 21474836482 ∷ 25769803778 ∷ []
unfolding key_of
keys = refl

-- from when a core is free, two jobs, and whether the one is to start before the other
pub record Pair : Type 0 where
  pub from : ℕ
  pub one : ℕ
  pub other : ℕ
  pub due : Bool

abbrev from : ℕ → ℕ → ℕ → Bool → Pair
from t i j x = record { from = t; one = i; other = j; due = x }

abbrev pairs : List Pair
pairs =
    -- the earlier before the later, though its priority comes last
    from 0 0 1 true
    ∷ from 0 1 0 false
    ∷ from 0 4 1 true
    -- where both are awake once the core is free, the smaller priority, though it woke later
    ∷ from 3 0 1 false
    ∷ from 3 1 0 true
    ∷ from 4 1 4 true
    -- at one moment the smaller priority
    ∷ from 0 2 0 true
    ∷ from 0 0 2 false
    -- of one priority the earlier; where both are awake, neither
    ∷ from 4 2 3 true
    ∷ from 4 3 2 false
    ∷ from 5 2 3 false
    ∷ from 5 3 2 false
    ∷ []

pub as_ordered : map (λ (c : Pair). ltb (key c.from c.one) (key c.from c.other)) pairs ≡ map (λ (c : Pair). c.due) pairs
unfolding key_of
as_ordered = refl

-- The last moment is awake at any priority. The mark for job 0 is asleep at priority 0, whenever a core is free; and so is that of a started job.
abbrev pub awake_at : ℕ → ℕ → Bool
awake_at wake priority = ltb (key_of (on_own_bells (stroke 0 9 1 1 priority ∷ [])) (wake ∷ []) 5 0) asleep_key

pub awake : awake_at 2147483647 4294967295 ∷ awake_at 2147483648 0 ∷ awake_at 2147483649 0 ∷ awake_at 4294967295 0 ∷ [] ≡ true ∷ false ∷ false ∷ false ∷ []
unfolding key_of
awake = refl

-- ---- the first core that is free

abbrev three : List ℕ
three = 5 ∷ 4 ∷ 3 ∷ []

-- of three, core 2
pub not_core_zero : IsFirst three 3 0 → ⊥
not_core_zero h = omega (arith, h 2 (omega arith))

pub not_core_one : IsFirst three 3 1 → ⊥
not_core_one h = omega (arith, h 2 (omega arith))

-- of the first two, core 1
pub of_two : IsFirst three 2 1
of_two zero b = omega arith
of_two (suc zero) b = omega arith
of_two (suc (suc c)) b = absurd (omega arith)

pub of_two_not : IsFirst three 2 0 → ⊥
of_two_not h = omega (arith, h 1 (omega arith))

-- ---- the job that starts next

-- keys of 5, 3, 3 and 4
abbrev four : ℕ → ℕ
four j = get_or (5 ∷ 3 ∷ 3 ∷ 4 ∷ []) j 0

-- job 1 is next
lowest : (j : ℕ) → j < 4 → (3 ≤ four j) × (four j ≡ 3 → 1 ≤ j)
lowest zero b = (omega arith, λ e. absurd (omega (arith, e)))
lowest (suc j) b = (rest j (omega (arith, b)), λ e. omega arith)
  where
    rest : (j : ℕ) → j < 3 → 3 ≤ four (suc j)
    rest zero b = omega arith
    rest (suc zero) b = omega arith
    rest (suc (suc zero)) b = omega arith
    rest (suc (suc (suc j))) b = absurd (omega arith)

pub the_smaller : IsNext four 4 (Some 1)
the_smaller = record { inside = omega arith; awake = omega arith; least = lowest }

-- jobs 0 and 3 have larger keys, and job 2 has the same
pub not_the_first : IsNext four 4 (Some 0) → ⊥
not_the_first h = omega (arith, (h.least 1 (omega arith)).0)

pub not_the_last : IsNext four 4 (Some 3) → ⊥
not_the_last h = omega (arith, (h.least 1 (omega arith)).0)

pub not_the_larger : IsNext four 4 (Some 2) → ⊥
not_the_larger h = omega (arith, (h.least 1 (omega arith)).1 refl)

-- one starts, as they are awake; and there is no job 5
pub not_none : IsNext four 4 None → ⊥
not_none h = omega (arith, h 0 (omega arith))

pub not_beyond : IsNext four 4 (Some 5) → ⊥
not_beyond h = omega (arith, h.inside)

-- where none is awake none starts, be there one that is asleep
pub none_awake : IsNext (λ j. asleep_key) 1 None
none_awake = λ j b. omega arith

pub not_asleep : IsNext (λ j. asleep_key) 1 (Some 0) → ⊥
not_asleep h = omega (arith, h.awake)
