-- States of a level linked bucket by bucket: c states, state j of bucket β j; bucket b has a head η b, and state j a link λ j. Assumes nothing.
use Rattle.std.specs.Prelude.{ℕ, suc, ◌≤◌, ◌<◌, ◌≡◌, cond, leb, Option, Some, None}

-- r is the first state of bucket b from x on, or c
pub record FirstFrom (c : ℕ) (β : ℕ → ℕ) (b x r : ℕ) : Type 0 where
  pub not_before : x ≤ r
  pub inside : r ≤ c
  pub none_between : (j : ℕ) → x ≤ j → j < r → β j ≡ b → ⊥
  pub is_one : r < c → β r ≡ b

-- Where a link leads: to a later state, or, if it names none, nowhere.
abbrev pub leads : ℕ → ℕ → ℕ → ℕ
leads c j link = cond (leb link j) c link

-- The head of a bucket that has states is its first. The head of an empty one is any number, so that no level begins with clearing them: it is told from the
-- others because no state of the bucket stands there. The link of a state leads to the next one of its bucket; it never names
-- a state that is not there yet, to which it would lead later.
pub record Chains (c : ℕ) (β η link : ℕ → ℕ) : Type 0 where
  pub not_after : (j : ℕ) → j < c → η (β j) ≤ j
  pub in_place : (j : ℕ) → j < c → β (η (β j)) ≡ β j
  pub below : (j : ℕ) → j < c → link j < c
  pub onward : (j : ℕ) → j < c → FirstFrom c β (β j) (suc j) (leads c j (link j))

-- the last state of bucket b before j, or that there is none; and j is the first from it on, or c
abbrev pub LastBefore : ℕ → (ℕ → ℕ) → ℕ → ℕ → Option ℕ → Type 0
LastBefore c β b j (Some last) = (last < c) × (β last ≡ b) × FirstFrom c β b (suc last) j
LastBefore c β b j None = FirstFrom c β b 0 j
