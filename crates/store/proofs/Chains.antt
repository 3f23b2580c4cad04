-- The chains of a level: what they say of the states, and how they are kept while states are stored. Assumes nothing.
use Prim.Native.Nat.{ℕ, suc, ◌+◌, ◌≤◌, ◌<◌}
use mathlib.Core.Path.{◌≡◌, sym, ap, ◌∙◌, subst}
use mathlib.Core.Bool.{Bool, true, false, cond}
use native.Mathlib.Nat.{lt_of_not-le}
use native.Mathlib.Numerals.{lt_of_le_of_ne}
use native.Mathlib.Decide.{ℕ_discrete}
use native.Mathlib.Omega.{arith}
use lib.Dec.{leb}
use borrow.Author.Count.{below_more}
use borrow.Author.Tests.{le-leb, lt-leb}
use Rattle.std.specs.Prelude.{Some}
use Rattle.store.specs.internal.Chains.{FirstFrom, leads, Chains, LastBefore}

-- a level without states has any chains
pub no_states : (β η link : ℕ → ℕ) → Chains 0 β η link
no_states β η link = record { not_after = λ j h. absurd (omega (arith, h)); in_place = λ j h. absurd (omega (arith, h)); below = λ j h. absurd (omega (arith, h)); onward = λ j h. absurd (omega (arith, h)) }

-- the first state of a bucket depends on the buckets of the states alone
first_same : {c : ℕ} {β β' : ℕ → ℕ} {b x r : ℕ} → ((j : ℕ) → j < c → β' j ≡ β j) → FirstFrom c β b x r → FirstFrom c β' b x r
first_same {c} {β} {β'} {b} {x} {r} same first =
    record {
      not_before = first.not_before;
      inside = first.inside;
      none_between = λ j g l e. first.none_between j g l (sym (same j (omega (arith, l, first.inside))) ∙ e);
      is_one = λ h. same r h ∙ first.is_one h;
    }

module _ {c : ℕ} {β η link : ℕ → ℕ} (chains : Chains c β η link) where
  -- ---- the first state of a bucket

  module _ (b : ℕ) where
    head_of_holds : (j : ℕ) → j < c → β j ≡ b → (η b ≤ j) × (β (η b) ≡ b)
    head_of_holds j h e = subst (λ (z : ℕ). (η z ≤ j) × (β (η z) ≡ z)) e (chains.not_after j h, chains.in_place j h)

    none_there : ((j : ℕ) → j < c → β j ≡ b → ⊥) → FirstFrom c β b 0 c
    none_there none =
        record { not_before = omega arith; inside = omega arith; none_between = λ j g h e. none j h e; is_one = λ h. absurd (omega (arith, h)) }

    -- a head past the states says that its bucket is empty
    pub head_past : c ≤ η b → FirstFrom c β b 0 c
    head_past l = none_there (λ j h e. omega (arith, (head_of_holds j h e).0, h, l))

    -- and so does a head where a state of another bucket stands
    pub head_elsewhere : (β (η b) ≡ b → ⊥) → FirstFrom c β b 0 c
    head_elsewhere d = none_there (λ j h e. d (head_of_holds j h e).1)

    -- else the head is the first state of the bucket
    pub head_first : η b < c → β (η b) ≡ b → FirstFrom c β b 0 (η b)
    head_first l q =
        record {
          not_before = omega arith;
          inside = omega (arith, l);
          none_between = λ j g h e. omega (arith, (head_of_holds j (omega (arith, h, l)) e).0, h);
          is_one = λ h. q;
        }

  -- ---- along a chain

  onward_in : {b : ℕ} (j : ℕ) → j < c → β j ≡ b → FirstFrom c β b (suc j) (leads c j (link j))
  onward_in j h e = subst (λ (z : ℕ). FirstFrom c β z (suc j) (leads c j (link j))) e (chains.onward j h)

  -- before the state that the link of one leads to, that one is the last
  pub next_last : {b : ℕ} (j : ℕ) → j < c → β j ≡ b → LastBefore c β b (leads c j (link j)) (Some j)
  next_last j h e = (h, e, onward_in j h e)

  -- ---- the chains are kept

  -- they depend on the buckets of the states, the heads of these, and the links of the states
  pub chains_same : (β' η' link' : ℕ → ℕ) → ((j : ℕ) → j < c → β' j ≡ β j) → ((j : ℕ) → j < c → η' (β j) ≡ η (β j)) → ((j : ℕ) → j < c → link' j ≡ link j)
      → Chains c β' η' link'
  chains_same β' η' link' same heads links =
      record {
        not_after = λ j h. (each j h).0;
        in_place = λ j h. (each j h).1;
        below = λ j h. omega (arith, links j h, chains.below j h);
        onward = λ j h. (each j h).2;
      }
    where
      each : (j : ℕ) → j < c
          → (η' (β' j) ≤ j) × (β' (η' (β' j)) ≡ β' j) × FirstFrom c β' (β' j) (suc j) (leads c j (link' j))
      each j h =
          subst (λ (z : ℕ). (η' z ≤ j) × (β' (η' z) ≡ z) × FirstFrom c β' z (suc j) (leads c j (link' j))) (sym (same j h)) (
            omega (arith, heads j h, chains.not_after j h),
            ap β' (heads j h) ∙ same (η (β j)) (omega (arith, chains.not_after j h, h)) ∙ chains.in_place j h,
            subst (λ (z : ℕ). FirstFrom c β' (β j) (suc j) (leads c j z)) (sym (links j h)) (first_same same (chains.onward j h)),
          )

  -- one state more, c, of bucket b
  module _ (β' η' link' : ℕ → ℕ) (b : ℕ) (same : (j : ℕ) → j < c → β' j ≡ β j) (own : β' c ≡ b) (ends : link' c ≤ c)
      (heads : (j : ℕ) → j < c → (β j ≡ b → ⊥) → η' (β j) ≡ η (β j)) (links : (j : ℕ) → j < c → (β j ≡ b → ⊥) → link' j ≡ link j) where
    abbrev GoodAt : ℕ → ℕ → Type 0
    GoodAt x j = (η' x ≤ j) × (β' (η' x) ≡ x) × FirstFrom (c + 1) β' x (suc j) (leads (c + 1) j (link' j))

    -- a link leads where it led, if it led somewhere or is of another bucket
    extends : (x j l : ℕ) → l < c → (x ≡ b → leads c j l < c) → FirstFrom c β x (suc j) (leads c j l) → FirstFrom (c + 1) β' x (suc j) (leads (c + 1) j l)
    extends x j l h = go (leb l j)
      where
        go : (t : Bool) → (x ≡ b → cond t c l < c) → FirstFrom c β x (suc j) (cond t c l) → FirstFrom (c + 1) β' x (suc j) (cond t (c + 1) l)
        go true d first =
            let before = first_same same first in
            record {
              not_before = omega (arith, first.not_before);
              inside = omega arith;
              none_between = λ i g k e.
                  below_more (λ (i : ℕ). suc j ≤ i → β' i ≡ x → ⊥) c (λ i k g e. before.none_between i g k e) (λ g e. omega (arith, d (sym e ∙ own))) i k g e;
              is_one = λ k. absurd (omega (arith, k));
            }
        go false d first =
            let before = first_same same first in
            record { not_before = before.not_before; inside = omega (arith, h); none_between = before.none_between; is_one = λ k. before.is_one h }

    of_others : (j : ℕ) → j < c → (β j ≡ b → ⊥) → GoodAt (β j) j
    of_others j h d = (
      omega (arith, heads j h d, chains.not_after j h),
      ap β' (heads j h d) ∙ same (η (β j)) (omega (arith, chains.not_after j h, h)) ∙ chains.in_place j h,
      subst (λ (z : ℕ). FirstFrom (c + 1) β' (β j) (suc j) (leads (c + 1) j z)) (sym (links j h d))
          (extends (β j) j (link j) (chains.below j h) (λ e. absurd (d e)) (chains.onward j h)),
    )

    -- the new state is the last of its bucket
    nothing_after : FirstFrom (c + 1) β' b (suc c) (leads (c + 1) c (link' c))
    nothing_after =
        subst (λ (t : Bool). FirstFrom (c + 1) β' b (suc c) (cond t (c + 1) (link' c))) (sym (le-leb (link' c) c ends)) record {
          not_before = omega arith;
          inside = omega arith;
          none_between = λ j g l e. omega (arith, g, l);
          is_one = λ h. absurd (omega (arith, h));
        }

    from_each : ((j : ℕ) → j < c → GoodAt (β j) j) → η' b ≤ c → β' (η' b) ≡ b → ((j : ℕ) → j < c → link' j < c + 1) → Chains (c + 1) β' η' link'
    from_each earlier g q inside =
        let each =
        below_more (λ (j : ℕ). GoodAt (β' j) j) c (λ j h. subst (λ (z : ℕ). GoodAt z j) (sym (same j h)) (earlier j h))
        (subst (λ (z : ℕ). GoodAt z c) (sym own) (g, q, nothing_after))
        in
        record {
          not_after = λ j h. (each j h).0;
          in_place = λ j h. (each j h).1;
          below = below_more (λ (j : ℕ). link' j < c + 1) c inside (omega (arith, ends));
          onward = λ j h. (each j h).2;
        }

    -- the first of its bucket
    pub chains_first : FirstFrom c β b 0 c → η' b ≡ c → Chains (c + 1) β' η' link'
    chains_first empty e = from_each (λ j h. of_others j h (empty.none_between j (omega arith) h)) (omega (arith, e)) (ap β' e ∙ own)
        (λ j h. omega (arith, links j h (empty.none_between j (omega arith) h), chains.below j h))

    -- one behind the last of its bucket
    pub chains_last : (last : ℕ) → last < c → β last ≡ b → FirstFrom c β b (suc last) c → η' b ≡ η b → link' last ≡ c
        → ((j : ℕ) → j < c → (j ≡ last → ⊥) → link' j ≡ link j) → Chains (c + 1) β' η' link'
    chains_last last l q rest kept to-new others =
        from_each (λ j h. earlier j h (ℕ_discrete (β j) b)) (omega (arith, kept, (head_of_holds b last l q).0, l)) in_its_place (λ j h. inside j h (ℕ_discrete j last))
      where
        inside : (j : ℕ) → j < c → Dec (j ≡ last) → link' j < c + 1
        inside j h (yes z) = omega (arith, ap link' z, to-new)
        inside j h (no d) = omega (arith, others j h d, chains.below j h)

        in_its_place : β' (η' b) ≡ b
        in_its_place = ap β' kept ∙ same (η b) (omega (arith, (head_of_holds b last l q).0, l)) ∙ (head_of_holds b last l q).1

        -- one of the bucket that is not the last stands before it, and so does the one that its link leads to
        goes_on : (j : ℕ) → j < c → β j ≡ b → (j ≡ last → ⊥) → leads c j (link j) < c
        goes_on j h e d =
            let before : j < last = lt_of_not-le (λ g. rest.none_between j (lt_of_le_of_ne g (λ z. d (sym z))) h e) in
            lt_of_not-le (λ g. (onward_in j h e).none_between last before (omega (arith, g, l)) q)

        next : (j : ℕ) → j < c → β j ≡ b → Dec (j ≡ last) → FirstFrom (c + 1) β' b (suc j) (leads (c + 1) j (link' j))
        next j h e (yes z) =
            subst (λ (i : ℕ). FirstFrom (c + 1) β' b (suc i) (leads (c + 1) i (link' i))) (sym z) (
            subst (λ (i : ℕ). FirstFrom (c + 1) β' b (suc last) (leads (c + 1) last i)) (sym to-new) (
            subst (λ (t : Bool). FirstFrom (c + 1) β' b (suc last) (cond t (c + 1) c)) (sym (lt-leb c last l)) record {
              not_before = l;
              inside = omega arith;
              none_between = (first_same same rest).none_between;
              is_one = λ g. own;
            }
            )
            )
        next j h e (no d) =
            subst (λ (i : ℕ). FirstFrom (c + 1) β' b (suc j) (leads (c + 1) j i)) (sym (others j h d))
            (extends b j (link j) (chains.below j h) (λ z. goes_on j h e d) (onward_in j h e))

        earlier : (j : ℕ) → j < c → Dec (β j ≡ b) → GoodAt (β j) j
        earlier j h (yes e) =
            subst (λ (z : ℕ). GoodAt z j) (sym e) (omega (arith, kept, (head_of_holds b j h e).0), in_its_place, next j h e (ℕ_discrete j last))
        earlier j h (no d) = of_others j h d
