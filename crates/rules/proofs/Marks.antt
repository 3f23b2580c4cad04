-- Marks of the keys that bells sound for: none, one more, and what a mark says. Assumes nothing.
use Prim.Native.Nat.{ℕ, zero, suc, ◌+◌, ◌<◌}
use mathlib.Core.Path.{◌≡◌, refl, sym, ap, ◌∙◌}
use mathlib.Core.Logic.{◌⊎◌, inl, inr}
use mathlib.Core.Bool.{Bool, true, false, ◌||◌, cond, false≢true, true≢false}
use mathlib.Core.List.{List, [], ◌∷◌, ◌++◌}
use mathlib.Core.Option.{Option, none, some}
use lib.Dec.{eqb}
use lib.ListN.{length, get_or, set, replicate}
use lib.Seq.{get_or-set_same, get_or-set_other}
use borrow.Author.Tests.{eq-eqb, eqb-true}
use Rattle.model.proofs.Booleans.{cases}
use Rattle.format.specs.Phrase.{Bell, sounding, find_from, find_sounding, is_some}
use Rattle.rules.specs.internal.Asking.{Sounded}

-- What is told to be there is there.
pub some_there : (o : Option ℕ) → is_some o ≡ true → (k : ℕ) × (o ≡ some k)
some_there (some k) e = (k, refl)
some_there none e = absurd (false≢true e)

-- What is told not to be there is not.
pub none_there : (o : Option ℕ) → is_some o ≡ false → o ≡ none
none_there (some k) e = absurd (true≢false e)
none_there none e = refl

unmarked : (n key : ℕ) → get_or (replicate n false) key false ≡ false
unmarked zero key = refl
unmarked (suc n) zero = refl
unmarked (suc n) (suc key) = unmarked n key

-- Without bells there is no mark.
pub sounded_none : (n : ℕ) → Sounded [] (replicate n false)
unfolding find_from
sounded_none n key = unmarked n key

-- ---- one bell more

last_found : (i : ℕ) (t : Bool) → is_some (cond t (some i) none) ≡ t
last_found i true = refl
last_found i false = refl

found_more : (key i : ℕ) (bells : List Bell) (b : Bell) → is_some (find_from key i (bells ++ b ∷ [])) ≡ (is_some (find_from key i bells) || eqb (sounding b) key)
unfolding find_from
found_more key i [] b = last_found i (eqb (sounding b) key)
found_more key i (a ∷ bs) b = go (eqb (sounding a) key) (found_more key (i + 1) bs b)
  where
    go : (t : Bool) → is_some (find_from key (i + 1) (bs ++ b ∷ [])) ≡ (is_some (find_from key (i + 1) bs) || eqb (sounding b) key)
        → is_some (cond t (some i) (find_from key (i + 1) (bs ++ b ∷ []))) ≡ (is_some (cond t (some i) (find_from key (i + 1) bs)) || eqb (sounding b) key)
    go true e = refl
    go false e = e

or_true : (t : Bool) → (t || true) ≡ true
or_true true = refl
or_true false = refl

or_false : (t : Bool) → (t || false) ≡ t
or_false true = refl
or_false false = refl

-- The key of one bell more is marked.
pub sounded_more : (bells : List Bell) (b : Bell) (marks : List Bool) → Sounded bells marks → sounding b < length marks
    → Sounded (bells ++ b ∷ []) (set marks (sounding b) true)
sounded_more bells b marks s h key = go (cases (eqb (sounding b) key))
  where
    there : is_some (find_sounding key (bells ++ b ∷ [])) ≡ (is_some (find_sounding key bells) || eqb (sounding b) key)
    there = found_more key 0 bells b

    go : (eqb (sounding b) key ≡ true) ⊎ (eqb (sounding b) key ≡ false) → get_or (set marks (sounding b) true) key false ≡ is_some (find_sounding key (bells ++ b ∷ []))
    go (inl e) =
        let same : sounding b ≡ key = eqb-true (sounding b) key e in
        let one : get_or (set marks (sounding b) true) key false ≡ true =
        ap (λ (k : ℕ). get_or (set marks (sounding b) true) k false) (sym same) ∙ get_or-set_same marks (sounding b) true false h in
        one ∙ sym (there ∙ ap (λ (t : Bool). is_some (find_sounding key bells) || t) e ∙ or_true (is_some (find_sounding key bells)))
    go (inr e) =
        let other : key ≡ sounding b → ⊥ = λ q. true≢false (sym (eq-eqb (sounding b) key (sym q)) ∙ e) in
        get_or-set_other marks (sounding b) key true false other
        ∙ s key
        ∙ sym (there ∙ ap (λ (t : Bool). is_some (find_sounding key bells) || t) e ∙ or_false (is_some (find_sounding key bells)))
