-- A table whose two halves are written in turn. Assumes nothing.
use Prim.Native.Nat.{ℕ, ◌+◌, ◌*◌, ◌≤◌, ◌<◌}
use mathlib.Core.Path.{◌≡◌, sym, ap, ◌∙◌}
use mathlib.Core.Logic.{◌⊎◌, inl, inr, ⊎_elim}
use mathlib.Core.List.{List, ◌++◌}
use native.Mathlib.Omega.{arith}
use lib.ListN.{length, take, drop, get_or}
use lib.Seq.{ext_get_or, take_at, length-take-le, drop-drop}
use borrow.Rule.Slice.PartMut.{put_mid}
use Rattle.words.proofs.Parts.{part_length, part_get, part_before, part_after, drop_after}
use Rattle.words.specs.internal.Parts.{part}
use Rattle.analysis.specs.internal.Answers.{Halves}

-- a part of a part
pub part_part : (a n b m : ℕ) (t : List ℕ) → b + m ≤ n → a + n ≤ length t → part b m (part a n t) ≡ part (a + b) m t
part_part a n b m t h g =
    let l = part_length a n t g in
    let r = part_length b m (part a n t) (omega (arith, l)) in
    ext_get_or 0 (part b m (part a n t)) (part (a + b) m t) (r ∙ sym (part_length (a + b) m t (omega arith)))
    (λ i c.
    let c₂ : i < m = omega (arith, c, r) in
    part_get b m (part a n t) i c₂ ∙ part_get a n t (b + i) (omega arith) ∙ ap (λ (z : ℕ). get_or t z 0) (omega arith) ∙ sym (part_get (a + b) m t i c₂))

-- a part put twice
pub put_put : (a n : ℕ) (t xs ys : List ℕ) → a + n ≤ length t → length xs ≡ n → put_mid a n (put_mid a n t xs) ys ≡ put_mid a n t ys
put_put a n t xs ys h l =
    let p : take a (put_mid a n t xs) ≡ take a t = take_at (take a t) (xs ++ drop n (drop a t)) a (length-take-le a t (omega arith)) in
    let q : drop n (drop a (put_mid a n t xs)) ≡ drop n (drop a t) = drop-drop n a (put_mid a n t xs) ∙ drop_after a n t xs h l (a + n) (omega arith) ∙ sym (drop-drop n a t) in
    ap (λ (z : List ℕ). z ++ (ys ++ drop n (drop a (put_mid a n t xs)))) p ∙ ap (λ (z : List ℕ). take a t ++ (ys ++ z)) q

-- what lies in the half that is read, while the other is written
pub source_kept : (size from to b w : ℕ) (t ys : List ℕ) → Halves (length t) size from to → length ys ≡ size → b + w ≤ size
    → part (from + b) w (put_mid to size t ys) ≡ part b w (part from size t)
source_kept size from to b w t ys h l g =
    ⊎_elim (λ (a : from + size ≤ to). part_before to size t ys h.target l (from + b) w (omega arith))
    (λ (a : to + size ≤ from). part_after to size t ys h.target l (from + b) w (omega arith)) h.apart
    ∙ sym (part_part from size b w t g h.source)

-- ---- the halves change roles

-- one half is the lower one and the other the upper
abbrev pub Roles : ℕ → ℕ → ℕ → Type 0
Roles size from to = ((from ≡ 0) × (to ≡ size)) ⊎ ((from ≡ size) × (to ≡ 0))

-- the two lie in the table, apart from each other
pub roles_apart : (words size from to : ℕ) → 2 * size ≤ words → Roles size from to → Halves words size from to × (to + size ≤ 2 * size)
roles_apart words size from to h (inl e) =
    (record { source = omega (arith, e.0); target = omega (arith, e.1); apart = inl (omega (arith, e.0, e.1)) }, omega (arith, e.1))
roles_apart words size from to h (inr e) =
    (record { source = omega (arith, e.0); target = omega (arith, e.1); apart = inr (omega (arith, e.0, e.1)) }, omega (arith, e.1))

-- they stay so when they change roles
pub roles_change : (size from to : ℕ) → Roles size from to → Roles size to from
roles_change size from to (inl e) = inr (e.1, e.0)
roles_change size from to (inr e) = inl (e.1, e.0)
