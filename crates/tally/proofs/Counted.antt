-- Laws of the counts of a table's notes. Assumes nothing.
use Prim.Native.Nat.{ℕ, ◌+◌, ◌≤◌, ◌<◌}
use mathlib.Core.Path.{◌≡◌, sym, ap, ◌∙◌}
use mathlib.Core.Bool.{Bool, true, false, cond}
use mathlib.Core.List.{List}
use native.Mathlib.Nat.{zero-add}
use native.Mathlib.Decide.{ℕ_discrete}
use native.Mathlib.Omega.{arith}
use lib.Dec.{eqb}
use lib.ListN.{get_or, set, replicate, length-set, length-replicate}
use lib.Seq.{get_or-set_same, get_or-set_other}
use borrow.Author.Tests.{eq-eqb, ne_eqb}
use Rattle.words.proofs.Tabulate.{length_tabulate, get_or_tabulate, tabulate_is}
use Rattle.model.specs.Folds.{sum}
use Rattle.model.specs.Limits.{most_jobs}
use Rattle.model.proofs.Folds.{get_or_same, sum_next, sum_times}
use Rattle.format.specs.Layout.{most_bells}
use Rattle.rows.specs.NoteRow.{struck_word}
use Rattle.rows.specs.internal.Handed.{note_word}
use Rattle.tally.specs.internal.Counted.{struck_in, tallied, Few}

-- with no note there are only zeros
pub tallied_none : (t : List ℕ) → replicate most_bells 0 ≡ tallied t 0
unfolding sum
tallied_none t = sym (tabulate_is (struck_in t 0) most_bells (replicate most_bells 0) 0 (length-replicate {A = ℕ} most_bells 0) (λ b h. sym (get_or_same most_bells b 0)))

-- Each count is the number of the bell's strokes.
pub tallied_at : (t : List ℕ) (k b : ℕ) → b < most_bells → get_or (tallied t k) b 0 ≡ struck_in t k b
tallied_at t k b h = get_or_tabulate (struck_in t k) 0 most_bells b 0 h ∙ ap (struck_in t k) (zero-add b)

-- of k notes no bell has more than k
struck_few : (t : List ℕ) (k b : ℕ) → struck_in t k b ≤ k
struck_few t k b = omega (arith, sum_times (λ i. cond (eqb (note_word t i struck_word) b) 1 0) k 1 (λ i l. one (eqb (note_word t i struck_word) b)))
  where
    one : (e : Bool) → cond e 1 0 ≤ 1
    one true = omega arith
    one false = omega arith

pub tallied_few : (t : List ℕ) (k b : ℕ) → b < most_bells → get_or (tallied t k) b 0 ≤ k
tallied_few t k b h = omega (arith, tallied_at t k b h, struck_few t k b)

pub few_tallied : (t : List ℕ) (k : ℕ) → k ≤ most_jobs → Few (tallied t k)
few_tallied t k few b h = omega (arith, tallied_few t k b h, few)

module _ (t : List ℕ) (i : ℕ) (row : note_word t i struck_word < most_bells) where
  abbrev here : ℕ
  here = note_word t i struck_word

  abbrev more : List ℕ
  more = set (tallied t i) here (get_or (tallied t i) here 0 + 1)

  one_more : (b : ℕ) → b < most_bells → struck_in t (i + 1) b ≡ get_or more b 0
  one_more b h = go (ℕ_discrete b here)
    where
      next : struck_in t (i + 1) b ≡ struck_in t i b + cond (eqb here b) 1 0
      next = sum_next (λ j. cond (eqb (note_word t j struck_word) b) 1 0) i

      at : (e : Bool) → eqb here b ≡ e → ◌≡◌ {A = ℕ} (cond (eqb here b) 1 0) (cond e 1 0)
      at e q = ap (λ (z : Bool). cond {A = ℕ} z 1 0) q

      go : Dec (b ≡ here) → struck_in t (i + 1) b ≡ get_or more b 0
      go (yes e) =
          let one = get_or-set_same (tallied t i) here (get_or (tallied t i) here 0 + 1) 0 (omega (arith, row, length_tabulate (struck_in t i) 0 most_bells)) in
          let there : get_or more b 0 ≡ get_or more here 0 = ap (λ (j : ℕ). get_or more j 0) e in
          let was : get_or (tallied t i) here 0 ≡ struck_in t i b = tallied_at t i here row ∙ ap (struck_in t i) (sym e) in
          omega (arith, next, at true (eq-eqb here b (sym e)), one, there, was)
      go (no d) =
          omega (
            arith,
            next,
            at false (ne_eqb here b (λ q. d (sym q))),
            tallied_at t i b h,
            get_or-set_other (tallied t i) here b (get_or (tallied t i) here 0 + 1) 0 d,
          )

  -- one more note
  pub tallied_next : more ≡ tallied t (i + 1)
  tallied_next =
      sym (tabulate_is (struck_in t (i + 1)) most_bells more 0 (length-set (tallied t i) here _ ∙ length_tabulate (struck_in t i) 0 most_bells) one_more)
