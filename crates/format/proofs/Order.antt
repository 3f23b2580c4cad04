-- What the order of a note's rules changed, in all versions as they are: a file or a phrase has the answer that it would have in the old order, but that a note with no bell and
-- wrong times was 10 and is 11, at the same place. Assumes nothing.
use Prim.Native.Nat.{ℕ}
use mathlib.Core.Path.{◌≡◌, refl, sym, ap, ◌∙◌, subst}
use mathlib.Core.Bool.{Bool, true, false, not, cond, ◌&&◌, false≢true}
use mathlib.Core.List.{List, [], ◌∷◌, map}
use native.Mathlib.Omega.{arith}
use lib.Dec.{eqb}
use borrow.Author.Tests.{eqb-true, eq-eqb, ne_eqb}
use Rattle.model.specs.Refusals.{silent_key, wrong_times, wrong_listed}
use Rattle.format.specs.Bytes.{number, within}
use Rattle.format.specs.Layout.{is_version, layout, note_length, is_note_length}
use Rattle.format.specs.Outcome.{Outcome, ok, refused, ◌>>◌, require}
use Rattle.format.specs.Phrase.{Bell, Note, Phrase, find, is_some}
use Rattle.format.specs.Rules.{is_shift, are_times, rises, note_rules, all_bells, rules}
use Rattle.format.specs.Reading.{note_in, bells_in, reading}
use Rattle.format.proofs.examples.Files.{Case, note, noted}
use Rattle.format.proofs.examples.Phrases.{Case as Asked}
use Rattle.format.proofs.examples.Orders.{table, asked_table}
use Rattle.format.proofs.AnyRules.{NoteRules, note_record_with, notes_from_with, notes_in_with, reading_by_with, reading_with, notes_rules_with, all_notes_with, rules_by_with, rules_with, reading_now, rules_now}
use Rattle.format.proofs.Retold.{Test, in_file, in_phrase, retold, Told, told_value, told_require, reading_told, rules_told}

-- ---- the order as it was: the key, then the times; all else is as it is

unfoldable pub key_first : NoteRules
key_first shift bells own at n = do
  require (is_some (find n.key shift bells)) silent_key at
  require (are_times n.earliest_release n.latest_release n.deadline) wrong_times at
  require (rises own 0 n.listed) wrong_listed at
  ok n

abbrev pub reading_before : List ℕ → Outcome Phrase
reading_before = reading_with key_first

abbrev pub rules_before : Phrase → Outcome Phrase
rules_before = rules_with key_first

-- ---- the two questions

abbrev pub timely : Test
timely shift bells n = are_times n.earliest_release n.latest_release n.deadline

abbrev pub strikes : Test
strikes shift bells n = is_some (find n.key shift bells)

-- ---- the two orders

-- of two tests that fail both the one is told that comes first
swapped : {A : Type 0} (old new : ℕ) (right : ℕ → Bool) (at : ℕ) (b c : Bool) (k : Outcome A) → eqb new old ≡ false → right at ≡ c → Told old new right k k
    → Told old new right (◌>>◌ (require b old at) (◌>>◌ (require c new at) k)) (◌>>◌ (require c new at) (◌>>◌ (require b old at) k))
swapped old new right at true true k o e p = p
swapped old new right at true false k o e p = record { told = sym (ap (λ (t : Bool). refused (cond (t && not (right at)) new new) at) o) }
swapped old new right at false true k o e p = record { told = λ i. refused (cond (sym (eq-eqb old old refl) i && not (sym e i)) new old) at }
swapped old new right at false false k o e p = record { told = λ i. refused (cond (sym (eq-eqb old old refl) i && not (sym e i)) new old) at }

is_other : (old : ℕ) → within silent_key wrong_times old ≡ true → (n : ℕ) → within silent_key wrong_times n ≡ false → eqb n old ≡ false
is_other old e n f = ne_eqb n old (λ same. false≢true (sym f ∙ ap (within silent_key wrong_times) same ∙ e))

now_turns : (right : ℕ → Bool) (shift : ℕ) (bells : List Bell) (own at : ℕ) (n : Note) → right at ≡ timely shift bells n
    → Told silent_key wrong_times right (key_first shift bells own at n) (note_rules shift bells own at n)
unfolding note_rules key_first within
now_turns right shift bells own at n e =
    swapped silent_key wrong_times right at (strikes shift bells n) (timely shift bells n) _ refl e
    (told_require silent_key wrong_times (is_other silent_key refl) right (rises own 0 n.listed) wrong_listed at refl (told_value silent_key wrong_times (is_other silent_key refl) right n))

before_turns : (right : ℕ → Bool) (shift : ℕ) (bells : List Bell) (own at : ℕ) (n : Note) → right at ≡ strikes shift bells n
    → Told wrong_times silent_key right (note_rules shift bells own at n) (key_first shift bells own at n)
unfolding note_rules key_first within
before_turns right shift bells own at n e =
    swapped wrong_times silent_key right at (timely shift bells n) (strikes shift bells n) _ refl e
    (told_require wrong_times silent_key (is_other wrong_times refl) right (rises own 0 n.listed) wrong_listed at refl (told_value wrong_times silent_key (is_other wrong_times refl) right n))

-- A file has the answer that it had, but that 10 for a note with wrong times is 11.
pub from_before : (s : List ℕ) → reading s ≡ retold silent_key wrong_times (in_file timely s) (reading_before s)
unfolding within
from_before s = reading_now s ∙ (reading_told silent_key wrong_times (is_other silent_key refl) timely key_first note_rules now_turns s).told

-- It had the answer that it has, but that 11 for a note with no bell was 10.
pub from_now : (s : List ℕ) → reading_before s ≡ retold wrong_times silent_key (in_file strikes s) (reading s)
unfolding within
from_now s =
    (reading_told wrong_times silent_key (is_other wrong_times refl) strikes note_rules key_first before_turns s).told
    ∙ ap (retold wrong_times silent_key (in_file strikes s)) (sym (reading_now s))

-- So has a phrase that is to be written, whatever the widths of its fields.
pub rules_from_before : (x : Phrase) → rules x ≡ retold silent_key wrong_times (in_phrase timely x) (rules_before x)
unfolding within
rules_from_before x = rules_now x ∙ (rules_told silent_key wrong_times (is_other silent_key refl) timely key_first note_rules now_turns x).told

-- It had the answer that it has, but for the same.
pub rules_from_now : (x : Phrase) → rules_before x ≡ retold wrong_times silent_key (in_phrase strikes x) (rules x)
unfolding within
rules_from_now x =
    (rules_told wrong_times silent_key (is_other wrong_times refl) strikes note_rules key_first before_turns x).told
    ∙ ap (retold wrong_times silent_key (in_phrase strikes x)) (sym (rules_now x))

-- ---- what changed

-- what became of an answer: it stayed, or it was 10 and is 11, at a note that breaks both rules
pub data Became (isTimely doesStrike : ℕ → Bool) : Outcome Phrase → Outcome Phrase → Type 0 where
  as_it_was : (o : Outcome Phrase) → Became isTimely doesStrike o o
  times_first : (at : ℕ) → isTimely at ≡ false → doesStrike at ≡ false → Became isTimely doesStrike (refused silent_key at) (refused wrong_times at)

became : (isTimely doesStrike : ℕ → Bool) (was is : Outcome Phrase) → is ≡ retold silent_key wrong_times isTimely was → was ≡ retold wrong_times silent_key doesStrike is
    → Became isTimely doesStrike was is
became isTimely doesStrike (ok x) is e f = subst (Became isTimely doesStrike (ok x)) (sym e) (as_it_was (ok x))
became isTimely doesStrike (refused n at) is e f = go (eqb n silent_key) refl (isTimely at) refl
  where
    silenced : (b : Bool) → silent_key ≡ cond (not b) silent_key wrong_times → b ≡ false
    silenced true q = absurd (omega (arith, q))
    silenced false q = refl

    go : (b : Bool) → eqb n silent_key ≡ b → (c : Bool) → isTimely at ≡ c → Became isTimely doesStrike (refused n at) is
    go false p c r =
        subst (Became isTimely doesStrike (refused n at)) (sym (e ∙ ap (λ (t : Bool). refused (cond (t && not (isTimely at)) wrong_times n) at) p)) (as_it_was (refused n at))
    go true p true r =
        subst (Became isTimely doesStrike (refused n at)) (sym (e ∙ λ i. refused (cond (p i && not (r i)) wrong_times n) at)) (as_it_was (refused n at))
    go true p false r =
        let ten : n ≡ silent_key = eqb-true n silent_key p in
        let now : is ≡ refused wrong_times at = e ∙ λ i. refused (cond (p i && not (r i)) wrong_times n) at in
        let back : ◌≡◌ {A = Outcome Phrase} (refused n at) (refused (cond (not (doesStrike at)) silent_key wrong_times) at) = f ∙ ap (retold wrong_times silent_key doesStrike) now in
        let silent : doesStrike at ≡ false = silenced (doesStrike at) (sym ten ∙ cc back) in
        subst (λ (o : Outcome Phrase). Became isTimely doesStrike o is) (ap (λ (m : ℕ). refused m at) (sym ten))
        (subst (Became isTimely doesStrike (refused silent_key at)) (sym now) (times_first at r silent))

-- A file has the answer that it had, but for a note that breaks both rules, which was 10 and is 11, at the same place.
pub read_as_before : (s : List ℕ) → Became (in_file timely s) (in_file strikes s) (reading_before s) (reading s)
read_as_before s = became (in_file timely s) (in_file strikes s) (reading_before s) (reading s) (from_before s) (from_now s)

-- So has a phrase that is to be written.
pub asked_as_before : (x : Phrase) → Became (in_phrase timely x) (in_phrase strikes x) (rules_before x) (rules x)
asked_as_before x = became (in_phrase timely x) (in_phrase strikes x) (rules_before x) (rules x) (rules_from_before x) (rules_from_now x)

-- ---- the answers that there were

-- Of every row of the files that break more than one rule.
pub read_then : map (λ (c : Case). reading_before c.file) table
    ≡ refused 10 22 ∷ refused 11 22 ∷ refused 12 22 ∷ refused 10 22 ∷ refused 11 22 ∷ refused 10 22 ∷ refused 10 22
    ∷ refused 10 36 ∷ refused 11 36 ∷ refused 12 36 ∷ refused 10 36 ∷ refused 11 36 ∷ refused 10 36 ∷ refused 10 36
    ∷ refused 10 23 ∷ refused 11 23 ∷ refused 10 23 ∷ refused 10 23 ∷ refused 10 37 ∷ refused 11 37 ∷ refused 10 37 ∷ refused 10 37
    ∷ ok (noted (note 60 0 5 7 [] ∷ note 74 0 5 7 (0 ∷ []) ∷ [])) ∷ refused 12 22 ∷ refused 10 22 ∷ refused 10 22 ∷ refused 10 22 ∷ refused 9 22 ∷ refused 3 36
    ∷ []
unfolding reading_with is_version number reading_by_with layout is_shift bells_in notes_in_with notes_from_with note_record_with is_note_length key_first note_in are_times rises
read_then = refl

-- Of every such phrase.
pub asked_then : map (λ (c : Asked). rules_before c.asked) asked_table
    ≡ refused 10 22 ∷ refused 11 22 ∷ refused 10 22 ∷ refused 10 22 ∷ refused 10 36 ∷ refused 11 36 ∷ refused 10 36 ∷ refused 10 36
    ∷ refused 10 22 ∷ refused 10 22 ∷ refused 9 22 ∷ refused 12 22 ∷ refused 10 23 ∷ refused 10 37 ∷ refused 10 37
    ∷ []
unfolding rules_with is_version rules_by_with is_shift layout all_bells all_notes_with notes_rules_with key_first are_times rises note_length
asked_then = refl
