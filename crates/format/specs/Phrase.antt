-- A phrase: what its file holds, and the look-up of a bell by its key. Assumes nothing.
use Rattle.std.specs.Prelude.{ℕ, ◌+◌, ◌-◌, Bool, true, false, cond, List, [], ◌∷◌, ltb, eqb}
use Rattle.std.proofs.Math.Option.{Option, none, some}

-- A bell: the key written (N), the transposition (T) as a signed byte, so 232 to 255 are -24 to -1, and the execution-time range (hold range: ca, cb), the
-- rest between two jobs and the priority (rank: p) that it gives to its jobs. The rest is 0 in a version without it.
pub record Bell : Type 0 where
  pub written : ℕ
  pub transposition : ℕ
  pub least_execution : ℕ
  pub most_execution : ℕ
  pub rest : ℕ
  pub priority : ℕ

-- A note: its key as written, release range (call range: ra, rb), deadline (due time: d), and the jobs that it lists to wait for.
pub record Note : Type 0 where
  pub key : ℕ
  pub earliest_release : ℕ
  pub latest_release : ℕ
  pub deadline : ℕ
  pub listed : List ℕ

-- The shift is a signed byte as well; it moves the key of every note. 0 in a version without it.
pub record Phrase : Type 0 where
  pub version : ℕ
  pub cores : ℕ
  pub shift : ℕ
  pub bells : List Bell
  pub notes : List Note

-- A key and a transposition or a shift as a signed byte: their sum. (A sum below zero is 0 here, which is no key of a bell.)
abbrev pub transposed : ℕ → ℕ → ℕ
transposed written t = cond (ltb t 128) (written + t) (written + t - 256)

-- The key that a bell sounds for (N + T).
unfoldable pub sounding : Bell → ℕ
sounding b = transposed b.written b.transposition

-- the number, counted on from i, of the first bell that sounds for a key
unfoldable pub find_from : ℕ → ℕ → List Bell → Option ℕ
unfolding sounding
find_from key i [] = none
find_from key i (b ∷ bs) = cond (eqb (sounding b) key) (some i) (find_from key (i + 1) bs)

-- the number of the first bell that sounds for a key
abbrev pub find_sounding : ℕ → List Bell → Option ℕ
find_sounding key = find_from key 0

-- The look-up of a bell by a note's key as written, and the shift.
abbrev pub find : ℕ → ℕ → List Bell → Option ℕ
find key shift = find_sounding (transposed key shift)

abbrev pub is_none : Option ℕ → Bool
is_none none = true
is_none (some x) = false

abbrev pub is_some : Option ℕ → Bool
is_some none = false
is_some (some x) = true
