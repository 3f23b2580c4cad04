-- What a host gets: one number for a check, for a reading, for a writing and for a playing. Assumes nothing.
use Rattle.std.specs.Prelude.{ℕ, ◌+◌, ◌*◌, ◌≡◌, List, length}
use Rattle.format.specs.Phrase.{Phrase}
use Rattle.format.specs.Outcome.{Outcome, ok, refused}
use Rattle.checking.specs.Checking.{verdict, answer_for, Values, values_of}
use Rattle.checking.specs.Certain.{verdict_on_run, RunDecides}

-- the words of a table of its own
abbrev pub table_words : ℕ
table_words = 16384

-- so many places have numbers of their own beside each refusal number
abbrev pub places : ℕ
places = 4294967296

-- The refusal number times `places` plus the place.
abbrev pub refusal_at : ℕ → ℕ → ℕ
refusal_at number place = number * places + place

-- Of a check; the place is the level of refusal 13 and the job of refusal 14; 0 when accepted.
abbrev pub number_of : Values → ℕ
number_of w = refusal_at w.number w.place

-- the number for a reading and a table of so many words
abbrev pub number_for : Outcome Phrase → ℕ → ℕ
number_for o words = number_of (values_of (answer_for (verdict o words)))

-- Over a table of so many words the run of a phrase with nothing uncertain decides the analysis, and the number is that of the verdict on the run.
abbrev pub NumberByRun : Outcome Phrase → ℕ → ℕ → Type 0
NumberByRun o words r = RunDecides o words × (r ≡ number_of (values_of (answer_for (verdict_on_run o))))

-- Of a reading and of a playing: 0, or its refusal.
abbrev pub outcome_number : {A : Type 0} → Outcome A → ℕ
outcome_number (ok x) = 0
outcome_number (refused n at) = refusal_at n at

-- Of a writing: the file's length, or its refusal.
abbrev pub written_number : Outcome (List ℕ) → ℕ
written_number (ok s) = length s
written_number (refused n at) = refusal_at n at
