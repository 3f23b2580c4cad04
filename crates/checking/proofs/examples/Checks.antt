-- What a check uses of its table, its verdict, its result and what document 01 writes of it, worked out by hand. Assumes nothing.
use Rattle.std.specs.Prelude.{ℕ, ◌+◌, ◌≡◌, refl, List, [], ◌∷◌, ◌++◌, map, set, take, replicate}
use Rattle.model.specs.Exploration.{accepted, refused, late, analysis}
use Rattle.model.specs.Exploration.{Verdict}
use Rattle.model.specs.States.{range}
use Rattle.format.specs.Phrase.{Phrase}
use Rattle.format.specs.Outcome.{Outcome}
use Rattle.format.specs.Reading.{reading}
use Rattle.format.proofs.examples.Files.{file_p}
use Rattle.format.proofs.examples.Rests.{file_r}
use Rattle.format.proofs.examples.Shifts.{file_s}
use Rattle.checking.specs.Checking.{verdict, used_words, per_job, checked_of, answer_for, Values, values_of, bounds_of}
use Rattle.checking.specs.declared.Answer.{Answer}
use Rattle.checking.specs.declared.Answer.TheVariants.{Accepted, Refused, Late}
use Rattle.checking.specs.declared.Checked.{Checked}

-- ---- files

-- a version that there is none of, and a file that ends early
abbrev pub version_nine : List ℕ
version_nine = 0x09 ∷ []

abbrev pub three_bytes : List ℕ
three_bytes = 0x01 ∷ 0x00 ∷ 0x00 ∷ []

-- P with a byte after it, which is found to remain when all else has been read
abbrev pub byte_remains : List ℕ
byte_remains = set file_p 4 0x2E ++ 0x00 ∷ []

-- P on two cores; with stroke 0 due at 6, so late; with stroke 0 called from 1 on
abbrev pub on_two : List ℕ
on_two = set file_p 5 0x02

abbrev pub late_phrase : List ℕ
late_phrase = set file_p 35 0x06

abbrev pub called_later : List ℕ
called_later = set file_p 27 0x01

-- P's bells and no stroke
abbrev pub no_stroke : List ℕ
no_stroke = take 22 (set (set file_p 4 0x11) 21 0x00)

-- shifted by 14: keys 60 and 46, as written, strike bell 1 (74) and bell 0 (60); and stroke 0 is due at 9
abbrev pub exchanged : List ℕ
exchanged = set (set (set (set file_s 6 0x0E) 24 0x3C) 36 0x09) 38 0x2E

-- R, whose first bell rests 300, with stroke 1 on that bell too, due at 256 and this low byte more
abbrev pub struck_again : ℕ → List ℕ
struck_again low = set (set (set file_r 42 0x40) 53 0x01) 54 low

-- ---- what is due for a file and a table

-- a file, the length of the lent table, and what is due
pub record Case (A : Type 0) : Type 0 where
  pub file : List ℕ
  pub words : ℕ
  pub due : A

abbrev pub lent : {A : Type 0} → List ℕ → ℕ → A → Case A
lent f n x = record { file = f; words = n; due = x }

abbrev pub dues : {A : Type 0} → List (Case A) → List A
dues [] = []
dues (c ∷ cs) = c.due ∷ dues cs

-- what a function of the reading and of the table's length gives for them
abbrev pub given : {A : Type 0} → (Outcome Phrase → ℕ → A) → List (Case A) → List A
given f [] = []
given f (c ∷ cs) = f (reading c.file) c.words ∷ given f cs

-- ---- the words that a check may change: so many, from the first on

abbrev pub uses : List (Case ℕ)
uses =
    -- not read: none
    lent version_nine 31 0
    ∷ lent version_nine 16384 0
    ∷ lent three_bytes 16384 0
    ∷ lent byte_remains 16384 0
    -- P: W = 2 + 2 + 4 = 8; two levels of S states take 16 * S words, and what remains is unchanged
    ∷ lent file_p 0 0
    ∷ lent file_p 15 0
    ∷ lent file_p 16 16
    ∷ lent file_p 31 16
    ∷ lent file_p 32 32
    ∷ lent file_p 47 32
    ∷ lent file_p 16384 16384
    -- a late phrase no less
    ∷ lent late_phrase 33 32
    -- P on two cores: W = 2 + 4 + 4 = 10; 59 = 2 * 20 + 19
    ∷ lent on_two 59 40
    ∷ lent on_two 60 60
    -- S, which is P with a shift, as P
    ∷ lent file_s 31 16
    ∷ lent file_s 32 32
    -- no stroke: W = 4
    ∷ lent no_stroke 7 0
    ∷ lent no_stroke 9 8
    ∷ []

pub used_words_holds : given used_words uses ≡ dues uses
unfolding reading
used_words_holds = refl

-- ---- the verdict

abbrev pub verdicts : List (Case Verdict)
verdicts =
    lent version_nine 31 (refused 1 0)
    ∷ lent byte_remains 0 (refused 3 50)
    -- P: half of 31 words has room for one state, half of 32 for two
    ∷ lent file_p 15 (refused 13 0)
    ∷ lent file_p 31 (refused 13 1)
    ∷ lent file_p 32 (accepted (range 2 7 ∷ range 4 6 ∷ []) 4)
    ∷ lent late_phrase 32 (late 0 6 7)
    -- P on two cores. Level 0: twc 0; job 0 ends 2..2: {0} [0,0] [2,2]; job 1, thigh 5, ends 4..4: {1} [0,0] [4,4]. Level 1: {0}: job 1 ends 4..4: [2,2]
    -- [4,4]; {1}: twc 5; job 0 ends 2..7: [2,4] [4,7]. They merge. Half of 39 words has room for one state, half of 40 for two.
    ∷ lent on_two 39 (refused 13 1)
    ∷ lent on_two 40 (accepted (range 2 7 ∷ range 4 4 ∷ []) 4)
    -- stroke 0 called from 1 on. Level 0: twc 0, so job 1 starts, and ends 4..4: {1} [4,4]. Level 1: twc 5; job 0 ends 6..7.
    ∷ lent called_later 32 (accepted (range 6 7 ∷ range 4 4 ∷ []) 3)
    -- S strikes the bells that P strikes
    ∷ lent file_s 31 (refused 13 1)
    ∷ lent file_s 32 (accepted (range 2 7 ∷ range 4 6 ∷ []) 4)
    -- a shift out of range
    ∷ lent (set file_s 6 0x19) 32 (refused 19 6)
    -- exchanged: job 0 holds for 4 with rank 2, job 1 for 2 with rank 1. Level 0: twc 0; job 1 is called at 0 and goes before, ends 2..2: {1} [2,2]. Level 1:
    -- twc 5; job 0 ends 6..9.
    ∷ lent exchanged 32 (accepted (range 6 9 ∷ range 2 2 ∷ []) 3)
    ∷ lent no_stroke 8 (accepted [] 1)
    -- stroke 0 ends 2..7; then stroke 1 waits for the rest, starts from 302 to 307 and ends 304..309, in time by 309 and not by 308
    ∷ lent (struck_again 0x35) 32 (accepted (range 2 7 ∷ range 304 309 ∷ []) 3)
    ∷ lent (struck_again 0x34) 32 (late 1 304 309)
    ∷ []

pub as_judged : given verdict verdicts ≡ dues verdicts
unfolding reading analysis
as_judged = refl

-- ---- the result

-- a word for each of three jobs, for none, and for 64
pub per_job_holds : per_job 3 (λ i. i + 5) ∷ per_job 0 (λ i. i + 5) ∷ [] ≡ (5 ∷ 6 ∷ 7 ∷ replicate 61 0) ∷ replicate 64 0 ∷ []
unfolding per_job
per_job_holds = refl

pub per_each : per_job 64 (λ i. 1) ≡ replicate 64 1
unfolding per_job
per_each = refl

-- zeros beside an answer
abbrev pub alone : Answer → Checked
alone a =
    record {
      answer = a;
      jobs = 0;
      earliest = replicate 64 0;
      latest = replicate 64 0;
      best = replicate 64 0;
      worst = replicate 64 0;
      states = 0;
    }

-- two words, and zeros up to 64
abbrev pub both : ℕ → ℕ → List ℕ
both x y = x ∷ y ∷ replicate 62 0

abbrev pub results : List (Case Checked)
results =
    lent file_p 32
    (record { answer = Accepted; jobs = 2; earliest = both 2 4; latest = both 7 6; best = both 2 4; worst = both 7 6; states = 4 })
    -- stroke 0 is called from 1 on, and its responses are its ends less 1
    ∷ lent called_later 32
    (record { answer = Accepted; jobs = 2; earliest = both 6 4; latest = both 7 4; best = both 5 4; worst = both 6 4; states = 3 })
    ∷ lent no_stroke 8
    (record {
      answer = Accepted;
      jobs = 0;
      earliest = replicate 64 0;
      latest = replicate 64 0;
      best = replicate 64 0;
      worst = replicate 64 0;
      states = 1;
    })
    ∷ lent version_nine 32 (alone (Refused 1 0))
    ∷ lent byte_remains 32 (alone (Refused 3 50))
    ∷ lent file_p 31 (alone (Refused 13 1))
    ∷ lent late_phrase 32 (alone (Late 0 6 7))
    ∷ []

pub as_resulting : given checked_of results ≡ dues results
unfolding reading analysis per_job
as_resulting = refl

-- the bounds that it reports: a range for each stroke, none where it has none
pub bounds_reported :
    map bounds_of (dues results)
    ≡ (range 2 7 ∷ range 4 6 ∷ []) ∷ (range 6 7 ∷ range 4 4 ∷ []) ∷ [] ∷ [] ∷ [] ∷ [] ∷ [] ∷ []
unfolding bounds_of
bounds_reported = refl

-- ---- what document 01 writes of an answer: number, place, and of a late stroke its ends

abbrev pub values : ℕ → ℕ → ℕ → ℕ → Values
values n at e f = record { number = n; place = at; earliest = e; latest = f }

pub answers :
    map answer_for (accepted (range 2 7 ∷ []) 4 ∷ refused 4 5 ∷ refused 13 1 ∷ late 3 6 7 ∷ []) ≡ Accepted ∷ Refused 4 5 ∷ Refused 13 1 ∷ Late 3 6 7 ∷ []
answers = refl

pub answers_written :
    map values_of (Accepted ∷ Refused 4 5 ∷ Refused 13 1 ∷ Late 3 6 7 ∷ []) ≡ values 0 0 0 0 ∷ values 4 5 0 0 ∷ values 13 1 0 0 ∷ values 14 3 6 7 ∷ []
answers_written = refl
