-- Playings read, refused and worked out by hand, each kind in one table with one result; and times that the promise rules out. Assumes nothing.
use Rattle.std.specs.Prelude.{ℕ, ◌≡◌, refl, List, [], ◌∷◌, ◌++◌, map, length, replicate, set, Ok, Err}
use Rattle.std.proofs.Common.{sym, ap, arith}
use Rattle.std.proofs.lemmas.Bool.{false≢true}
use Rattle.model.specs.Jobs.{Job}
use Rattle.model.specs.Dispatch.{Scenario, is_waiting, has_rested, run}
use Rattle.model.specs.States.{range}
use Rattle.model.specs.Exploration.{accepted, late}
use Rattle.model.specs.Exploration.{refused as rejected}
use Rattle.model.specs.Guarantee.{status_at}
use Rattle.model.specs.Playing.{start_time, finish_time}
use Rattle.model.proofs.examples.Marked.{resting, stroke, on_own_bells, phrase_p}
use Rattle.words.specs.Tabulate.{tabulate}
use Rattle.format.specs.Outcome.{Outcome, ok, refused, ◌>>=◌}
use Rattle.format.specs.Reading.{reading}
use Rattle.format.proofs.examples.Files.{file_p}
use Rattle.checking.specs.Checking.{per_job}
use Rattle.checking.proofs.examples.Checks.{version_nine, on_two, late_phrase, no_stroke}
use Rattle.playing.specs.Playing.{scenario_in, scenario_for, Times, played_for, played_of, starts_of, finishes_of, admission_of}
use Rattle.playing.specs.Promise.{RanAs, Inside}

-- ---- bytes

-- a small call moment and a small hold
abbrev pub one : ℕ → ℕ → List ℕ
one call hold = 0x00 ∷ 0x00 ∷ 0x00 ∷ call ∷ 0x00 ∷ hold ∷ []

-- a version, the last byte of the count, and what follows
abbrev pub playing : ℕ → ℕ → List ℕ → List ℕ
playing version count rest = version ∷ 0x00 ∷ 0x00 ∷ 0x00 ∷ count ∷ rest

-- of two strokes
abbrev pub two : ℕ → ℕ → ℕ → ℕ → List ℕ
two call hold call' hold' = playing 0x01 0x0C (one call hold ++ one call' hold')

-- of P: stroke 0 called at 1
abbrev pub playing_p : List ℕ
playing_p = 0x01 ∷ 0x00 ∷ 0x00 ∷ 0x00 ∷ 0x0C ∷ 0x00 ∷ 0x00 ∷ 0x00 ∷ 0x01 ∷ 0x00 ∷ 0x02 ∷ 0x00 ∷ 0x00 ∷ 0x00 ∷ 0x00 ∷ 0x00 ∷ 0x04 ∷ []

-- ---- read or refused

-- the jobs, a playing, and its calls and then its holds that are due, or its refusal
pub record Case : Type 0 where
  pub jobs : List Job
  pub bytes : List ℕ
  pub expected : Outcome (List ℕ)

abbrev values : ℕ → Scenario → List ℕ
values k s = tabulate s.release 0 k ++ tabulate s.execution 0 k

abbrev pub outcome : Case → Outcome (List ℕ)
outcome c = do
  s ← scenario_for c.jobs c.bytes
  ok (values (length c.jobs) s)

abbrev of_p : List ℕ → Outcome (List ℕ) → Case
of_p p x = record { jobs = phrase_p 7; bytes = p; expected = x }

-- two strokes with calls of 3..7 and 20..30, and holds of 10..15 and 40..60
abbrev ranged : List ℕ → Outcome (List ℕ) → Case
ranged p x = record { jobs = on_own_bells (stroke 3 7 10 15 1 ∷ stroke 20 30 40 60 2 ∷ []); bytes = p; expected = x }

-- one with a call and a hold of any bytes
abbrev free : List ℕ → Outcome (List ℕ) → Case
free p x = record { jobs = on_own_bells (stroke 0 4294967295 0 65535 1 ∷ []); bytes = p; expected = x }

abbrev none : List ℕ → Outcome (List ℕ) → Case
none p x = record { jobs = []; bytes = p; expected = x }

abbrev heads : List Case
heads =
    of_p playing_p (ok (1 ∷ 0 ∷ 2 ∷ 4 ∷ []))
    -- no byte, and four
    ∷ of_p [] (refused 17 0)
    ∷ of_p (0x01 ∷ 0x00 ∷ 0x00 ∷ 0x00 ∷ []) (refused 17 0)
    -- versions 0 and 2
    ∷ of_p (set playing_p 0 0x00) (refused 17 0)
    ∷ of_p (set playing_p 0 0x02) (refused 17 0)
    -- counts of 11 and 13, of all bytes, and two that are right in their last byte only
    ∷ of_p (set playing_p 4 0x0B) (refused 17 0)
    ∷ of_p (set playing_p 4 0x0D) (refused 17 0)
    ∷ of_p (set playing_p 4 0x11) (refused 17 0)
    ∷ of_p (set playing_p 3 0x01) (refused 17 0)
    ∷ of_p (set playing_p 1 0x01) (refused 17 0)
    -- one stroke, and three
    ∷ of_p (playing 0x01 0x06 (one 1 2)) (refused 17 0)
    ∷ of_p (playing 0x01 0x12 (one 1 2 ++ one 0 4 ++ one 0 4)) (refused 17 0)
    -- a byte more, counted or not, and a byte less
    ∷ of_p (playing_p ++ 0x00 ∷ []) (refused 17 0)
    ∷ of_p (set playing_p 4 0x0D ++ 0x00 ∷ []) (refused 17 0)
    ∷ of_p (playing 0x01 0x0B (one 1 2 ++ 0x00 ∷ 0x00 ∷ 0x00 ∷ 0x00 ∷ 0x04 ∷ [])) (refused 17 0)
    -- of no stroke: five bytes, and six; four, which count none; a version
    ∷ none (playing 0x01 0x00 []) (ok [])
    ∷ none (playing 0x01 0x01 (0x00 ∷ [])) (refused 17 0)
    ∷ none (0x01 ∷ 0x00 ∷ 0x00 ∷ 0x00 ∷ []) (refused 17 0)
    ∷ none (playing 0x02 0x00 []) (refused 17 0)
    ∷ []

abbrev ranges : List Case
ranges =
    -- each byte of a call and of a hold: 0x01020304 and 0x0506
    free (playing 0x01 0x06 (0x01 ∷ 0x02 ∷ 0x03 ∷ 0x04 ∷ 0x05 ∷ 0x06 ∷ [])) (ok (16909060 ∷ 1286 ∷ []))
    -- the first and the last of each range, and crossed
    ∷ ranged (two 3 10 20 40) (ok (3 ∷ 20 ∷ 10 ∷ 40 ∷ []))
    ∷ ranged (two 7 15 30 60) (ok (7 ∷ 30 ∷ 15 ∷ 60 ∷ []))
    ∷ ranged (two 3 15 30 40) (ok (3 ∷ 30 ∷ 15 ∷ 40 ∷ []))
    -- a call before and after its range, of either stroke
    ∷ ranged (two 2 10 20 40) (refused 18 0)
    ∷ ranged (two 8 10 20 40) (refused 18 0)
    ∷ ranged (two 3 10 19 40) (refused 18 1)
    ∷ ranged (two 3 10 31 40) (refused 18 1)
    -- a hold shorter and longer
    ∷ ranged (two 3 9 20 40) (refused 18 0)
    ∷ ranged (two 3 16 20 40) (refused 18 0)
    ∷ ranged (two 3 10 20 39) (refused 18 1)
    ∷ ranged (two 3 10 20 61) (refused 18 1)
    -- the smaller of two, whether its call or its hold is outside
    ∷ ranged (two 8 10 31 40) (refused 18 0)
    ∷ ranged (two 3 9 19 40) (refused 18 0)
    -- the two of stroke 0 exchanged; and right in their last bytes only
    ∷ ranged (two 10 3 20 40) (refused 18 0)
    ∷ ranged (set (two 3 10 20 40) 5 0x01) (refused 18 0)
    ∷ ranged (set (two 3 10 20 40) 9 0x01) (refused 18 0)
    -- 17 before 18
    ∷ ranged (set (two 2 9 19 39) 0 0x02) (refused 17 0)
    ∷ ranged (playing 0x01 0x06 (one 2 9)) (refused 17 0)
    ∷ []

pub as_read : map outcome (heads ++ ranges) ≡ map (λ (c : Case). c.expected) (heads ++ ranges)
unfolding scenario_for tabulate
as_read = refl

-- what the code answers
pub answers : map (λ (o : Outcome ℕ). admission_of o) (ok 5 ∷ refused 17 0 ∷ refused 18 3 ∷ [])
    ≡ Ok tt ∷ Err (record { number = 17; place = 0 }) ∷ Err (record { number = 18; place = 3 }) ∷ []
answers = refl

-- ---- worked out

-- a file, a playing, and the times that are due
pub record Play : Type 0 where
  pub file : List ℕ
  pub bytes : List ℕ
  pub due : Outcome Times

abbrev play : List ℕ → List ℕ → Outcome Times → Play
play f p x = record { file = f; bytes = p; due = x }

-- of two strokes: start and end of each, and zeros up to 64
abbrev times : ℕ → ℕ → ℕ → ℕ → Outcome Times
times a f a' f' = ok (record { starts = a ∷ a' ∷ replicate 62 0; finishes = f ∷ f' ∷ replicate 62 0 })

abbrev plays : List Play
plays =
    -- stroke 1 runs from 0 until 4, stroke 0 from 4 until 6
    play file_p playing_p (times 4 6 0 4)
    -- stroke 0, called at 0, goes first
    ∷ play file_p (two 0 2 0 4) (times 0 2 2 6)
    -- on two cores neither waits
    ∷ play on_two playing_p (times 1 3 0 4)
    -- stroke 0 is due at 6 and ends at 7: the check refuses the phrase, but it is played
    ∷ play late_phrase (two 5 2 0 4) (times 5 7 0 4)
    -- no stroke
    ∷ play no_stroke (playing 0x01 0x00 []) (ok (record { starts = replicate 64 0; finishes = replicate 64 0 }))
    -- the refusals of reading come first, then 17, then 18
    ∷ play version_nine [] (refused 1 0)
    ∷ play file_p [] (refused 17 0)
    ∷ play file_p (two 6 2 0 4) (refused 18 0)
    ∷ []

pub as_played : map (λ (c : Play). played_of (reading c.file) c.bytes) plays ≡ map (λ (c : Play). c.due) plays
unfolding reading scenario_for start_time finish_time per_job
as_played = refl

-- ---- of bells that rest

-- two strokes of any call and hold up to 9; the second with a rest, a list of waits and a bell
abbrev rest_two : ℕ → List ℕ → ℕ → List Job
rest_two rest listed bell = resting 5 3600000 [] 0 9 1 9 1 7 ∷ resting rest 3600000 listed 0 9 1 9 2 bell ∷ []

-- the jobs, a playing on two cores, and the times that are due
pub record Rested : Type 0 where
  pub jobs : List Job
  pub bytes : List ℕ
  pub due : Outcome Times

abbrev rested : List Job → List ℕ → Outcome Times → Rested
rested js p x = record { jobs = js; bytes = p; due = x }

abbrev rests : List Rested
rests =
    -- stroke 0 ends at 2, and its bell has rested at 5: stroke 1 waits for that, whether it lists stroke 0 too or not
    rested (rest_two 3 [] 7) (two 0 2 1 4) (times 0 2 5 9)
    ∷ rested (rest_two 3 (0 ∷ []) 7) (two 0 2 1 4) (times 0 2 5 9)
    -- called a millisecond before the rest is over, then, and after it
    ∷ rested (rest_two 3 [] 7) (two 0 2 4 4) (times 0 2 5 9)
    ∷ rested (rest_two 3 [] 7) (two 0 2 5 4) (times 0 2 5 9)
    ∷ rested (rest_two 3 [] 7) (two 0 2 6 4) (times 0 2 6 10)
    -- without a rest, and of another bell: with a wait and without
    ∷ rested (rest_two 0 [] 7) (two 0 2 1 4) (times 0 2 2 6)
    ∷ rested (rest_two 3 (0 ∷ []) 8) (two 0 2 1 4) (times 0 2 2 6)
    ∷ rested (rest_two 3 [] 8) (two 0 2 1 4) (times 0 2 1 5)
    ∷ []

pub as_rested : map (λ (c : Rested). played_for c.jobs 2 c.bytes) rests ≡ map (λ (c : Rested). c.due) rests
unfolding scenario_for start_time finish_time per_job
as_rested = refl

-- ---- as they are told

-- the starts and the ends of each are told as they are, and on a refusal as zeros
pub told :
    starts_of (times 4 6 0 4) ∷ finishes_of (times 4 6 0 4) ∷ starts_of (refused 18 3) ∷ finishes_of (refused 18 3) ∷ []
    ≡ (4 ∷ 0 ∷ replicate 62 0) ∷ (6 ∷ 4 ∷ replicate 62 0) ∷ replicate 64 0 ∷ replicate 64 0 ∷ []
told = refl

-- ---- what is promised of them, and times that it rules out

abbrev pub both : ℕ → ℕ → List ℕ
both x y = x ∷ y ∷ []

-- stroke 0 waits at 3, and still runs at 5
pub not_from_three : RanAs (reading file_p) playing_p (both 3 0) (both 6 4) → ⊥
unfolding reading scenario_in run status_at
not_from_three r = false≢true (sym (ap is_waiting (r 0 (omega arith) 3)))

pub not_until_five : RanAs (reading file_p) playing_p (both 4 0) (both 5 4) → ⊥
unfolding reading scenario_in run status_at
not_until_five r = false≢true (ap (has_rested 5 0) (r 0 (omega arith) 5))

-- stroke 1 does not wait at 0
pub not_from_one : RanAs (reading file_p) playing_p (both 4 1) (both 6 4) → ⊥
unfolding reading scenario_in run status_at
not_from_one r = false≢true (ap is_waiting (r 1 (omega arith) 0))

-- of a file that was not read no times are promised
pub unread_not : (n at : ℕ) → RanAs (refused n at) playing_p (both 4 0) (both 6 4) → ⊥
unread_not n at r = r

-- the end of stroke 0 lies below, and above, the bounds; that of stroke 1 above them
pub not_below : Inside (reading file_p) (accepted (range 7 7 ∷ range 4 6 ∷ []) 4) (both 6 4) → ⊥
unfolding reading
not_below p = omega (arith, (p 0 (omega arith)).0)

pub not_above : Inside (reading file_p) (accepted (range 2 5 ∷ range 4 6 ∷ []) 4) (both 6 4) → ⊥
unfolding reading
not_above p = omega (arith, (p 0 (omega arith)).0)

pub not_above_one : Inside (reading file_p) (accepted (range 2 7 ∷ range 4 4 ∷ []) 4) (both 6 5) → ⊥
unfolding reading
not_above_one p = omega (arith, (p 1 (omega arith)).0)

-- stroke 0 is due at 6 and ends at 7, within its bounds
pub not_late : Inside (reading late_phrase) (accepted (range 2 7 ∷ range 4 6 ∷ []) 4) (both 7 4) → ⊥
unfolding reading
not_late p = omega (arith, (p 0 (omega arith)).1)

-- where the check refuses the phrase, any end may come
pub when_late : Inside (reading late_phrase) (late 0 6 7) (both 7 4)
unfolding reading
when_late = tt

pub when_full : Inside (reading file_p) (rejected 13 1) (both 6 4)
unfolding reading
when_full = tt
