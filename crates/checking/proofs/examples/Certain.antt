-- Files of phrases with nothing uncertain, and of others: the verdict on the one run, and a check's in tables with room for one state, or none, worked out
-- by hand. Assumes nothing.
use Rattle.std.specs.Prelude.{ℕ, ◌≡◌, refl, List, [], ◌∷◌, set, replicate}
use Rattle.std.proofs.Common.{◌∙◌, arith}
use Rattle.model.specs.Certain.{run_verdict}
use Rattle.model.specs.Exploration.{Verdict, accepted, refused, late, analysis}
use Rattle.model.specs.States.{range}
use Rattle.model.proofs.examples.Instances.{of_two}
use Rattle.format.specs.Reading.{reading}
use Rattle.format.proofs.examples.Files.{file_p}
use Rattle.checking.specs.Checking.{verdict, per_job, result_of, jobs_read}
use Rattle.checking.specs.Certain.{IsCertain, HasRoom, verdict_on_run, RunDecides, ResultByRun}
use Rattle.checking.specs.declared.Answer.TheVariants.{Accepted}
use Rattle.checking.specs.declared.Checked.{Checked}
use Rattle.checking.proofs.examples.Checks.{Case, lent, dues, given, version_nine}

-- P with stroke 0 called at 0 only, and at 5 only
abbrev pub called_at_zero : List ℕ
called_at_zero = set file_p 31 0x00

abbrev pub called_at_five : List ℕ
called_at_five = set file_p 27 0x05

-- called at 0, and both strike bell 0, which holds for 2; bell 1, which is not struck, holds for 4 to 5
abbrev pub silent_bell : List ℕ
silent_bell = set (set called_at_zero 37 0x3C) 19 0x05

-- called at 0, and bell 0 holds for 2 to 3
abbrev pub longer_hold : List ℕ
longer_hold = set called_at_zero 12 0x03

-- ---- the verdict on the run, and that of a check in a table of 2 * W = 16 words, so with room for one state

abbrev pub certain : List (Case Verdict)
certain =
    -- stroke 0 holds until 2, then stroke 1 until 6, when it is due
    lent called_at_zero 16 (accepted (range 2 2 ∷ range 6 6 ∷ []) 3)
    -- due at 5, it is late
    ∷ lent (set called_at_zero 49 0x05) 16 (late 1 6 6)
    -- stroke 1 holds until 4, stroke 0 from 5 to 7, when it is due
    ∷ lent called_at_five 16 (accepted (range 7 7 ∷ range 4 4 ∷ []) 3)
    -- due at 6, it is late; if stroke 1 is due at 3, that is late too, and starts first
    ∷ lent (set called_at_five 35 0x06) 16 (late 0 7 7)
    ∷ lent (set (set called_at_five 35 0x06) 49 0x03) 16 (late 1 4 4)
    -- stroke 1 waits for its bell until 2, and holds for 2
    ∷ lent silent_bell 16 (accepted (range 2 2 ∷ range 4 4 ∷ []) 3)
    ∷ []

pub on_the_run_holds : given (λ o words. verdict_on_run o) certain ≡ dues certain
unfolding reading run_verdict
on_the_run_holds = refl

pub as_checked : given verdict certain ≡ dues certain
unfolding reading analysis
as_checked = refl

-- the whole result of the first: each end twice; calls are at 0, so responses are the ends
abbrev on_the_run : Checked
on_the_run =
    record {
      answer = Accepted;
      jobs = 2;
      earliest = 2 ∷ 6 ∷ replicate 62 0;
      latest = 2 ∷ 6 ∷ replicate 62 0;
      best = 2 ∷ 6 ∷ replicate 62 0;
      worst = 2 ∷ 6 ∷ replicate 62 0;
      states = 3;
    }

pub by_run : result_of (jobs_read (reading called_at_zero)) (verdict_on_run (reading called_at_zero)) ≡ on_the_run
unfolding reading run_verdict per_job
by_run = refl

-- ---- what is certain, and what is not

pub called_at_zero_holds : IsCertain (reading called_at_zero)
unfolding reading
called_at_zero_holds = record { releases = of_two _ refl refl; executions = of_two _ refl refl }

-- whatever a bell holds that no stroke strikes
pub silent_bell_holds : IsCertain (reading silent_bell)
unfolding reading
silent_bell_holds = record { releases = of_two _ refl refl; executions = of_two _ refl refl }

pub call_uncertain : IsCertain (reading file_p) → ⊥
unfolding reading
call_uncertain c = omega (arith, c.releases 0 (omega arith))

pub hold_uncertain : IsCertain (reading longer_hold) → ⊥
unfolding reading
hold_uncertain c = omega (arith, c.executions 0 (omega arith))

pub unread_uncertain : IsCertain (reading version_nine) → ⊥
unfolding reading
unread_uncertain c = c

-- ---- room

pub room : HasRoom (reading called_at_zero) 16
unfolding reading
room = omega arith

pub no_room : HasRoom (reading called_at_zero) 15 → ⊥
unfolding reading
no_room h = omega arith

-- without it a certain phrase gets 13
pub without_room : verdict (reading called_at_zero) 15 ≡ refused 13 0
unfolding reading analysis
without_room = refl

-- ---- what is said of a result

-- with nothing uncertain and room for a state it is the one above
pub told_by_run : (r : Checked) → ResultByRun (reading called_at_zero) 16 r → r ≡ on_the_run
told_by_run r x = (x called_at_zero_holds room).1 ∙ by_run

-- with room for one state P gets 13, so its run does not decide it
pub undecided : RunDecides (reading file_p) 31 → ⊥
unfolding reading analysis run_verdict
undecided d = let z : ◌≡◌ {A = ℕ} 0 1 = let p = d.verdict in cc in omega arith
