-- Phrases that are valid and that are not. `Valid` is a statement, so each stands by itself. Assumes nothing.
use Rattle.std.specs.Prelude.{ℕ, ◌≡◌, refl, true, false, List, [], ◌∷◌, replicate}
use Rattle.std.proofs.Math.Option.{none, some}
use Rattle.std.proofs.Common.{arith}
use Rattle.format.specs.Layout.{is_version, layout}
use Rattle.format.specs.Phrase.{Bell, sounding, Note, Phrase, find_from}
use Rattle.format.specs.Rules.{is_shift, bell_in_range, are_times, rises}
use Rattle.format.specs.Valid.{Each, Valid}
use Rattle.format.proofs.examples.Files.{bell, resting, note, bell0, bell1, note0, phrase_q}
use Rattle.format.proofs.examples.Shifts.{phrase_s}
use Rattle.format.proofs.examples.Rests.{phrase_r}

abbrev sounding_for : ℕ → ℕ → ℕ
sounding_for n t = sounding (bell n t 1 1 0)

-- 62 with 12, 127, -12 and -1; 12 with -12, and with -13, which is below zero
pub sounding_keys :
    sounding_for 62 12 ∷ sounding_for 62 127 ∷ sounding_for 62 244 ∷ sounding_for 62 255 ∷ sounding_for 12 244 ∷ sounding_for 12 243 ∷ []
    ≡ 74 ∷ 189 ∷ 50 ∷ 61 ∷ 0 ∷ 0 ∷ []
unfolding sounding
sounding_keys = refl

-- four notes, of which 0, 2 and 3 strike bell 0
pub q_valid : Valid phrase_q
unfolding is_version layout is_shift Each bell_in_range find_from are_times rises
q_valid =
    record {
      version = refl;
      fields = record {
        cores = omega arith;
        shift = refl;
        bell_count = omega arith;
        bells = (record { in_range = refl; alone = refl }, (record { in_range = refl; alone = refl }, tt));
        note_count = omega arith;
        notes = (
          record { sounds = refl; times = refl; few = omega arith; rising = refl },
          (
            record { sounds = refl; times = refl; few = omega arith; rising = refl },
            (
              record { sounds = refl; times = refl; few = omega arith; rising = refl },
              (record { sounds = refl; times = refl; few = omega arith; rising = refl }, tt),
            ),
          ),
        );
      };
    }

-- keys of 64 and 78, which the shift of -4 moves to those of the bells
pub s_valid : Valid phrase_s
unfolding is_version layout is_shift Each bell_in_range find_from are_times rises
s_valid =
    record {
      version = refl;
      fields = record {
        cores = omega arith;
        shift = refl;
        bell_count = omega arith;
        bells = (record { in_range = refl; alone = refl }, (record { in_range = refl; alone = refl }, tt));
        note_count = omega arith;
        notes = (
          record { sounds = refl; times = refl; few = omega arith; rising = refl },
          (record { sounds = refl; times = refl; few = omega arith; rising = refl }, tt),
        );
      };
    }

-- rests of 300 and 5000 in version 3
pub r_valid : Valid phrase_r
unfolding is_version layout is_shift Each bell_in_range find_from are_times rises
r_valid =
    record {
      version = refl;
      fields = record {
        cores = omega arith;
        shift = refl;
        bell_count = omega arith;
        bells = (record { in_range = refl; alone = refl }, (record { in_range = refl; alone = refl }, tt));
        note_count = omega arith;
        notes = (
          record { sounds = refl; times = refl; few = omega arith; rising = refl },
          (record { sounds = refl; times = refl; few = omega arith; rising = refl }, tt),
        );
      };
    }

-- a phrase of a version, on so many cores, with a shift
abbrev phrase_on : ℕ → ℕ → ℕ → List Bell → List Note → Phrase
phrase_on v m t bells notes = record { version = v; cores = m; shift = t; bells = bells; notes = notes }

abbrev two : List Bell
two = bell0 ∷ bell1 ∷ []

-- there is no version 4
pub fourth_version : Valid (phrase_on 4 1 0 two []) → ⊥
unfolding is_version
fourth_version v = absurd (let e : false ≡ true = v.version in let z : ◌≡◌ {A = ℕ} 0 1 = cc in omega arith)

-- no core, and nine
pub no_core : Valid (phrase_on 1 0 0 two []) → ⊥
no_core v = omega (arith, v.fields.cores)

pub nine_cores : Valid (phrase_on 1 9 0 two []) → ⊥
nine_cores v = omega (arith, v.fields.cores)

-- a shift in version 1, and one of 25
pub first_shifted : Valid (phrase_on 1 1 4 two []) → ⊥
unfolding layout is_shift
first_shifted v = absurd (let e : false ≡ true = v.fields.shift in let z : ◌≡◌ {A = ℕ} 0 1 = cc in omega arith)

pub far_shifted : Valid (phrase_on 2 1 25 two []) → ⊥
unfolding layout is_shift
far_shifted v = absurd (let e : false ≡ true = v.fields.shift in let z : ◌≡◌ {A = ℕ} 0 1 = cc in omega arith)

-- a rest in version 2, and one of 5001
pub second_rested : Valid (phrase_on 2 1 0 (bell0 ∷ resting 1 bell1 ∷ []) []) → ⊥
unfolding layout Each bell_in_range
second_rested v = absurd (let e : false ≡ true = v.fields.bells.1.0.in_range in let z : ◌≡◌ {A = ℕ} 0 1 = cc in omega arith)

pub long_rested : Valid (phrase_on 3 1 0 (resting 5001 bell0 ∷ []) []) → ⊥
unfolding layout Each bell_in_range
long_rested v = absurd (let e : false ≡ true = v.fields.bells.0.in_range in let z : ◌≡◌ {A = ℕ} 0 1 = cc in omega arith)

-- no bell, and 97
pub no_bell_holds : Valid (phrase_on 1 1 0 [] []) → ⊥
no_bell_holds v = omega (arith, v.fields.bell_count)

pub many_bells : Valid (phrase_on 1 1 0 (replicate 97 bell0) []) → ⊥
many_bells v = omega (arith, v.fields.bell_count)

-- 65 notes
pub many_notes : Valid (phrase_on 1 1 0 two (replicate 65 note0)) → ⊥
unfolding layout
many_notes v = omega (arith, v.fields.note_count)

-- two bells that sound for one key
pub one_key : Valid (phrase_on 1 1 0 (bell 60 2 2 2 1 ∷ bell 62 0 4 4 2 ∷ []) []) → ⊥
unfolding Each find_from
one_key v = absurd (let e : some 0 ≡ none = v.fields.bells.1.0.alone in let z : ◌≡◌ {A = ℕ} 0 1 = cc in omega arith)

-- a note that no bell sounds for
pub no_sound : Valid (phrase_on 1 1 0 two (note 62 0 0 6 [] ∷ [])) → ⊥
unfolding Each find_from
no_sound v = absurd (let e : false ≡ true = v.fields.notes.0.sounds in let z : ◌≡◌ {A = ℕ} 0 1 = cc in omega arith)

-- the key of a bell, which the shift moves away
pub moved_away : Valid (phrase_on 2 1 252 two (note 60 0 5 7 [] ∷ [])) → ⊥
unfolding Each find_from
moved_away v = absurd (let e : false ≡ true = v.fields.notes.0.sounds in let z : ◌≡◌ {A = ℕ} 0 1 = cc in omega arith)

-- a note that lists itself, and one that lists five
pub lists_itself : Valid (phrase_on 1 1 0 two (note 60 0 5 7 (0 ∷ []) ∷ [])) → ⊥
unfolding Each rises
lists_itself v = absurd (let e : false ≡ true = v.fields.notes.0.rising in let z : ◌≡◌ {A = ℕ} 0 1 = cc in omega arith)

pub lists_five : Valid (phrase_on 1 1 0 two (note 60 0 5 7 (0 ∷ 1 ∷ 2 ∷ 3 ∷ 4 ∷ []) ∷ [])) → ⊥
unfolding Each
lists_five v = omega (arith, v.fields.notes.0.few)
