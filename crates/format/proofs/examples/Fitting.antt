-- Phrases whose fields fit their bytes, and phrases of which one does not. Assumes nothing.
use Rattle.std.specs.Prelude.{[], ◌∷◌}
use Rattle.std.proofs.Common.{arith}
use Rattle.format.specs.Layout.{layout, note_length}
use Rattle.format.specs.Fits.{All, Fits}
use Rattle.format.specs.Writing.{body}
use Rattle.format.proofs.examples.Files.{bell, note, bell0, bell1, note0, phrase_p, noted, belled}
use Rattle.format.proofs.examples.Shifts.{shifted}
use Rattle.format.proofs.examples.Rests.{early}

-- ---- P fits, and so does a phrase that the rules refuse: out of range, but not too wide

pub p_fits : Fits phrase_p
unfolding layout body All note_length
p_fits =
    record {
      head = (omega arith, (omega arith, (omega arith, (omega arith, (omega arith, tt)))));
      bells = (
        (omega arith, (omega arith, (omega arith, (omega arith, (omega arith, (omega arith, tt)))))),
        ((omega arith, (omega arith, (omega arith, (omega arith, (omega arith, (omega arith, tt)))))), tt),
      );
      count = omega arith;
      notes = (
        (omega arith, (omega arith, (omega arith, (omega arith, (omega arith, tt))))),
        ((omega arith, (omega arith, (omega arith, (omega arith, (omega arith, tt))))), tt),
      );
    }

-- ---- a field that is one too wide: the rank and the hold of a bell, the key of a note, the due time, and a wait

pub wide_rank : Fits (belled (bell 60 0 2 2 256 ∷ bell1 ∷ [])) → ⊥
unfolding All
wide_rank f = omega (arith, f.bells.0.1.1.1.1.1.0)

pub wide_hold : Fits (belled (bell0 ∷ bell 62 12 4 65536 2 ∷ [])) → ⊥
unfolding All
wide_hold f = omega (arith, f.bells.1.0.1.1.1.0)

pub wide_key : Fits (noted (note 256 0 5 7 [] ∷ [])) → ⊥
unfolding All
wide_key f = omega (arith, f.notes.0.1.0)

pub wide_due : Fits (noted (note 60 0 5 4294967296 [] ∷ [])) → ⊥
unfolding All
wide_due f = omega (arith, f.notes.0.1.1.1.1.0)

pub wide_wait : Fits (noted (note0 ∷ note 60 0 5 7 (256 ∷ []) ∷ [])) → ⊥
unfolding All layout
wide_wait f = omega (arith, f.notes.1.0.1.1.1.1.1.0)

-- ---- the shift: any byte fits in version 2, also one that the rules refuse; where the version has no byte for it, only 0 does

pub far_shift : Fits (shifted 2 128 [])
unfolding layout body All
far_shift =
    record {
      head = (omega arith, (omega arith, (omega arith, (omega arith, (omega arith, tt)))));
      bells = (
        (omega arith, (omega arith, (omega arith, (omega arith, (omega arith, (omega arith, tt)))))),
        ((omega arith, (omega arith, (omega arith, (omega arith, (omega arith, (omega arith, tt)))))), tt),
      );
      count = omega arith;
      notes = tt;
    }

pub wide_shift : Fits (shifted 2 256 []) → ⊥
unfolding layout
wide_shift f = omega (arith, f.head.1.1.1.0)

pub first_shifted : Fits (shifted 1 1 []) → ⊥
unfolding layout
first_shifted f = omega (arith, f.head.1.1.1.0)

-- ---- the rest: two bytes fit in version 3, also 65535, which the rules refuse; where the version has no bytes for it, only 0 does

pub far_rest : Fits (early 3 65535)
unfolding layout body All
far_rest =
    record {
      head = (omega arith, (omega arith, (omega arith, (omega arith, (omega arith, tt)))));
      bells = (
        (omega arith, (omega arith, (omega arith, (omega arith, (omega arith, (omega arith, tt)))))),
        ((omega arith, (omega arith, (omega arith, (omega arith, (omega arith, (omega arith, tt)))))), tt),
      );
      count = omega arith;
      notes = tt;
    }

pub wide_rest : Fits (early 3 65536) → ⊥
unfolding layout All
wide_rest f = omega (arith, f.bells.0.1.1.1.1.0)

pub second_rested : Fits (early 2 1) → ⊥
unfolding layout All
second_rested f = omega (arith, f.bells.0.1.1.1.1.0)
