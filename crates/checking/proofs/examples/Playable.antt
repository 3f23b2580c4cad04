-- Phrases that are not playable, worked out by hand. Assumes nothing.
use Rattle.std.specs.Prelude.{ℕ, [], ◌∷◌}
use Rattle.model.specs.States.{range}
use Rattle.model.specs.Exploration.{accepted, refused, late}
use Rattle.model.specs.Exploration.{Verdict}
use Rattle.model.proofs.examples.Instances.{later, later_admissible, not_from_seven, not_until_five}
use Rattle.format.specs.Phrase.{Phrase}
use Rattle.format.specs.Outcome.{ok}
use Rattle.format.specs.Reading.{reading}
use Rattle.format.specs.Outcome.{refused as unread}
use Rattle.format.proofs.examples.Files.{file_p}
use Rattle.checking.specs.Checking.{Playable}

-- a file that was not read, whatever the verdict
pub unread_not : (n at : ℕ) (v : Verdict) → Playable (unread n at) v → ⊥
unread_not n at v p = p

-- a phrase whose level is full, and one with a late stroke
pub full_not : (x : Phrase) (n at : ℕ) → Playable (ok x) (refused n at) → ⊥
full_not x n at p = p

pub late_not : (x : Phrase) (i e f : ℕ) → Playable (ok x) (late i e f) → ⊥
late_not x i e f p = p

-- P with bounds of stroke 0 that leave out its finish time 6, below and above: some run of it does not keep them
pub narrow_below_not : Playable (reading file_p) (accepted (range 7 7 ∷ range 4 6 ∷ []) 4) → ⊥
unfolding reading
narrow_below_not p = not_from_seven (p later later_admissible)

pub narrow_above_not : Playable (reading file_p) (accepted (range 2 5 ∷ range 4 6 ∷ []) 4) → ⊥
unfolding reading
narrow_above_not p = not_until_five (p later later_admissible)
