-- What is heard of a phrase, and a phrase written with a shift so that the same is heard. Assumes nothing.
use Rattle.std.specs.Prelude.{ℕ, ◌-◌, ◌%◌, max, ◌≤◌, ◌<◌, List, map}
use Rattle.format.specs.Phrase.{Note, Phrase, transposed}
use Rattle.format.specs.Fits.{All}

-- a note with its key moved by a signed byte, all else the same
abbrev pub moved : ℕ → Note → Note
moved t n =
    record {
      key = transposed n.key t;
      earliest_release = n.earliest_release;
      latest_release = n.latest_release;
      deadline = n.deadline;
      listed = n.listed;
    }

-- The notes as they are heard: their keys are moved by the shift.
abbrev pub heard : Phrase → List Note
heard x = map (moved x.shift) x.notes

-- ---- the same with another shift

-- The opposite of a signed byte: 0 of 0, and 4 and 252 (which is -4) of each other.
abbrev pub opposite : ℕ → ℕ
opposite t = (256 - t) % 256

-- The phrase with a shift, every key as written moved the other way, and all else the same; of version 2 where its own has no shift.
abbrev pub shifted_by : ℕ → Phrase → Phrase
shifted_by t x =
    record {
      version = max 2 x.version;
      cores = x.cores;
      shift = t;
      bells = x.bells;
      notes = map (moved (opposite t)) x.notes;
    }

-- No key falls below zero by that: a shift up writes the keys lower, and a shift down (128 and more, as a byte) writes them higher.
abbrev pub Movable : ℕ → Phrase → Type 0
Movable t x = t < 128 → All (λ n. t ≤ n.key) x.notes
