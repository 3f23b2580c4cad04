-- The sizes of a layout. Assumes nothing.
use Rattle.std.specs.Prelude.{◌<◌, ◌≤◌, ◌^◌, ◌≡◌, ◌⊎◌}
use Rattle.format.specs.Layout.{Layout}

-- What every row of the versions keeps to, and all that the proofs know of a layout.
pub record Sized (l : Layout) : Type 0 where
  pub shift : l.shift_bytes ≤ 1
  pub rest : (l.rest_bytes ≡ 0) ⊎ (l.rest_bytes ≡ 2)
  pub count : (1 ≤ l.count_bytes) × (l.count_bytes ≤ 2) × (l.most_notes < 256 ^ l.count_bytes)
  pub listed : (1 ≤ l.listed_bytes) × (l.listed_bytes ≤ 2) × (l.most_notes ≤ 256 ^ l.listed_bytes)
  pub notes : l.most_notes ≤ 256
