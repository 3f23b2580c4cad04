-- A part of a list. Assumes nothing.
use Rattle.std.specs.Prelude.{ℕ, List, take, drop}

-- the m elements from b on
abbrev pub part : ℕ → ℕ → List ℕ → List ℕ
part b m xs = take m (drop b xs)
