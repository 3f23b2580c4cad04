-- A list written over a part of another. Assumes nothing.
use Rattle.std.specs.Prelude.{ℕ, ◌+◌, List, ◌++◌, length, take, drop}

-- t, with ws in the place of its elements from `at` on
unfoldable pub placed : List ℕ → ℕ → List ℕ → List ℕ
placed t at ws = take at t ++ (ws ++ drop (at + length ws) t)
