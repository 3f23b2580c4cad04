-- Words that begin with a copy of a state's words are that state. Assumes nothing.
use Prim.Native.Nat.{ℕ, ◌≤◌}
use mathlib.Core.Path.{◌≡◌, sym, ap, ◌∙◌}
use mathlib.Core.List.{List, ◌++◌}
use lib.ListN.{length, take}
use lib.Seq.{length-take-le, take_at}
use Rattle.model.specs.Exploration.{state_words}
use Rattle.states.specs.internal.Slots.{set_of, state_of}
use Rattle.states.proofs.Frames.{take_set, take_state}

module _ (m k : ℕ) (cur ys rest : List ℕ) (long : state_words m k ≤ length cur) (copy : ys ≡ take (state_words m k) cur) where
  copy_length : length ys ≡ state_words m k
  copy_length = ap length copy ∙ length-take-le (state_words m k) cur long

  front : take (state_words m k) (ys ++ rest) ≡ take (state_words m k) cur
  front = take_at ys rest (state_words m k) copy_length ∙ copy

  -- the copy is the same state
  pub copied_state : state_of m k (ys ++ rest) ≡ state_of m k cur
  copied_state = sym (take_state m k (ys ++ rest)) ∙ ap (state_of m k) front ∙ take_state m k cur

  -- and has the same set
  pub copied_set : set_of (ys ++ rest) ≡ set_of cur
  copied_set = sym (take_set m k (ys ++ rest)) ∙ ap set_of front ∙ take_set m k cur
