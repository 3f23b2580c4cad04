-- A text of parts, one after the other in a buffer that has room for all of them. Assumes nothing.
use Prim.Native.Nat.{ℕ}
use mathlib.Core.List.{List, ◌++◌}
use Rattle.text.specs.internal.Written.{Room, Written}
use Rattle.text.proofs.Writing.{within, room_first, more, room_rest}

module _ {b₀ b₁ : List ℕ} {e₀ e₁ : ℕ} {s₁ : List ℕ} where
  -- The second part has room after the first, whatever follows.
  pub room_second : (s₂ rest : List ℕ) → Room b₀ e₀ (s₁ ++ (s₂ ++ rest)) → Written b₀ e₀ s₁ b₁ e₁ → Room b₁ e₁ s₂
  room_second s₂ rest r w₁ = room_first s₂ rest (room_rest (s₂ ++ rest) r w₁)

  module _ {b₂ : List ℕ} {e₂ : ℕ} {s₂ : List ℕ} where
    -- The third has it after these.
    pub room_third : (s₃ rest : List ℕ) → Room b₀ e₀ (s₁ ++ (s₂ ++ (s₃ ++ rest))) → Written b₀ e₀ s₁ b₁ e₁ → Written b₁ e₁ s₂ b₂ e₂ → Room b₂ e₂ s₃
    room_third s₃ rest r w₁ w₂ = room_first s₃ rest (room_rest (s₃ ++ rest) (room_rest (s₂ ++ (s₃ ++ rest)) r w₁) w₂)

    module _ {b₃ : List ℕ} {e₃ : ℕ} {s₃ : List ℕ} where
      -- So has what follows three parts.
      pub room_fourth : (s₄ : List ℕ) → Room b₀ e₀ (s₁ ++ (s₂ ++ (s₃ ++ s₄)))
          → Written b₀ e₀ s₁ b₁ e₁ → Written b₁ e₁ s₂ b₂ e₂ → Written b₂ e₂ s₃ b₃ e₃ → Room b₃ e₃ s₄
      room_fourth s₄ r w₁ w₂ w₃ = room_rest s₄ (room_rest (s₃ ++ s₄) (room_rest (s₂ ++ (s₃ ++ s₄)) r w₁) w₂) w₃

      -- Three parts are the text,
      pub three_parts : Room b₀ e₀ (s₁ ++ (s₂ ++ s₃)) → Written b₀ e₀ s₁ b₁ e₁ → Written b₁ e₁ s₂ b₂ e₂ → Written b₂ e₂ s₃ b₃ e₃
          → Written b₀ e₀ (s₁ ++ (s₂ ++ s₃)) b₃ e₃
      three_parts r w₁ w₂ w₃ = more (within r) w₁ (more (within (room_rest (s₂ ++ s₃) r w₁)) w₂ w₃)

      -- and so are four.
      pub four_parts : {b₄ : List ℕ} {e₄ : ℕ} {s₄ : List ℕ} → Room b₀ e₀ (s₁ ++ (s₂ ++ (s₃ ++ s₄)))
          → Written b₀ e₀ s₁ b₁ e₁ → Written b₁ e₁ s₂ b₂ e₂ → Written b₂ e₂ s₃ b₃ e₃ → Written b₃ e₃ s₄ b₄ e₄
          → Written b₀ e₀ (s₁ ++ (s₂ ++ (s₃ ++ s₄))) b₄ e₄
      four_parts {s₄} r w₁ w₂ w₃ w₄ =
          let r₂ = room_rest (s₂ ++ (s₃ ++ s₄)) r w₁ in
          more (within r) w₁ (more (within r₂) w₂ (more (within (room_rest (s₃ ++ s₄) r₂ w₂)) w₃ w₄))
