use Prim.Native.Nat.{◌-◌}
use mathlib.Core.Path.{◌≡◌, sym, ap, ◌∙◌}
use mathlib.Core.List.{[], ◌∷◌}
use native.Mathlib.Omega.{arith}
use Rattle.fields.proofs.Sizes.{sized}
use Rattle.words.specs.internal.Placed.{placed}
use Rattle.format.specs.Bytes.{digits}
use Rattle.format.specs.Layout.{uncounted_bytes, byte_count_at, cores_at, shift_at, head_widths}
use Rattle.format.specs.Fits.{FieldsFit}
use Rattle.format.proofs.Layouts.{head_total}
use Rattle.fields.specs.internal.Layouts.{layout_of}
use Rattle.fields.proofs.Shifts.{one}
use Rattle.encoding.proofs.Fields.{puts, puts_whole}
use Rattle.encoding.proofs.Versioned.{none_put, some_put}
use Rattle.encoding.proofs.head.put_head.Goals as goal
use Rattle.encoding.proofs.head.put_head.Goals.{Joined-l-ne0, then-l-ne0, else-l-ne0}

-- after the branch the shift is in the bytes that it has
shifted : (c : Joined-l-ne0) → c.if-l-ne0.part ≡ placed c.put_8-2.new.part shift_at (digits c.args.l.shift c.args.shift)
shifted c =
    let a = c.args in
    let t = c.put_8-2.new.part in
    elim c.if-l-ne0.branch [
      | then-l-ne0 w ↦ w.part-is ∙ w.put_8-then-l-ne0.ensures ∙ some_put t shift_at a.shift a.l.shift 1 (one a.l (sized c.args.l) w.if-l-ne0.true)
      | else-l-ne0 w ↦ w.part-is ∙ none_put t shift_at a.shift a.l.shift w.if-l-ne0.false
    ]

pub returns : goal.returns
returns c = let a = c.args in
    let t = a.part.now in
    let ws = head_widths (layout_of a.l) in
    let vs = a.version ∷ (a.size - uncounted_bytes) ∷ a.cores ∷ a.shift ∷ a.bells ∷ [] in
    let three : c.put_8-2.new.part ≡ puts t 0 (1 ∷ 4 ∷ 1 ∷ []) (a.version ∷ (a.size - uncounted_bytes) ∷ a.cores ∷ []) =
    c.put_8-2.ensures
    ∙ ap (λ u. placed u cores_at (digits 1 a.cores))
    (c.put_32.ensures ∙ ap (λ u. placed u byte_count_at (digits 4 (a.size - uncounted_bytes))) c.put_8.ensures) in
    let four : c.if-l-ne0.part ≡ _ = shifted (goal.at.returns c).Joined-l-ne0 ∙ ap (λ u. placed u shift_at (digits a.l.shift a.shift)) three in
    let e : c.put_8-3.new.part ≡ puts t 0 ws vs =
    c.put_8-3.ensures ∙ (λ i. placed (four i) (c.bell_count_at.ensures i) (digits 1 a.bells)) in
    let f : FieldsFit ws vs = (c.requires.1, (omega arith, (c.requires.3, (c.requires.4, (c.requires.5, tt))))) in
    e ∙ puts_whole ws vs f t (c.requires.0 ∙ sym (head_total (layout_of a.l)))
