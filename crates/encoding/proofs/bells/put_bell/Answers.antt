use Prim.Native.Nat.{◌+◌}
use mathlib.Core.Path.{◌≡◌, sym, ap, ◌∙◌}
use mathlib.Core.List.{[], ◌∷◌}
use Rattle.fields.proofs.Sizes.{sized}
use Rattle.words.specs.internal.Placed.{placed}
use Rattle.format.specs.Bytes.{digits}
use Rattle.format.specs.Layout.{bell_widths}
use Rattle.format.specs.Writing.{bell_fields, bell_file}
use Rattle.format.proofs.Layouts.{bell_total_holds}
use Rattle.fields.specs.internal.Layouts.{layout_of}
use Rattle.fields.proofs.Rests.{rest_at, two}
use Rattle.rows.specs.BellRow.{bell_of_row}
use Rattle.encoding.proofs.Fields.{puts, puts_whole}
use Rattle.encoding.proofs.Versioned.{none_put, some_put}
use Rattle.encoding.proofs.bells.put_bell.Goals as goal
use Rattle.encoding.proofs.bells.put_bell.Goals.{Joined-l-ne0, then-l-ne0, else-l-ne0}

-- after the branch the rest is in the bytes that it has
rested : (c : Joined-l-ne0) → c.if-l-ne0.part ≡ placed c.put_16-2.new.part rest_at (digits c.args.l.rest (bell_of_row c.args.row.now).rest)
rested c =
    let a = c.args in
    let t = c.put_16-2.new.part in
    elim c.if-l-ne0.branch [
      | then-l-ne0 w ↦ w.part-is ∙ w.put_16-then-l-ne0.ensures ∙ some_put t rest_at (bell_of_row c.args.row.now).rest a.l.rest 2 (two a.l (sized c.args.l) w.if-l-ne0.true)
      | else-l-ne0 w ↦ w.part-is ∙ none_put t rest_at (bell_of_row c.args.row.now).rest a.l.rest w.if-l-ne0.false
    ]

pub returns : goal.returns
unfolding bell_file
returns c = let a = c.args in
    let s = a.part.now in
    let b = (bell_of_row c.args.row.now) in
    let ws = bell_widths (layout_of a.l) in
    let four : c.put_16-2.new.part ≡ puts s 0 (1 ∷ 1 ∷ 2 ∷ 2 ∷ []) (b.written ∷ b.transposition ∷ b.least_execution ∷ b.most_execution ∷ []) =
    c.put_16-2.ensures
    ∙ ap (λ u. placed u 4 (digits 2 b.most_execution))
    (c.put_16.ensures
    ∙ ap (λ u. placed u 2 (digits 2 b.least_execution)) (c.put_8-2.ensures ∙ ap (λ u. placed u 1 (digits 1 b.transposition)) c.put_8.ensures)) in
    let e : c.put_8-3.new.part ≡ puts s 0 ws (bell_fields b) =
    c.put_8-3.ensures
    ∙ ap (λ u. placed u (rest_at + a.l.rest) (digits 1 b.priority))
    (rested (goal.at.returns c).Joined-l-ne0 ∙ ap (λ u. placed u rest_at (digits a.l.rest b.rest)) four) in
    e ∙ puts_whole ws (bell_fields b) c.requires.2 s (c.requires.1 ∙ sym (bell_total_holds (layout_of a.l)))
