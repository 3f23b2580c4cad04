use mathlib.Core.Path.{◌≡◌, ◌∙◌}
use mathlib.Core.List.{[], ◌∷◌}
use native.Mathlib.Omega.{arith}
use Rattle.format.specs.Bytes.{fields_in}
use Rattle.format.specs.Reading.{bell_in}
use Rattle.rows.specs.BellRow.{bell_row}
use Rattle.fields.specs.internal.Layouts.{layout_of}
use Rattle.words.proofs.Placing.{sets_placed, placed_whole}
use Rattle.fields.proofs.bells.write_bell.Goals as goal

pub returns : goal.returns
unfolding bell_row bell_in fields_in
returns c = let wrote = c.byte in
    let transposed = c.byte-2 in
    let least = c.be_16 in
    let most = c.be_16-2 in
    let priority = c.priority_in in
    let rest = c.rest_in in
    let ws = wrote.result ∷ transposed.result ∷ least.result ∷ most.result ∷ priority.result ∷ rest.result ∷ c.args.key ∷ [] in
    let e : ws ≡ bell_row (bell_in (layout_of c.args.l) c.args.part.now) =
    λ i. wrote.ensures.0 i ∷ transposed.ensures.0 i ∷ least.ensures.0 i ∷ most.ensures.0 i ∷ priority.ensures i ∷ rest.ensures i ∷ c.requires.1 i ∷ [] in
    sets_placed c.args.row.now 0 ws (omega (arith, c.requires.2)) ∙ placed_whole c.args.row.now ws c.requires.2 ∙ e
