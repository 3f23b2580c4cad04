use mathlib.Core.Path.{sym, ap, ◌∙◌}
use mathlib.Core.List.{[], ◌∷◌}
use native.Mathlib.Omega.{arith}
use Rattle.words.specs.internal.Placed.{placed}
use Rattle.words.proofs.Placing.{sets_placed}
use Rattle.encoding.proofs.ByBytes.{digits_one}
use Rattle.encoding.proofs.numbers.put_8.Goals as goal

pub returns : goal.returns
returns c = let a = c.args in
    let t = a.part.now in
    sets_placed t a.at (a.x ∷ []) (omega arith) ∙ ap (placed t a.at) (sym (digits_one a.x c.requires.1))
