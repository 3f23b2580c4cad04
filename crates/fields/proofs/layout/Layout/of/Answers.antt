-- The rows of the whole table are computed.
use mathlib.Core.Path.{refl}
use native.Mathlib.Omega.{arith}
use lib.ListN.{get_or-map}
use Rattle.std.proofs.lemmas.List.{get_or_default}
use Rattle.format.specs.Layout.{is_version, layout, versions, first}
use Rattle.format.proofs.Passed.{within_true}
use Rattle.fields.specs.internal.Layouts.{layout_of}
use Rattle.fields.proofs.layout.Layout.of.Goals as goal

pub overflow_sub-result : goal.overflow_sub-result
unfolding is_version
overflow_sub-result c = omega (arith, within_true 1 3 c.args.version c.requires)

pub bounds-version : goal.bounds-version
unfolding is_version
bounds-version c = omega (arith, within_true 1 3 c.args.version c.requires)

pub listed : goal.listed
unfolding is_version
listed c = omega (arith, within_true 1 3 c.args.version c.requires)

pub invariant_of-result : goal.invariant_of-result
invariant_of-result c = record { shift_fits = omega arith; rest_fits = λ h. absurd (h refl) }

pub returns : goal.returns
unfolding layout is_version
returns c = rw (← get_or-map layout_of) (get_or_default versions _ _ first (omega (arith, within_true 1 3 c.args.version c.requires)))
