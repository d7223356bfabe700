use mathlib.Core.Path.{refl, ◌∙◌}
use lib.IntN.{◌-ℤ◌}
use mir.Syntax.{w32}
use mir.ValLaws.{to_z-of_z}
use lib.Dec.{lit<, lit≤}
use Rattle.geometry.proofs.Bound.{within_sub}
use Rattle.code_table.proofs.Narrow.{read, within_fits}
use Rattle.code_table.proofs.across.Goals as goal

pub returns : goal.returns
returns c =
    rw (read {z = c.times.result} c.times.type_inv refl, read {z = c.times-2.result} c.times-2.type_inv refl)
    (to_z-of_z w32 (c.times.result -ℤ c.times-2.result) (within_fits (within_sub 2147352578 c.times.ensures.small c.times-2.ensures.small (lit≤ tt)) (lit< tt))
    ∙ rw (c.times.ensures.value, c.times-2.ensures.value, to_z-of_z w32 c.args.east c.ranges.east, to_z-of_z w32 c.args.north c.ranges.north) refl)
