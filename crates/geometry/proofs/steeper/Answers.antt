-- `geometry::steeper` meets its contract: a product of two numbers of at most 2,200,000,000 fits.
use lib.Dec.{lit<, lit≤}
use mir.ValLaws.{to_z-of_z}
use Rattle.geometry.proofs.Bound.{within_mul, within_fits}
use Rattle.geometry.proofs.steeper.Goals as goal

pub returns : goal.returns
returns c =
    let fx = c.ranges.x in
    let fy = c.ranges.y in
    let fl = c.ranges.l in
    let fr = c.ranges.r in
    let xr = within_fits (within_mul 4840000000000000000 c.requires.0 c.requires.3 (lit≤ tt)) (lit< tt) in
    let ly = within_fits (within_mul 4840000000000000000 c.requires.2 c.requires.1 (lit≤ tt)) (lit< tt) in
    simp to_z-of_z
