-- The loop keeps: the places of the first i marks are listed.
use mathlib.Core.Path.{◌≡◌, sym, ◌∙◌}
use Prim.Native.Nat.{◌*◌}
use native.Mathlib.Omega.{arith}
use lib.ListN.{length-set}
use lib.ListN.{length-set}
use lib.ListN.{length-set}
use Rattle.search.proofs.Steps.{places_none, places_next}
use Rattle.search.proofs.list_places.Goals as goal

pub loop-i-init : goal.loop-i-init
loop-i-init c = (omega arith, places_none _ _ c.requires.2)

pub bounds-places-i : goal.bounds-places-i
bounds-places-i c = omega (arith, c.loop-i.invariant.1.sized)

pub bounds-places-i-in-loop-i : goal.bounds-places-i-in-loop-i
bounds-places-i-in-loop-i c = omega (arith, c.loop-i.invariant.1.sized, length-set c.loop-i.places (2 * c.loop-i.i) c.place_of-p.result.east)

pub loop-i-preserved : goal.loop-i-preserved
loop-i-preserved c = (omega arith, places_next _ _ _ _ _ c.loop-i-test.true c.loop-i.invariant.1 c.place_of-p.ensures)

pub shape_of-places : goal.shape_of-places
shape_of-places c = c.loop-i.invariant.1.sized ∙ sym c.requires.2

pub returns : goal.returns
returns c = let q : c.loop-i.i ≡ 240 = omega arith in rw q at c.loop-i.invariant.1
