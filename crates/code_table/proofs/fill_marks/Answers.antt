-- The loop keeps: the places of the marks below i are there.
use mathlib.Core.Path.{ap}
use Rattle.geometry.specs.Words.{Point}
use Rattle.code_table.proofs.Rows.{upto_next, places_all}
use Rattle.code_table.proofs.fill_marks.Goals as goal

pub loop-i-preserved : goal.loop-i-preserved
loop-i-preserved c =
    let i = c.loop-i.invariant in
    (upto_next _ _ _ _ _ c.loop-i-test.true (ap (λ (p : Point). p.east) c.place_of-p.ensures) i.0, upto_next _ _ _ _ _ c.loop-i-test.true (ap (λ (p : Point). p.north) c.place_of-p.ensures) i.1)

pub returns : goal.returns
returns c = search places_all
