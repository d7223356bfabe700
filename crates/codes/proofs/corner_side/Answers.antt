use Rattle.geometry.specs.Words.{point_of}
use Rattle.codes.proofs.corner_side.Goals as goal

pub returns : goal.returns
returns c =
    let v = c.corner in
    record { place = point_of v.result; east = v.ensures.0; north = v.ensures.1; side = c.side_of.ensures }
