use native.Mathlib.Omega.{arith}
use Rattle.geometry.specs.Words.{point_of}
use Rattle.geometry.proofs.Bound.{read}
use Rattle.geometry.proofs.Corners.{corner_read, corner_in_range}
use Rattle.neighbours.proofs.Answers.{solid_told}
use Rattle.neighbours.proofs.is_solid.Goals as goal

pub side-requires : goal.side-requires
side-requires c =
    let e = corner_read c.args.words.now (point_of c.corner.result) 2 (omega arith) c.corner.ensures.0 c.corner.ensures.1 in
    (c.requires, omega arith, rw e (corner_in_range _ c.requires 2 (omega arith)))

pub returns-then-words-ge3 : goal.returns-then-words-ge3
returns-then-words-ge3 c =
    solid_told _ _ (omega arith) (corner_read _ _ 2 (omega arith) c.corner.ensures.0 c.corner.ensures.1) (read c.side.type_inv c.side.ensures.value)
