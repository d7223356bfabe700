use mathlib.Core.Path.{refl}
use Rattle.geometry.specs.Words.{point_of}
use Rattle.code_table.proofs.Narrow.{read}
use Rattle.code_table.proofs.Lines.{line_at, corner_small}
use Rattle.code_table.proofs.line_of.Goals as goal

pub difference-east-requires : goal.difference-east-requires
difference-east-requires c = (
  (corner_small _ _ (point_of c.corner-q.result) c.requires.0 (rw c.from-m.ensures at c.next.ensures.below) c.corner-q.ensures).0,
  (corner_small _ _ (point_of c.corner-p.result) c.requires.0 c.requires.1 c.corner-p.ensures).0,
)

pub difference-north-requires : goal.difference-north-requires
difference-north-requires c = (
  (corner_small _ _ (point_of c.corner-q.result) c.requires.0 (rw c.from-m.ensures at c.next.ensures.below) c.corner-q.ensures).1,
  (corner_small _ _ (point_of c.corner-p.result) c.requires.0 c.requires.1 c.corner-p.ensures).1,
)

pub across-requires : goal.across-requires
across-requires c =
    let f = corner_small _ _ (point_of c.corner-p.result) c.requires.0 c.requires.1 c.corner-p.ensures in
    rw (read c.difference-east.type_inv refl, read c.difference-north.type_inv refl) (c.difference-east.ensures.small, c.difference-north.ensures.small, record { east = f.0; north = f.1 })

pub returns : goal.returns
returns c =
    rw (read c.difference-east.type_inv refl, read c.difference-north.type_inv refl, read c.across.type_inv refl)
    (line_at _ _ _ (point_of c.corner-p.result) (point_of c.corner-q.result) _ _ _ c.requires.1 (rw c.from-m.ensures at c.next.ensures.below) (rw c.from-m.ensures at c.next.ensures.value) c.corner-p.ensures c.corner-q.ensures
    c.difference-east.ensures.value c.difference-north.ensures.value (record { east = c.difference-east.ensures.small; north = c.difference-north.ensures.small }) (record { sfits = c.across.type_inv })
    (rw (read c.difference-east.type_inv refl, read c.difference-north.type_inv refl) at c.across.ensures))
