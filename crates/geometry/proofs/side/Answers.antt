use mathlib.Core.Path.{◌∙◌, sym, subst}
use lib.Dec.{lit≤}
use lib.IntN.{ℤ}
use Rattle.geometry.specs.Words.{point_of}
use Rattle.geometry.specs.inner.Sides.{Within}
use Rattle.geometry.proofs.Bound.{read, within_more}
use Rattle.geometry.proofs.Corners.{side_is, side_small}
use Rattle.geometry.proofs.side.Goals as goal

pub returns : goal.returns
returns c =
    let e = read c.turn.type_inv (c.turn.ensures ∙ side_is c.args.words.now _ _ (point_of c.args.x) c.args.k c.next.result c.requires.1 c.next.ensures.below c.next.ensures.value
    c.corner-p.ensures.0 c.corner-p.ensures.1 c.corner-q.ensures.0 c.corner-q.ensures.1) in
    record { value = e; small = subst (λ (z : ℤ). Within 2200000000 z) (sym e) (within_more (side_small _ c.requires.0 _ _ c.requires.2 c.requires.1) (lit≤ tt)) }
