use borrow.Author.Rules.{rules}
use Rattle.drawn_routes.proofs.Filling.{into_kind, into_points, piece_none, piece_straight, piece_bend}
use Rattle.drawn_routes.proofs.fill_piece.Goals as goal

pub returns-then-kind-ne1 : goal.returns-then-kind-ne1
returns-then-kind-ne1 c = search into_kind

pub returns-then-points-ne6 : goal.returns-then-points-ne6
returns-then-points-ne6 c = search into_points

pub returns-in_default : goal.returns-in_default
returns-in_default c = piece_none _ _ _ _ _ (search rules) (search rules) c.in_ok-drawn.ensures c.in_default.not-Some c.put_kind.ensures c.put_three.ensures c.nowhere-o.ensures

pub returns-in-Straight : goal.returns-in-Straight
returns-in-Straight c =
    piece_straight _ _ _ _ _ (search rules) (search rules) (rw c.in-Some.is at c.in_ok-drawn.ensures) c.in-Straight.is c.put_kind-in-Straight.ensures
    c.put_three-in-Straight.ensures (search rules)

pub returns-in-Bend : goal.returns-in-Bend
returns-in-Bend c =
    piece_bend _ _ _ _ _ (search rules) (search rules) (rw c.in-Some.is at c.in_ok-drawn.ensures) c.in-Bend.is c.put_kind-in-Bend.ensures c.put_three-in-Bend.ensures
