use Rattle.drawn_routes.proofs.Routes.{part_end, part_drawable, piece_drawn}
use Rattle.drawn_routes.proofs.piece.Goals as goal

pub slice_bounds-drawn-end : goal.slice_bounds-drawn-end
slice_bounds-drawn-end c = part_end _ _ _ _ _ _ c.in_ok-asked.ensures

pub drawn-requires : goal.drawn-requires
drawn-requires c = part_drawable _ _ _ _ _ _ c.in_ok-asked.ensures

pub returns : goal.returns
returns c = piece_drawn _ _ _ _ _ _ c.in_ok-asked.ensures _ _ c.drawn.ensures
