use borrow.Author.Rules.{rules}
use Rattle.drawn_routes.proofs.Routes.{curved_lists, part_end, part_drawable, curved_done}
use Rattle.drawn_routes.proofs.bend_points.Goals as goal

pub returns-then-points-ne18 : goal.returns-then-points-ne18
returns-then-points-ne18 c = search curved_lists

pub slice_bounds-bent-end : goal.slice_bounds-bent-end
slice_bounds-bent-end c = part_end _ _ _ _ _ _ c.in_ok-asked.ensures

pub bent-requires : goal.bent-requires
bent-requires c = (part_drawable _ _ _ _ _ _ c.in_ok-asked.ensures, search rules)

pub returns : goal.returns
returns c = curved_done _ _ _ _ _ _ c.in_ok-asked.ensures _ _ _ _ (search rules) c.bent.ensures
