-- Each return is one case of `RouteIs`. The search is over the list of corners, and so over the corners.
use mathlib.Core.Path.{◌≡◌, refl}
use native.Mathlib.Omega.{arith}
use lib.ListN.{length-set}
use Rattle.lists.specs.inner.Filled.{filled}
use Rattle.tables.specs.Tables.{stored}
use Rattle.search.specs.inner.Keys.{unreached}
use Rattle.search.proofs.Steps.{filled_all}
use Rattle.routing.proofs.Written.{cleared, absent_record, no_way_record, found_record}
use Rattle.lazy_routes.proofs.Corners.{ends_listed, ends_same, searched_as}
use Rattle.lazy_routes.proofs.route.Goals as goal

pub returns-then-runs-m-eq0 : goal.returns-then-runs-m-eq0
returns-then-runs-m-eq0 c = absent_record _ _ _ _ ((let h : c.fill.new.list ≡ filled 197 0 = cleared _ c.requires.2 c.fill.ensures in h)) c.if-runs-m-eq0.true

pub mark_near-requires : goal.mark_near-requires
mark_near-requires c = (c.requires.0.fit.blocks, refl)

pub settle-requires : goal.settle-requires
settle-requires c =
    (c.requires.0, c.mark_near.ensures, c.requires.1, ends_listed c.list_corners-n.ensures c.args.m, filled_all 240 unreached)

pub walk-count-requires : goal.walk-count-requires
walk-count-requires c =
    let t = searched_as (stored c.args.blocks.now c.args.runs.now) (ends_same c.list_corners-n.ensures c.args.m) c.settle.ensures in
    record { sound = (c.requires.0, c.mark_near.ensures); m_bound = (c.requires.1, t.way c.if-settle.true, (let h : c.fill.new.list ≡ filled 197 0 = cleared _ c.requires.2 c.fill.ensures in h)) }

pub bounds-part-1 : goal.bounds-part-1
bounds-part-1 c = simp length-set (omega arith)

pub bounds-part-2 : goal.bounds-part-2
bounds-part-2 c = simp length-set (omega arith)

pub shape_of-part-then-settle : goal.shape_of-part-then-settle
shape_of-part-then-settle c = simp length-set (omega arith)

pub returns-then-settle : goal.returns-then-settle
returns-then-settle c =
    found_record _ _ _ _ _ _ c.requires.0.fit c.requires.1 c.if-runs-m-eq0.false c.walk-count.ensures

pub returns-else-settle : goal.returns-else-settle
returns-else-settle c =
    let t = searched_as (stored c.args.blocks.now c.args.runs.now) (ends_same c.list_corners-n.ensures c.args.m) c.settle.ensures in
    no_way_record _ _ _ _ ((let h : c.fill.new.list ≡ filled 197 0 = cleared _ c.requires.2 c.fill.ensures in h)) c.requires.0.fit c.requires.1 c.if-runs-m-eq0.false (t.no_way c.if-settle.false)
