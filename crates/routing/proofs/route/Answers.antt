-- Each return is one case of `RouteIs`.
use native.Mathlib.Omega.{arith}
use lib.ListN.{length-set}
use Rattle.search.specs.inner.Keys.{unreached}
use Rattle.search.proofs.Steps.{filled_all}
use Rattle.routing.proofs.Written.{cleared, absent_record, no_way_record, found_record}
use Rattle.routing.proofs.route.Goals as goal

pub returns-then-runs-m-eq0 : goal.returns-then-runs-m-eq0
returns-then-runs-m-eq0 c = absent_record _ _ _ _ (cleared _ c.requires.fit.3 c.fill.ensures) c.if-runs-m-eq0.true

pub settle-requires : goal.settle-requires
settle-requires c =
    record {
      fit = (c.requires.fit.0, c.requires.rows.1);
      told = (
        (c.requires.fit.0.blocks.sized, c.requires.fit.1, c.requires.rows.0),
        λ v l. (c.requires.fit.0.blocks.sized, c.requires.fit.1, c.requires.rows.0),
      );
      m_bound = (c.requires.fit.2, filled_all 240 unreached);
    }

pub walk-n-requires : goal.walk-n-requires
walk-n-requires c = record { searchable = record { fit = c.requires.fit.0; sized = c.requires.fit.1 }; m_bound = (c.requires.fit.2, c.settle.ensures.way c.if-settle.true, (cleared _ c.requires.fit.3 c.fill.ensures)) }

pub bounds-part-1 : goal.bounds-part-1
bounds-part-1 c = simp length-set (omega arith)

pub bounds-part-2 : goal.bounds-part-2
bounds-part-2 c = simp length-set (omega arith)

pub shape_of-part-then-settle : goal.shape_of-part-then-settle
shape_of-part-then-settle c = simp length-set (omega arith)

pub returns-then-settle : goal.returns-then-settle
returns-then-settle c = found_record _ _ _ _ _ _ c.requires.fit.0 c.requires.fit.2 c.if-runs-m-eq0.false c.walk-n.ensures

pub returns-else-settle : goal.returns-else-settle
returns-else-settle c = no_way_record _ _ _ _ (cleared _ c.requires.fit.3 c.fill.ensures) c.requires.fit.0 c.requires.fit.2 c.if-runs-m-eq0.false (c.settle.ensures.no_way c.if-settle.false)
