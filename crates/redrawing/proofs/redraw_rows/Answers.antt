use mathlib.Core.Path.{sym}
use native.Mathlib.Omega.{arith}
use borrow.Author.Rules.{rules}
use Rattle.tables.proofs.Pairs.{tri_zero, tri_next}
use Rattle.redrawing.proofs.Rows.{row_end, row_lent, rows_none, rows_next, rows_all}
use Rattle.redrawing.proofs.redraw_rows.Goals as goal

pub loop-j-init : goal.loop-j-init
loop-j-init c = (sym tri_zero, search rows_none)

pub overflow_add-start : goal.overflow_add-start
overflow_add-start c = let l = c.loop-j in omega (arith, row_end l.start l.j l.invariant.0 (omega arith))

pub slice_bounds-redraw_row-count : goal.slice_bounds-redraw_row-count
slice_bounds-redraw_row-count c = omega arith

pub slice_bounds-redraw_row-end : goal.slice_bounds-redraw_row-end
slice_bounds-redraw_row-end c = let l = c.loop-j in omega (arith, row_end l.start l.j l.invariant.0 (omega arith))

pub redraw_row-requires : goal.redraw_row-requires
redraw_row-requires c = search (rules, row_lent)

pub overflow_add-start-in-loop-j : goal.overflow_add-start-in-loop-j
overflow_add-start-in-loop-j c = let l = c.loop-j in omega (arith, row_end l.start l.j l.invariant.0 (omega arith))

pub loop-j-preserved : goal.loop-j-preserved
loop-j-preserved c = (omega (arith, tri_next c.loop-j.j), search rows_next)

pub returns : goal.returns
returns c = search rows_all
