use mathlib.Core.Path.{◌≡◌, sym, ap, ◌∙◌}
use native.Mathlib.Omega.{arith}
use borrow.Author.Rules.{rules}
use Rattle.tables.proofs.Pairs.{tri, tri_zero, tri_next, tri_below, tri_240, pair_tri}
use Rattle.adjacency.proofs.Entering.{entered_none, entered_all}
use Rattle.adjacency.proofs.fill_corners.Goals as goal

pub loop-j-init : goal.loop-j-init
loop-j-init c = (sym tri_zero, search entered_none)

pub enter_row-requires : goal.enter_row-requires
enter_row-requires c = record { blocks_len = (search rules, search rules, search rules, omega (arith, pair_tri 0 c.loop-j.j, c.loop-j.invariant.0)); entered = c.loop-j.invariant.1 }

pub overflow_add-start : goal.overflow_add-start
overflow_add-start c = let l = c.loop-j in omega (arith, tri_below l.j 240 (omega arith), tri_240)

pub loop-j-preserved : goal.loop-j-preserved
loop-j-preserved c = (omega (arith, tri_next c.loop-j.j), c.enter_row.ensures)

pub returns : goal.returns
returns c =
    let l = c.loop-j in
    let e : l.j ≡ 192 = omega arith in
    entered_all _ _ _ _ _ (l.invariant.0 ∙ ap tri e) (search rules) l.invariant.1
