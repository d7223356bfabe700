use Prim.Native.Nat.{◌+◌, ◌*◌, ◌-◌}
use native.Mathlib.Omega.{arith}
use Rattle.tables.proofs.Pairs.{pair_in}
use Rattle.adjacency.proofs.Words.{part_none, part_small, part_next, part_whole, shows_row}
use Rattle.adjacency.proofs.word_by_row.Goals as goal

pub loop-k-init : goal.loop-k-init
loop-k-init c = part_none _ _

pub overflow_add-start : goal.overflow_add-start
overflow_add-start c = omega (arith, c.pair_index-start.ensures.below)

pub bounds-pairs-start : goal.bounds-pairs-start
bounds-pairs-start c =
    omega (arith, c.pair_index-start.ensures.value, pair_in (64 * c.args.q + (c.loop-k.k - 1)) c.args.v (omega arith) (omega arith))

pub below-w-requires : goal.below-w-requires
below-w-requires c = (part_small _ _ _ _ c.loop-k.invariant c.loop-k-test.true, c.clear_corner-x.ensures.small)

pub loop-k-preserved : goal.loop-k-preserved
loop-k-preserved c =
    let s = c.args in
    let near = shows_row _ _ s.v (64 * s.q) _ _ _ c.pair_index-start.ensures.value c.clear_corner-x.ensures (omega arith) in
    part_next _ _ _ _ c.loop-k.invariant c.loop-k-test.true _ _ near c.below-w.ensures.0 c.below-w.ensures.1 c.below-w.ensures.2

pub returns : goal.returns
returns c = part_whole _ _ _ _ c.loop-k.invariant (omega arith)
