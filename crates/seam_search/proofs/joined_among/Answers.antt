-- The loop keeps: no block whose bit is passed is met.
use Prim.Native.Nat.{◌<◌}
use native.Mathlib.Omega.{arith}
use Rattle.seam_search.proofs.Walking.{walked_whole, walked_set, walked_next, joined_yes, joined_no}
use Rattle.seam_search.proofs.joined_among.Goals as goal

pub loop-rest-init : goal.loop-rest-init
loop-rest-init c = walked_whole

pub overflow_cast-q : goal.overflow_cast-q
overflow_cast-q c = omega (arith, c.lowest-q.ensures.within)

pub meets_block-requires : goal.meets_block-requires
meets_block-requires c = record { blocks = (c.requires.blocks.0, (let h : c.lowest-q.result < 24 = c.requires.blocks.1.each _ (walked_set c.loop-rest.invariant c.lowest-q.ensures) in h)); kept = c.requires.kept; ends = c.requires.ends }

pub returns-then-meets_block : goal.returns-then-meets_block
returns-then-meets_block c =
    joined_yes _ (walked_set c.loop-rest.invariant c.lowest-q.ensures) (c.meets_block.ensures.yes' c.if-meets_block.true)

pub loop-rest-smaller : goal.loop-rest-smaller
loop-rest-smaller c = c.without_lowest-rest.ensures.fewer

pub loop-rest-preserved : goal.loop-rest-preserved
loop-rest-preserved c =
    walked_next c.loop-rest.invariant c.lowest-q.ensures c.without_lowest-rest.ensures (c.meets_block.ensures.no' c.if-meets_block.false)

pub returns : goal.returns
returns c = joined_no c.loop-rest.invariant (omega arith)
