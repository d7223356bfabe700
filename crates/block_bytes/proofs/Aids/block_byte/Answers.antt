use native.Mathlib.Omega.{arith}
use Rattle.block_bytes.proofs.Edited.{pair_fresh, pair_lower, pair_beside}
use Rattle.block_bytes.proofs.Aids.block_byte.Goals as goal
use Rattle.block_bytes.proofs.Aids.block_byte.Goals.{then-from-n-via-then-from-n, then-from-n-via-else-from-n+then-is_beside}

pub returns-then-asks_fresh : goal.returns-then-asks_fresh
returns-then-asks_fresh c = search pair_fresh

pub returns-then-from-n : goal.returns-then-from-n
returns-then-from-n c =
    let r = c.requires in
    elim c.then-from-n.branch [
      | then-from-n-via-then-from-n w ↦ pair_lower _ _ _ _ _ _ c.asks_fresh.ensures c.if-asks_fresh.false (omega (arith, w.if-from-n.true, c.from.ensures))
      | then-from-n-via-else-from-n+then-is_beside w ↦ pair_beside _ _ _ _ _ _ _ _ _ r.0.coded r.1 r.2 r.3 c.asks_fresh.ensures c.if-asks_fresh.false w.is_beside.ensures w.if-is_beside.true
    ]
