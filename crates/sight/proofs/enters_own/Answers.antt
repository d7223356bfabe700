use Prim.Native.Nat.{◌/◌}
use native.Mathlib.Omega.{arith}
use Rattle.geometry.proofs.Searching.{part_is, part_bounded}
use Rattle.sight.proofs.Tests.{own_hides}
use Rattle.sight.proofs.enters_own.Goals as goal

pub enters_at-requires : goal.enters_at-requires
enters_at-requires c =
    let t = c.args.blocks.now in
    let n = c.args.v / 8 in
    (part_bounded t n c.requires.0.fit.blocks (omega arith), rw (part_is t n) (c.requires.0.turns n (omega arith)), c.if-k-words.true, c.requires.2)

pub returns-then-k-words : goal.returns-then-k-words
returns-then-k-words c =
    λ e. (omega arith, own_hides c.args.blocks.now c.args.runs.now c.args.v (omega arith) _ c.if-k-words.true (c.enters_at.ensures e))
