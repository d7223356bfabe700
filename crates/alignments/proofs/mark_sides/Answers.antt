-- The loop keeps: the bytes are those of the sides from k on.
use mathlib.Core.Path.{◌≡◌}
use Prim.Native.Nat.{◌+◌, ◌-◌}
use native.Mathlib.Omega.{arith}
use Rattle.alignments.proofs.Marking.{sides_end, sides_first}
use Rattle.alignments.proofs.mark_sides.Goals as goal

pub loop-k-init : goal.loop-k-init
loop-k-init c = rw c.from-k.ensures (sides_end _ _ _ _ c.requires.2)

pub mark_side-requires : goal.mark_side-requires
mark_side-requires c =
    let e : c.loop-k.k ≡ c.loop-k.k - 1 + 1 = omega arith in
    record { «record» = (c.requires.0, omega (arith, c.loop-k.auto.k, c.from-k.ensures)); marks = (c.requires.1, (rw e at c.loop-k.invariant)) }

pub returns : goal.returns
returns c = search sides_first
