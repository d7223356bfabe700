use Prim.Native.Nat.{◌-◌}
use Rattle.geometry.specs.Words.{point_of}
use Rattle.codes.proofs.Hiding.{LookedTo}
use Rattle.codes.proofs.look.Given as goal

abbrev pub invariant-loop-n : goal.invariant-loop-n
invariant-loop-n l = LookedTo l.blocks l.codes l.i l.j (point_of l.a) (point_of l.b) l.n l.opened

abbrev pub decreases-loop-n : goal.decreases-loop-n
decreases-loop-n l = 24 - l.n
