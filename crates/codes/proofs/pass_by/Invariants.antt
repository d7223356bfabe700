use Prim.Native.Nat.{◌-◌}
use Rattle.codes.specs.inner.Codes.{PassedBy}
use Rattle.codes.proofs.pass_by.Given as goal

abbrev pub invariant-loop-n : goal.invariant-loop-n
invariant-loop-n l = PassedBy l.codes l.i l.j l.from l.n

abbrev pub decreases-loop-n : goal.decreases-loop-n
decreases-loop-n l = 24 - l.n
