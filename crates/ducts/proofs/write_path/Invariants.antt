use Prim.Native.Nat.{◌-◌}
use lib.ListN.{take}
use Rattle.std.specs.Prelude.{map}
use Rattle.crossings.specs.inner.Directions.{code}
use Rattle.walks.specs.inner.Paths.{visits}
use Rattle.ducts.proofs.Writing.{Written}
use Rattle.ducts.proofs.write_path.Given as goal

abbrev pub invariant-loop-k : goal.invariant-loop-k
invariant-loop-k l = Written l.xs l.ys (visits l.start (take (l.n - 1) (map code l.trail))) l.n l.crossings l.v l.k
