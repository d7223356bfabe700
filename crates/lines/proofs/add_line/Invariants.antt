use Rattle.lines.proofs.Lists.{Inserting}
use Prim.Native.Nat.{◌<◌}
use lib.ListN.{length}
use Rattle.lines.proofs.add_line.Given as goal

abbrev pub invariant-loop-j : goal.invariant-loop-j
invariant-loop-j l = (l.n < length l.initial.list) × Inserting l.initial.list l.n l.x l.list l.carried l.j
