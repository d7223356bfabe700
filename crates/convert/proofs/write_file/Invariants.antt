use Rattle.convert.proofs.Filling.{Filling}
use Prim.Native.Nat.{◌-◌}
use lib.ListN.{length}
use Rattle.convert.proofs.write_file.Given as goal

abbrev pub invariant-loop-at : goal.invariant-loop-at
invariant-loop-at l = Filling l.file l.target l.initial.out l.out l.at l.to

abbrev pub decreases-loop-at : goal.decreases-loop-at
decreases-loop-at l = length l.file - l.at
