use Prim.Native.Nat.{◌-◌}
use Rattle.heaps.specs.inner.Heaps.{Rearranged}
use Rattle.heaps.proofs.Heaps.{Sinking}
use Rattle.heaps.proofs.sift.Given as goal

abbrev pub invariant-loop-at : goal.invariant-loop-at
invariant-loop-at l = Rearranged l.initial.order l.order l.n × Sinking l.bounds l.key l.order l.i l.at l.n

abbrev pub decreases-loop-at : goal.decreases-loop-at
decreases-loop-at l = l.n - l.at
