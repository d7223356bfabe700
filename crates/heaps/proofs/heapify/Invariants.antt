use Prim.Native.Nat.{◌≤◌}
use Rattle.heaps.specs.inner.Heaps.{Heap, Rearranged}
use Rattle.heaps.proofs.heapify.Given as goal

abbrev pub invariant-loop-i : goal.invariant-loop-i
invariant-loop-i l = Rearranged l.initial.order l.order l.n × Heap l.bounds l.key l.order l.i l.n × (l.i ≤ l.n)
