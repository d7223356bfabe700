use Rattle.geometry.specs.Words.{word}
use Rattle.heaps.specs.inner.Sums.{whole}
use Rattle.heaps.proofs.Sums.{BestTo}
use Rattle.heaps.proofs.least.Given as goal

abbrev pub invariant-loop-j : goal.invariant-loop-j
invariant-loop-j l = BestTo (λ i. whole l.bounds l.key (word l.order i)) l.lo l.hi l.best l.low l.j
