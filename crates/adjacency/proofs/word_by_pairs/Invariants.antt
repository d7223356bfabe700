use Rattle.adjacency.specs.inner.Adjacent.{Adjacent}
use Rattle.adjacency.proofs.Words.{Part}
use Rattle.adjacency.proofs.word_by_pairs.Given as goal

abbrev pub invariant-loop-k : goal.invariant-loop-k
invariant-loop-k l = Part (Adjacent l.blocks l.pairs l.v) l.q l.k l.w
