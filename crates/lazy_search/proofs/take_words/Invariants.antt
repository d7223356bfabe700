use Rattle.lazy_search.specs.inner.Lazy.{Taken}
use Rattle.lazy_search.proofs.take_words.Given as goal

abbrev pub invariant-loop-j : goal.invariant-loop-j
invariant-loop-j l = Taken l.words l.order l.j l.initial.key l.key
