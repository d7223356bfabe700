use Prim.Native.Nat.{◌+◌, ◌*◌}
use Rattle.geometry.specs.Words.{word}
use Rattle.listing.specs.Lines.{joined, labelled}
use Rattle.listing.specs.inner.Put.{Put}
use Rattle.listing.proofs.put_marks.Given as goal

abbrev pub invariant-loop-k : goal.invariant-loop-k
invariant-loop-k l = Put (21 * l.k) l.initial.out l.at (joined l.k (λ k. labelled " " (word l.words (3 + k)))) l.out l.end
