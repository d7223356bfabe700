use Rattle.share_answers.proofs.Loops.{SumTo}
use Rattle.geometry.specs.Words.{word}
use Prim.Native.Nat.{◌*◌, ◌≤◌}
use Rattle.share_answers.proofs.Lent.promised.Given as goal

abbrev pub invariant-loop-share : goal.invariant-loop-share
invariant-loop-share l = (l.n ≤ 255 * l.share-index) × SumTo (λ k. word l.self.shares.now k) l.share-index l.n
