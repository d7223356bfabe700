use Rattle.share_answers.proofs.Loops.{SumTo}
use Rattle.shares.specs.Shares.{one}
use lib.Dec.{eqb}
use Rattle.geometry.specs.Words.{word}
use Prim.Native.Nat.{◌≤◌}
use Rattle.share_answers.proofs.Lent.held.Given as goal

abbrev pub invariant-loop-holder : goal.invariant-loop-holder
invariant-loop-holder l = (l.n ≤ l.holder-index) × SumTo (λ k. one (eqb (word l.self.holders.now k) l.contractor)) l.holder-index l.n
