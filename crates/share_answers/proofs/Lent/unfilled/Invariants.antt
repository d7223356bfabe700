use Prim.Native.Nat.{◌*◌, ◌≤◌}
use Rattle.shares.specs.Shares.{unfilled_of}
use Rattle.share_answers.proofs.Loops.{SumTo}
use Rattle.share_answers.proofs.Lent.unfilled.Given as goal

abbrev pub invariant-loop-c : goal.invariant-loop-c
invariant-loop-c l = (l.n ≤ 255 * l.c) × SumTo (λ k. unfilled_of l.self.holders.now l.self.shares.now k) l.c l.n
