use Rattle.share_answers.proofs.Loops.{SumTo}
use Rattle.shares.specs.Shares.{one}
use Rattle.share_answers.specs.inner.Asked.{run_places}
use Rattle.book.specs.Book.{free}
use Prim.Native.Nat.{◌≤◌}
use Rattle.share_answers.proofs.Lent.free_numbers.Given as goal

abbrev pub invariant-loop-m : goal.invariant-loop-m
invariant-loop-m l = (l.n ≤ l.m) × SumTo (λ k. one (free (run_places l.self.runs.now) k)) l.m l.n
