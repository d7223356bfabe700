use Prim.Native.Nat.{◌*◌}
use Rattle.tables.specs.Tables.{route_words}
use Rattle.listing.specs.Lines.{joined, run_line}
use Rattle.listing.specs.inner.Put.{Put}
use Rattle.listing.proofs.put_runs.Given as goal

abbrev pub invariant-loop-m : goal.invariant-loop-m
invariant-loop-m l = Put (4133 * l.m) l.initial.out l.at (joined l.m (λ m. run_line m (route_words l.routes m))) l.out l.end
