use mathlib.Core.Path.{◌≡◌}
use Rattle.totals.specs.Totals.{found_sum}
use Rattle.totals.proofs.found_sum.Given as goal

abbrev pub invariant-loop-m : goal.invariant-loop-m
invariant-loop-m l = l.sum ≡ found_sum l.m l.routes
