use Prim.Native.Nat.{◌≤◌}
use Rattle.tables.specs.Tables.{stored}
use Rattle.run_prices.proofs.Filling.{PricedTo}
use Rattle.run_prices.proofs.price_runs.Given as goal

abbrev pub invariant-loop-m : goal.invariant-loop-m
invariant-loop-m l = (l.m ≤ 24) × PricedTo (stored l.blocks l.runs) l.quote l.m
