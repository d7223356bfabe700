use Rattle.records.specs.Questions.{run_right}
use Rattle.tables.specs.Tables.{run_words}
use Rattle.lists.specs.Lists.{all_below}
use mathlib.Core.Bool.{true}
use mathlib.Core.Path.{◌≡◌}
use Rattle.records.proofs.runs_right.Given as goal

abbrev pub invariant-loop-m : goal.invariant-loop-m
invariant-loop-m l = all_below l.m (λ k. run_right (run_words l.runs k)) ≡ true
