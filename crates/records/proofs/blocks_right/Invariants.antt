use Rattle.records.specs.Questions.{block_right}
use Rattle.geometry.specs.Words.{block_words}
use Rattle.lists.specs.Lists.{all_below}
use mathlib.Core.Bool.{true}
use mathlib.Core.Path.{◌≡◌}
use Rattle.records.proofs.blocks_right.Given as goal

abbrev pub invariant-loop-n : goal.invariant-loop-n
invariant-loop-n l = all_below l.n (λ k. block_right (block_words l.blocks k)) ≡ true
