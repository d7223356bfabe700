use mathlib.Core.Path.{◌≡◌}
use mathlib.Core.Bool.{true}
use Rattle.geometry.specs.Words.{word, corners}
use Rattle.geometry.specs.Convexity.{side_test}
use Rattle.lists.specs.Lists.{all_below}
use Rattle.geometry.proofs.is_convex.Given as goal

abbrev pub invariant-loop-k : goal.invariant-loop-k
invariant-loop-k now = all_below now.k (λ j. all_below (word now.words 0) (λ l. side_test (corners now.words) j l)) ≡ true
