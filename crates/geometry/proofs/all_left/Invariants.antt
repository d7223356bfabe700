use mathlib.Core.Path.{◌≡◌}
use mathlib.Core.Bool.{true}
use Rattle.geometry.specs.Words.{corners}
use Rattle.geometry.specs.Convexity.{side_test}
use Rattle.lists.specs.Lists.{all_below}
use Rattle.geometry.proofs.all_left.Given as goal

abbrev pub invariant-loop-l : goal.invariant-loop-l
invariant-loop-l now = all_below now.l (λ j. side_test (corners now.words) now.k j) ≡ true
