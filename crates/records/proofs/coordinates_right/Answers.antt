use Prim.Native.Nat.{◌≤◌}
use borrow.Author.Rules.{rules}
use borrow.Author.Tests.{le-leb, leb-true}
use Rattle.records.specs.Questions.{coordinate_right}
use Rattle.records.proofs.All.{all_told}
use Rattle.records.proofs.coordinates_right.Goals as goal

pub returns : goal.returns
returns c = all_told coordinate_right (λ x. x ≤ 32767) (λ x h. le-leb x 32767 h) (λ x h. leb-true x 32767 h) _ _ (search rules)
