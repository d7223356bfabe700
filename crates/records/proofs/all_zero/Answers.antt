use mathlib.Core.Path.{◌≡◌}
use lib.Dec.{eqb}
use borrow.Author.Rules.{rules}
use borrow.Author.Tests.{eq-eqb, eqb-true}
use Rattle.records.specs.Questions.{zero_from}
use Rattle.records.proofs.All.{all_told}
use Rattle.records.proofs.all_zero.Goals as goal

pub returns : goal.returns
unfolding zero_from
returns c = all_told (λ x. eqb x 0) (λ x. x ≡ 0) (λ x h. eq-eqb x 0 h) (λ x h. eqb-true x 0 h) _ _ (search rules)
