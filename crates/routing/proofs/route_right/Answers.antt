use mathlib.Core.Path.{◌≡◌}
use borrow.Author.Rules.{rules}
use Rattle.lists.specs.inner.Tells.{Tells}
use Rattle.routing.proofs.Checking.{route_told}
use Rattle.routing.proofs.route_right.Goals as goal

pub returns : goal.returns
returns c =
    let same : Tells (c.args.part.now ≡ c.route.new.part) c.eq.result = search rules in
    route_told _ _ _ _ _ _ c.route.ensures same
